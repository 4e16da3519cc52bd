-- Timers are set where records are, and stay where members move or leave.
use Rattle.std.proofs.Common.{List, ◌≡◌, ◌≢◌, refl, ℕ, Bool, true, false, true≢false, Option, Some, None, is_some, inl, inr, ap, sym, subst, ◌∙◌, arith, if◌then◌else◌}
use Rattle.std.proofs.lemmas.Bool.{cases_eq}
use Rattle.std.proofs.lemmas.Option.{same_Some}
use Rattle.std.specs.FinMap.{FinMap, get}
use Rattle.std.specs.Ordering.{nat_cmp}
use Rattle.moka_records.specs.declared.records.Record.{Record}
use Rattle.moka_records.specs.declared.records.Member.{Member}
use Rattle.moka_records.specs.Records.{counted_of, is_applied, is_member, without_member}
use Rattle.moka_records.specs.Time.{has_passed, moment_of}
use Rattle.moka_parts.specs.Visibility.{is_expired}
use Rattle.moka_records.proofs.AccessList.{uncounted_taken_out}
use Rattle.moka_store.specs.Store.{Kept, with_timer}
use Rattle.moka_table.proofs.TableMaps.{get-altered, get-past_altered}
use Rattle.moka_maintenance.specs.Timers.{AreOnTime, AreTimed, HasNoneDue, KeepsTimers, SetsTimers, StandsAtExpiry}

-- who is a member once one was taken out was one before
pub member-was : (n k : ℕ) (access : List Member) → is_member k (without_member n access) ≡ true → is_member k access ≡ true
member-was n k access there = go (counted_of k access) refl
  where
    go : (o : Option ℕ) → counted_of k access ≡ o → is_member k access ≡ true
    go (Some w) e = ap is_some e
    go None e = absurd (true≢false (sym there ∙ ap is_some (uncounted_taken_out n k access e)))

-- ---- a timer is set, where timers are kept

module _ (timed : Bool) (timers : FinMap nat_cmp ℕ) (n : ℕ) (o : Option ℕ) where
  pub timer-set : timed ≡ true → get (if timed then with_timer timers n o else timers) n ≡ o
  timer-set kept = ap (λ b. get (if b then with_timer timers n o else timers) n) kept ∙ get-altered timers n o

  pub timer-past : (k : ℕ) → k ≢ n → get (if timed then with_timer timers n o else timers) k ≡ get timers k
  timer-past k other = elim timed as (λ b. get (if b then with_timer timers n o else timers) k ≡ get timers k) [ true ↦ get-past_altered timers n o k other | false ↦ refl ]

module _ {K V : Type 0} where
  pub keeps-none : {S : Type 0} → (k : Kept K V S) → KeepsTimers k k
  keeps-none k = record { ordered = refl; timed = refl; hasher = refl; set = λ _ n r there is_in applied. inl (there, is_in, refl) }

  pub keeps-on : {S : Type 0} → (a b c : Kept K V S) → KeepsTimers a b → KeepsTimers b c → KeepsTimers a c
  keeps-on a b c h j = record {
    ordered = j.ordered ∙ h.ordered;
    timed = j.timed ∙ h.timed;
    hasher = j.hasher ∙ h.hasher;
    set = λ kept n r there is_in applied. elim (j.set (h.timed ∙ kept) n r there is_in applied) [
      | inl same ↦ elim (h.set kept n r same.0 same.1 applied) [
        | inl before ↦ inl (before.0, before.1, same.2 ∙ before.2)
        | inr at ↦ inr (same.2 ∙ at)
      ]
      | inr at ↦ inr at
    ];
  }

  module _ {S : Type 0} (old new : Kept K V S) (n : ℕ) (records : (k : ℕ) → k ≢ n → get new.records k ≡ get old.records k) (members : (k : ℕ) → k ≢ n → is_member k new.access ≡ true → is_member k old.access ≡ true) (timers : (k : ℕ) → k ≢ n → get new.timers k ≡ get old.timers k) where
    -- the timer of a member stands at its record's expiry, and the others stay as they are
    pub sets-at : ((r : Record K V) → get new.records n ≡ Some r → is_member n new.access ≡ true → get new.timers n ≡ moment_of r.expires) → SetsTimers old new
    sets-at own k r there is_in applied = elim (cases_eq k n) [
      | inl same ↦ inr (ap (get new.timers) same ∙ own r (sym (ap (get new.records) same) ∙ there) (sym (ap (λ x. is_member x new.access) same) ∙ is_in))
      | inr other ↦ inl (sym (records k other) ∙ there, members k other is_in, timers k other)
    ]

    -- a number is no member in the end
    pub sets-outside : counted_of n new.access ≡ None → SetsTimers old new
    sets-outside out = sets-at (λ r there is_in. absurd (true≢false (sym is_in ∙ ap is_some out)))

  -- ---- at its record's expiry

  module _ {S : Type 0} (mid new : Kept K V S) (n : ℕ) (r : Record K V) (found : get mid.records n ≡ Some r) (step : new ≡ record mid { timers = if mid.timed then with_timer mid.timers n (moment_of r.expires) else mid.timers }) where
    pub stands-set : StandsAtExpiry n new
    stands-set =
        subst (λ (k : Kept K V S). StandsAtExpiry n k) (sym step)
        (λ kept p there is_in. timer-set mid.timed mid.timers n (moment_of r.expires) kept ∙ ap (λ (x : Record K V). moment_of x.expires) (same_Some r p (sym found ∙ there)))

    pub stands-past : (k : ℕ) → StandsAtExpiry k mid → StandsAtExpiry k new
    stands-past k stands = elim (cases_eq k n) [
      | inl same ↦ subst (λ m. StandsAtExpiry m new) (sym same) stands-set
      | inr other ↦
          subst (λ (k' : Kept K V S). StandsAtExpiry k k') (sym step)
          (λ kept p there is_in. timer-past mid.timed mid.timers n (moment_of r.expires) k other ∙ stands kept p there is_in)
    ]

  -- members move, and all else stays
  pub stands-moved : {S : Type 0} → (old new : Kept K V S) {xs : List Member} {ns : List ℕ} {cursor : Option ℕ} → new ≡ record old { access = xs; written = ns; cursor = cursor } → ((k : ℕ) → counted_of k new.access ≡ counted_of k old.access) → (k : ℕ) → StandsAtExpiry k old → StandsAtExpiry k new
  stands-moved {S} old new moved counted k stands =
      subst (λ (s : Kept K V S). StandsAtExpiry k s) (sym moved)
      (λ kept p there is_in. stands kept p there (sym (ap is_some (counted k)) ∙ ap (λ (s : Kept K V S). is_member k s.access) moved ∙ is_in))

-- ---- what is past its own expiry

module _ {K V : Type 0} where
  -- timers stay at their records' expiries
  pub still-timed : {S : Type 0} → (old new : Kept K V S) → old.timed ≡ true → KeepsTimers old new → AreTimed old → AreTimed new
  still-timed old new kept h timed n r there is_in applied = elim (h.set kept n r there is_in applied) [
    | inl same ↦ same.2 ∙ timed n r same.0 same.1 applied
    | inr at ↦ at
  ]

  -- where none is due, no settled member has expired
  pub lasts-timed : {S : Type 0} → (now : ℕ) (k : Kept K V S) → AreTimed k → HasNoneDue now k → (n : ℕ) (r : Record K V) → get k.records n ≡ Some r → is_member n k.access ≡ true → is_applied r ≡ true → is_expired r now ≡ false
  lasts-timed now k timed none n r there is_in applied = go (moment_of r.expires) (timed n r there is_in applied)
    where
      go : (o : Option ℕ) → get k.timers n ≡ o → has_passed o now ≡ false
      go None e = refl
      go (Some t) e = let later = none n t e in grind (arith, later)

  -- timers stay on time
  pub still-on_time : {S : Type 0} → (old new : Kept K V S) → KeepsTimers old new → ((n : ℕ) (r : Record K V) → get new.records n ≡ Some r → get old.records n ≡ Some r) → AreOnTime old → AreOnTime new
  still-on_time old new kept fewer (inl timed) = inl (kept.timed ∙ timed.0, still-timed old new timed.0 kept timed.1)
  still-on_time old new kept fewer (inr never) = inr (λ n r there. never n r (fewer n r there))

  pub lasts-on_time : {S : Type 0} → (now : ℕ) (k : Kept K V S) → AreOnTime k → HasNoneDue now k → (n : ℕ) (r : Record K V) → get k.records n ≡ Some r → is_member n k.access ≡ true → is_applied r ≡ true → is_expired r now ≡ false
  lasts-on_time now k (inl timed) none n r there is_in applied = lasts-timed now k timed.1 none n r there is_in applied
  lasts-on_time now k (inr never) none n r there is_in applied = ap (λ e. has_passed (moment_of e) now) (never n r there)
