-- How far a scan went, from what its round passed and what it removed.
use Rattle.std.proofs.Common.{◌≡◌, ℕ, ◌+◌, ◌≤◌, Bool, true, false, true≢false, cond, ◌==◌, List, [], ◌∷◌, ◌++◌, length, Option, None, is_some, inl, inr, ap, sym, subst, ◌∙◌, arith, append-nil}
use Rattle.std.proofs.lemmas.Bool.{cases_eq, or_left, or_right}
use Rattle.std.proofs.lemmas.List.Folds.{list_any-append}
use Rattle.std.specs.FinMap.{remove}
use Rattle.std.specs.List.{IsDistinct}
use Rattle.std.specs.Option.{option_map_or}
use Rattle.moka_parts.specs.declared.notification.RemovalCause.{RemovalCause}
use Rattle.moka_records.specs.declared.records.Member.{Member}
use Rattle.moka_records.specs.declared.records.Record.{Record}
use Rattle.moka_parts.specs.declared.records.Registered.{Registered}
use Rattle.moka_parts.specs.Grounds.{EndsScan}
use Rattle.moka_parts.specs.Maintenance.{Choice, Removes, MovesToBack, Drops}
use Rattle.moka_records.specs.Records.{IsListOf, Records, counted_of, is_applied, is_listed, is_member, is_settled, settled_numbers, without_member}
use Rattle.moka_parts.specs.Visibility.{NoneCovers}
use Rattle.moka_laws.proofs.Scanned.{listed_append}
use Rattle.moka_records.proofs.WriteList.{unlisted_all}
use Rattle.moka_store.specs.Store.{Kept}
use Rattle.moka_store.proofs.Gets.{get-past_remove}
use Rattle.moka_store.proofs.Members.{counted-without}
use Rattle.moka_maintenance.specs.Scan.{before_cursor, from_cursor, round_from, MayScan, GoesRound}
use Rattle.moka_maintenance.specs.Steps.{Stock, MayAll, IsStepped, after_step, after_steps, contents_in, stock_in}
use Rattle.moka_maintenance.proofs.Rounds.{before_and_from}
use Rattle.moka_maintenance.proofs.Walked.{settled-same}

-- a removal takes away at most one of the settled numbers
one_fewer : {K V : Type 0} (records : Records K V) (n : ℕ) (ns : List ℕ) → IsDistinct (◌==◌) ns → length (settled_numbers records ns) ≤ length (settled_numbers (remove records n) ns) + 1
unfolding IsDistinct
one_fewer records n [] once = omega arith
one_fewer {K} {V} records n (m ∷ ns) once = elim (cases_eq m n) [
  | inl e ↦
      let same = settled-same records (remove records n) ns (λ k listed. get-past_remove records n k (λ is. true≢false (sym listed ∙ ap (λ j. is_listed j ns) (is ∙ sym e) ∙ unlisted_all m ns once.0))) in
      let rest = ap length same in
      let most = at_most (is_settled records m) (settled_numbers records ns) in
      let least = at_least (is_settled (remove records n) m) (settled_numbers (remove records n) ns) in
      omega (arith, rest, most, least)
  | inr ne ↦
      let same = ap (λ o. option_map_or is_applied o false) (get-past_remove records n m ne) in
      subst (λ b. length (settled_numbers records (m ∷ ns)) ≤ length (cond b (m ∷ settled_numbers (remove records n) ns) (settled_numbers (remove records n) ns)) + 1) (sym same)
      (both (is_settled records m) (settled_numbers records ns) (settled_numbers (remove records n) ns) (one_fewer records n ns once.1))
]
  where
    at_most : (b : Bool) (xs : List ℕ) → length (cond b (m ∷ xs) xs) ≤ length xs + 1
    at_most b xs = elim b as (λ b. length (cond b (m ∷ xs) xs) ≤ length xs + 1) [ true ↦ omega arith | false ↦ omega arith ]

    at_least : (b : Bool) (xs : List ℕ) → length xs ≤ length (cond b (m ∷ xs) xs)
    at_least b xs = elim b as (λ b. length xs ≤ length (cond b (m ∷ xs) xs)) [ true ↦ omega arith | false ↦ omega arith ]

    both : (b : Bool) (xs ys : List ℕ) → length xs ≤ length ys + 1 → length (cond b (m ∷ xs) xs) ≤ length (cond b (m ∷ ys) ys) + 1
    both b xs ys h = elim b as (λ b. length (cond b (m ∷ xs) xs) ≤ length (cond b (m ∷ ys) ys) + 1) [ true ↦ omega (arith, h) | false ↦ h ]

-- so choices take away no more than they are
fewer : {K V : Type 0} (c : Stock K V) (xs : List Choice) (ns : List ℕ) → IsDistinct (◌==◌) ns → length (settled_numbers c.contents.records ns) ≤ length xs + length (settled_numbers (after_steps c xs).contents.records ns)
fewer c [] ns once = omega arith
fewer c (Removes n cause ∷ xs) ns once = let one = one_fewer c.contents.records n ns once in let rest = fewer (after_step c (Removes n cause)) xs ns once in omega (arith, one, rest)
fewer c (MovesToBack n ∷ xs) ns once = let rest = fewer (after_step c (MovesToBack n)) xs ns once in omega (arith, rest)
fewer c (Drops i ∷ xs) ns once = let rest = fewer (after_step c (Drops i)) xs ns once in omega (arith, rest)

-- the numbers in the order of writing stand in the round
in_round : (n : ℕ) (cursor : Option ℕ) (ns : List ℕ) → is_listed n ns ≡ true → is_listed n (round_from cursor ns) ≡ true
in_round n cursor ns there = elim (listed_append n (before_cursor cursor ns) (from_cursor cursor ns) (ap (is_listed n) (sym (before_and_from cursor ns)) ∙ there)) [
  | inl before ↦ list_any-append (λ m. m == n) (from_cursor cursor ns) (before_cursor cursor ns) ∙ or_right (is_listed n (from_cursor cursor ns)) (is_listed n (before_cursor cursor ns)) before
  | inr behind ↦ list_any-append (λ m. m == n) (from_cursor cursor ns) (before_cursor cursor ns) ∙ or_left (is_listed n (from_cursor cursor ns)) (is_listed n (before_cursor cursor ns)) behind
]

module _ {K V L P S : Type 0} (tells : L → K → V → RemovalCause → L → Type 0) (says : P → K → V → Bool → Type 0) (ps : List (Registered P)) (batch : ℕ) (old : Kept K V S) where
  -- a member that is left was one before
  was_member : (c : Stock K V) (xs : List Choice) → MayAll (MayScan says ps) c xs → (n : ℕ) → is_member n (after_steps c xs).contents.access ≡ true → is_member n c.contents.access ≡ true
  was_member c [] may n there = there
  was_member c (Removes m cause ∷ xs) may n there = within m c.contents.access n (was_member (after_step c (Removes m cause)) xs may.1 n there)
    where
      within : (m : ℕ) (access : List Member) (n : ℕ) → is_member n (without_member m access) ≡ true → is_member n access ≡ true
      within m access n there = go (n == m) (sym (ap is_some (counted-without m n access)) ∙ there)
        where
          go : (b : Bool) → is_some (cond b None (counted_of n access)) ≡ true → is_member n access ≡ true
          go true e = absurd (true≢false (sym e))
          go false e = e
  was_member c (MovesToBack m ∷ xs) may n there = absurd may.0
  was_member c (Drops i ∷ xs) may n there = absurd may.0

  module _ (new : Kept K V S) (l m : Option L) (looked : ℕ) (by : IsStepped tells (MayScan says ps) (stock_in old) (stock_in new) l m) (goes : GoesRound says ps batch old new looked) (some : 1 ≤ length ps) where
    pub ends-round : IsListOf old.access old.written → EndsScan (NoneCovers says ps) batch (length by.steps) (contents_in new)
    ends-round listed = record {
      passed = goes.walked;
      once = goes.once;
      spared = goes.uncovered.settled;
      used = elim (goes.used some) [
        | inl full ↦ inl (let few = fewer (stock_in old) by.steps goes.walked goes.once in let now = ap (λ (c : Stock K V). length (settled_numbers c.contents.records goes.walked)) by.led in omega (arith, few, now, full, goes.looks))
        | inr none ↦ inr (λ n there. ap (is_listed n) (sym (goes.round ∙ ap (λ zs. goes.walked ++ zs) none ∙ append-nil goes.walked)) ∙ in_round n old.cursor old.written (listed.1 n ∙ was_member (stock_in old) by.steps by.may n (ap (λ (c : Stock K V). is_member n c.contents.access) (sym by.led) ∙ there)))
      ];
    }

  -- without predicates none is needed
  pub ends-none : length ps ≡ 0 → IsListOf old.access old.written → EndsScan (NoneCovers says ps) batch 0 (contents_in old)
  ends-none none listed = record {
    passed = old.written;
    once = listed.0;
    spared = λ n r there at applied. no_one ps r none;
    used = inr (λ n there. listed.1 n ∙ there);
  }
    where
      no_one : (ps : List (Registered P)) (r : Record K V) → length ps ≡ 0 → NoneCovers says ps r
      no_one [] r e = tt
      no_one (p ∷ ps) r e = absurd (omega (arith, e))
