-- A record that was visible at a run's moment, and leaves in it, leaves to make room: it is evicted, or its own write is
-- rejected, as too heavy or by TinyLFU.
use Rattle.std.proofs.Common.{◌≡◌, refl, ℕ, ◌<◌, ◌≤◌, Bool, true, false, ◌==◌, nat_lt, if◌then◌else◌, List, [], ◌∷◌, ◌++◌, Option, Some, None, ap, sym, ◌∙◌, subst, ◌⊎◌, inl, inr, Contains, arith}
use Rattle.std.specs.Option.{option_map_or}
use Rattle.std.specs.FinMap.{get}
use Rattle.std.specs.FinMap as finite
use Rattle.std.proofs.lemmas.Bool.{ltb-true}
use Rattle.std.proofs.lemmas.List.Elements.{Contains-append_left, Contains-append_right, Contains-append_cases, Contains-push}
use Rattle.moka_types.specs.declared.policy.EvictionPolicy.{EvictionPolicy}
use Rattle.moka_types.specs.declared.policy.EvictionPolicy.TheVariants.{Lru, TinyLfu}
use Rattle.moka_records.specs.declared.records.Member.{Member}
use Rattle.moka_records.specs.declared.records.Operation.{Operation}
use Rattle.moka_records.specs.declared.records.Operation.TheVariants.{Upsert, Removal}
use Rattle.moka_records.specs.declared.records.Record.{Record}
use Rattle.moka_records.specs.declared.records.Ticketed.{Ticketed}
use Rattle.moka_parts.specs.Candidates.{victims_for, is_preferred}
use Rattle.moka_parts.specs.Maintenance.{Freedom, AreFree, after_queued_reads, before_steps, at_end, left_in_run, left_by_choices}
use Rattle.moka_records.specs.Records.{Records, counted_of, has_room, is_member, total_weight}
use Rattle.moka_parts.specs.Notices.{Notice}
use Rattle.moka_parts.specs.Settling.{IsSound, IsTracked, IsValid, IsWaiting}
use Rattle.moka_parts.specs.State.{State, Contents, contents}
use Rattle.moka_parts.specs.Visibility.{IsVisible}
use Rattle.moka_parts.specs.Writes.{Fate, Ignored, Overtaken, Counted, Admitted, TooHeavy, Preferred, Refused, fate, fate_by_frequency, fate_by_policy, fate_of_newcomer, fate_of_record, with_applied, without_records, with_moved, rejected, after_fate, after_write, after_writes, leaves_for_size, left_with, left_by_rejection, left_by_fate, left_by_write, left_by_writes}
use Rattle.moka_records.proofs.Maps.{same_by_test, same_or_apart, apart_below, get_inserted, get_past_insert, get_past_remove}
use Rattle.moka_laws.proofs.RunKeeps.{reads_keep}
use Rattle.moka_laws.proofs.Scanned.{not_one_covers}
use Rattle.moka_explain.specs.Grounds.{evicts, is_heavy, is_refused, taken_by_write, taken_by_writes, taken_in_run, HasGroundForRoom}
use Rattle.moka_explain.proofs.Room.{same_at, victims, by_steps}

module _ {K V : Type 0} where
  -- an operation with the number and the generation of a record has its weight
  abbrev Weighs : ℕ → Record K V → Operation → Type 0
  Weighs n r (Removal k g) = Unit {0}
  Weighs n r (Upsert k g w h) = n ≡ k → g ≡ r.generation → w ≡ r.weight

module _ {K V : Type 0} (capacity : Option ℕ) (policy : EvictionPolicy) where
  -- ---- what is known of a fate

  -- a fate that an upsert of this weight has is newer than what was applied of its record, and rejects it on a ground
  abbrev Judged : (generation weight : ℕ) → Record K V → Fate → Type 0
  Judged generation weight q Ignored = Unit {0}
  Judged generation weight q Overtaken = Unit {0}
  Judged generation weight q Counted = q.applied < generation
  Judged generation weight q Admitted = q.applied < generation
  Judged generation weight q TooHeavy = (q.applied < generation) × (has_room capacity 0 weight ≡ false)
  Judged generation weight q (Preferred victims) = q.applied < generation
  Judged generation weight q Refused = (q.applied < generation) × (has_room capacity 0 weight ≡ true) × (policy ≡ TinyLfu)

  -- if there is a record
  abbrev JudgedIfThere : (generation weight : ℕ) → Option (Record K V) → Fate → Type 0
  JudgedIfThere generation weight None f = Unit {0}
  JudgedIfThere generation weight (Some q) f = Judged generation weight q f

  module _ (c : Contents K V) (k g w h : ℕ) (q : Record K V) where
    newcomer_judged : q.applied < g → Judged g w q (fate_of_newcomer capacity policy c w h)
    newcomer_judged newer = elim (has_room capacity (total_weight c.access) w) as (λ b. Judged g w q (if b then Admitted else (if has_room capacity 0 w then fate_by_policy policy c w h else TooHeavy))) [ true ↦ newer | false ↦ alone (has_room capacity 0 w) refl ]
      where
        by_choice : policy ≡ TinyLfu → has_room capacity 0 w ≡ true → (o : Option (List Member)) → Judged g w q (fate_by_frequency c h o)
        by_choice is fits None = (newer, fits, is)
        by_choice is fits (Some gone) = elim (is_preferred c h gone) as (λ b. Judged g w q (if b then Preferred gone else Refused)) [ true ↦ newer | false ↦ (newer, fits, is) ]

        by_policy : has_room capacity 0 w ≡ true → (p : EvictionPolicy) → policy ≡ p → Judged g w q (fate_by_policy p c w h)
        by_policy fits Lru is = newer
        by_policy fits TinyLfu is = by_choice is fits (victims_for c w)

        alone : (b : Bool) → has_room capacity 0 w ≡ b → Judged g w q (if b then fate_by_policy policy c w h else TooHeavy)
        alone true fits = by_policy fits policy refl
        alone false heavy = (newer, heavy)

    fate_judged : Judged g w q (fate_of_record capacity policy c k g w h q)
    fate_judged = go (nat_lt q.applied g) refl (is_member k c.access)
      where
        go : (b : Bool) → nat_lt q.applied g ≡ b → (m : Bool) → Judged g w q (if b then (if m then Counted else fate_of_newcomer capacity policy c w h) else (if m then Overtaken else Ignored))
        go true newer true = ltb-true _ _ newer
        go true newer false = newcomer_judged (ltb-true _ _ newer)
        go false newer true = tt
        go false newer false = tt

  -- ---- what becomes of a record, where these were taken out, by each kind of fate

  -- it left, on a ground
  abbrev Left : (evicted heavy refused : List (Notice K V)) → Record K V → Type 0
  Left evicted heavy refused r = Contains evicted (leaves_for_size r)
      ⊎ (((r.applied < r.generation) × (has_room capacity 0 r.weight ≡ false) × Contains heavy (leaves_for_size r))
      ⊎ ((r.applied < r.generation) × (has_room capacity 0 r.weight ≡ true) × (policy ≡ TinyLfu) × Contains refused (leaves_for_size r)))

  -- it stays, and what was applied of it is no older; or it left
  abbrev Becomes : Records K V → (evicted heavy refused : List (Notice K V)) → ℕ → Record K V → Type 0
  Becomes after evicted heavy refused n r = ((g : ℕ) × (get after n ≡ Some (record r { applied = g })) × (r.applied ≤ g)) ⊎ Left evicted heavy refused r

  left_first : (e e' x x' f f' : List (Notice K V)) (r : Record K V) → Left e x f r → Left (e ++ e') (x ++ x') (f ++ f') r
  left_first e e' x x' f f' r (inl evicted) = inl (Contains-append_left e e' (leaves_for_size r) evicted)
  left_first e e' x x' f f' r (inr (inl (new, heavy, taken))) = inr (inl (new, heavy, Contains-append_left x x' (leaves_for_size r) taken))
  left_first e e' x x' f f' r (inr (inr (new, fits, is, taken))) = inr (inr (new, fits, is, Contains-append_left f f' (leaves_for_size r) taken))

  -- later, when as much or more of it was applied
  left_later : (e e' x x' f f' : List (Notice K V)) (g : ℕ) (r : Record K V) → r.applied ≤ g → Left e' x' f' (record r { applied = g }) → Left (e ++ e') (x ++ x') (f ++ f') r
  left_later e e' x x' f f' g r more (inl evicted) = inl (Contains-append_right e e' (leaves_for_size r) evicted)
  left_later e e' x x' f f' g r more (inr (inl (new, heavy, taken))) = inr (inl (omega arith, heavy, Contains-append_right x x' (leaves_for_size r) taken))
  left_later e e' x x' f f' g r more (inr (inr (new, fits, is, taken))) = inr (inr (omega arith, fits, is, Contains-append_right f f' (leaves_for_size r) taken))

  -- one change after another
  first_then : (mid after : Records K V) (e e' x x' f f' : List (Notice K V)) (n : ℕ) (r : Record K V) → Becomes mid e x f n r →
      ((g : ℕ) → get mid n ≡ Some (record r { applied = g }) → Becomes after e' x' f' n (record r { applied = g })) → Becomes after (e ++ e') (x ++ x') (f ++ f') n r
  first_then mid after e e' x x' f f' n r (inl (g, there, more)) next = elim (next g there) [
    | inl (g', still, more') ↦ inl (g', still, omega arith)
    | inr gone ↦ inr (left_later e e' x x' f f' g r more gone)
  ]
  first_then mid after e e' x x' f f' n r (inr gone) next = inr (left_first e e' x x' f f' r gone)

  -- ---- one write

  -- a record that sees a newer operation
  put : (mid : Records K V) (k : ℕ) (q : Record K V) (g n : ℕ) (r : Record K V) (evicted : List (Notice K V)) → (n ≡ k → r ≡ q) → q.applied < g → (get mid n ≡ Some r) ⊎ Contains evicted (leaves_for_size r) → Becomes (with_applied mid k q g) evicted [] [] n r
  put mid k q g n r evicted same newer found = elim (same_or_apart n k) [
    | inl e ↦
        let seen : r.applied ≡ q.applied = ap (λ (x : Record K V). x.applied) (same e) in
        inl (g, ap (get (with_applied mid k q g)) e ∙ get_inserted mid k (record q { applied = g }) ∙ ap (λ (x : Record K V). Some (record x { applied = g })) (sym (same e)), omega arith)
    | inr apart ↦ elim found [
      | inl there ↦ inl (r.applied, get_past_insert mid k (record q { applied = g }) n apart ∙ there, omega arith)
      | inr gone ↦ inr (inl gone)
    ]
  ]

  -- a rejection takes out only what has this operation as its last one
  rejection : (c : Contents K V) (k g : ℕ) (q : Record K V) (n : ℕ) (r : Record K V) → get c.records k ≡ Some q → get c.records n ≡ Some r → q.applied < g →
      ((x : ℕ) × (get (rejected k g q c).records n ≡ Some (record r { applied = x })) × (r.applied ≤ x)) ⊎ ((n ≡ k) × (g ≡ r.generation) × (r.applied < r.generation) × Contains (left_by_rejection g q) (leaves_for_size r))
  rejection c k g q n r here there newer = go (q.generation == g) refl
    where
      stays : Becomes (with_applied c.records k q g) [] [] [] n r → ((x : ℕ) × (get (with_applied c.records k q g) n ≡ Some (record r { applied = x })) × (r.applied ≤ x)) ⊎ ((n ≡ k) × (g ≡ r.generation) × (r.applied < r.generation) × Contains [] (leaves_for_size r))
      stays (inl still) = inl still
      stays (inr (inl none)) = let lt = none.1 in absurd (omega arith)
      stays (inr (inr (inl none))) = let lt = none.2.1 in absurd (omega arith)
      stays (inr (inr (inr none))) = let lt = none.3.1 in absurd (omega arith)

      go : (b : Bool) → (q.generation == g) ≡ b →
          ((x : ℕ) × (get (if b then finite.remove c.records k else with_applied c.records k q g) n ≡ Some (record r { applied = x })) × (r.applied ≤ x)) ⊎ ((n ≡ k) × (g ≡ r.generation) × (r.applied < r.generation) × Contains (if b then leaves_for_size q ∷ [] else []) (leaves_for_size r))
      go true own = elim (same_or_apart n k) [
        | inl same ↦
            let one : r ≡ q = same_at c.records n k r q there here same in
            let last : q.generation ≡ g = same_by_test q.generation g own in
            let seen : r.applied ≡ q.applied = ap (λ (x : Record K V). x.applied) one in
            let written : r.generation ≡ q.generation = ap (λ (x : Record K V). x.generation) one in
            inr (same, sym (written ∙ last), omega arith, subst (λ (x : Record K V). Contains (leaves_for_size x ∷ []) (leaves_for_size r)) one (Contains-push [] (leaves_for_size r)))
        | inr apart ↦ inl (r.applied, get_past_remove c.records k n apart ∙ there, omega arith)
      ]
      go false own = stays (put c.records k q g n r [] (same_at c.records n k r q there here) newer (inl there))

  module _ (c : Contents K V) (k g w : ℕ) (moved : List ℕ) (n : ℕ) (r : Record K V) (there : get c.records n ≡ Some r) (own : n ≡ k → g ≡ r.generation → w ≡ r.weight) where
    by_fate : (q : Record K V) (f : Fate) → get c.records k ≡ Some q → Judged g w q f →
        Becomes (after_fate c k g w moved q f).records (if evicts f then left_by_fate c g q f else []) (if is_heavy f then left_by_fate c g q f else []) (if is_refused f then left_by_fate c g q f else []) n r
    by_fate q Ignored here known = inl (r.applied, there, omega arith)
    by_fate q Overtaken here known = inl (r.applied, there, omega arith)
    by_fate q Counted here known = put c.records k q g n r [] (same_at c.records n k r q there here) known (inl there)
    by_fate q Admitted here known = put c.records k q g n r [] (same_at c.records n k r q there here) known (inl there)
    by_fate q (Preferred gone) here known = put (without_records gone c.records) k q g n r (left_with gone c.records) (same_at c.records n k r q there here) known (victims gone c.records n r there)
    by_fate q TooHeavy here known = elim (rejection c k g q n r here there known.0) [
      | inl still ↦ inl still
      | inr (same, last, new, taken) ↦ inr (inr (inl (new, subst (λ (x : ℕ). has_room capacity 0 x ≡ false) (own same last) known.1, taken)))
    ]
    by_fate q Refused here known = elim (rejection (with_moved moved c) k g q n r here there known.0) [
      | inl still ↦ inl still
      | inr (same, last, new, taken) ↦ inr (inr (inr (new, subst (λ (x : ℕ). has_room capacity 0 x ≡ true) (own same last) known.1, known.2, taken)))
    ]

    by_upsert : (f : Fate) (o : Option (Record K V)) → get c.records k ≡ o → JudgedIfThere g w o f →
        Becomes (option_map_or (λ q. after_fate c k g w moved q f) o c).records (if evicts f then option_map_or (λ q. left_by_fate c g q f) o [] else []) (if is_heavy f then option_map_or (λ q. left_by_fate c g q f) o [] else []) (if is_refused f then option_map_or (λ q. left_by_fate c g q f) o [] else []) n r
    by_upsert f None here known = inl (r.applied, there, omega arith)
    by_upsert f (Some q) here known = by_fate q f here known

  by_write : (c : Contents K V) (o : Operation) (moved : List ℕ) (n : ℕ) (r : Record K V) → get c.records n ≡ Some r → Weighs n r o →
      Becomes (after_write capacity policy c o moved).records (taken_by_write evicts capacity policy c o) (taken_by_write is_heavy capacity policy c o) (taken_by_write is_refused capacity policy c o) n r
  by_write c (Removal k g) moved n r there own = inl (r.applied, there, omega arith)
  by_write c (Upsert k g w h) moved n r there own = by_upsert c k g w moved n r there own (fate capacity policy c (Upsert k g w h)) (get c.records k) refl (judged (get c.records k) refl)
    where
      judged : (o : Option (Record K V)) → get c.records k ≡ o → JudgedIfThere g w o (option_map_or (fate_of_record capacity policy c k g w h) o Ignored)
      judged None here = tt
      judged (Some q) here = fate_judged c k g w h q

  -- ---- all writes

  by_writes : (c : Contents K V) (hs : List Ticketed) (ms : List (List ℕ)) (n : ℕ) (r : Record K V) → get c.records n ≡ Some r → ((t : Ticketed) → Contains hs t → Weighs n r t.operation) →
      Becomes (after_writes capacity policy c hs ms).records (taken_by_writes evicts capacity policy c hs ms) (taken_by_writes is_heavy capacity policy c hs ms) (taken_by_writes is_refused capacity policy c hs ms) n r
  by_writes c [] ms n r there own = inl (r.applied, there, omega arith)
  by_writes c (h ∷ hs) [] n r there own =
      let mid = after_write capacity policy c h.operation [] in
      first_then mid.records (after_writes capacity policy mid hs []).records _ _ _ _ _ _ n r (by_write c h.operation [] n r there (own h (Contains-append_left (h ∷ []) hs h (Contains-push [] h))))
      (λ g still. by_writes mid hs [] n (record r { applied = g }) still (λ t within. own t (Contains-append_right (h ∷ []) hs t within)))
  by_writes c (h ∷ hs) (m ∷ ms) n r there own =
      let mid = after_write capacity policy c h.operation m in
      first_then mid.records (after_writes capacity policy mid hs ms).records _ _ _ _ _ _ n r (by_write c h.operation m n r there (own h (Contains-append_left (h ∷ []) hs h (Contains-push [] h))))
      (λ g still. by_writes mid hs ms n (record r { applied = g }) still (λ t within. own t (Contains-append_right (h ∷ []) hs t within)))

-- ---- what is taken out by a kind of fate is taken out

module _ {K V : Type 0} (by : Fate → Bool) (capacity : Option ℕ) (policy : EvictionPolicy) where
  write_takes : (c : Contents K V) (o : Operation) (x : Notice K V) → Contains (taken_by_write by capacity policy c o) x → Contains (left_by_write capacity policy c o) x
  write_takes c o x = elim (by (fate capacity policy c o)) as (λ b. Contains (if b then left_by_write capacity policy c o else []) x → Contains (left_by_write capacity policy c o) x) [ true ↦ λ taken. taken | false ↦ λ none. let lt = none.1 in absurd (omega arith) ]

  writes_take : (c : Contents K V) (hs : List Ticketed) (ms : List (List ℕ)) (x : Notice K V) → Contains (taken_by_writes by capacity policy c hs ms) x → Contains (left_by_writes capacity policy c hs ms) x
  writes_take c [] ms x taken = taken
  writes_take c (h ∷ hs) [] x taken = elim (Contains-append_cases (taken_by_write by capacity policy c h.operation) (taken_by_writes by capacity policy (after_write capacity policy c h.operation []) hs []) x taken) [
    | inl first ↦ Contains-append_left (left_by_write capacity policy c h.operation) _ x (write_takes c h.operation x first)
    | inr later ↦ Contains-append_right (left_by_write capacity policy c h.operation) _ x (writes_take (after_write capacity policy c h.operation []) hs [] x later)
  ]
  writes_take c (h ∷ hs) (m ∷ ms) x taken = elim (Contains-append_cases (taken_by_write by capacity policy c h.operation) (taken_by_writes by capacity policy (after_write capacity policy c h.operation m) hs ms) x taken) [
    | inl first ↦ Contains-append_left (left_by_write capacity policy c h.operation) _ x (write_takes c h.operation x first)
    | inr later ↦ Contains-append_right (left_by_write capacity policy c h.operation) _ x (writes_take (after_write capacity policy c h.operation m) hs ms x later)
  ]

-- ---- in a run

module _ {K V X P W : Type 0} (says : P → K → V → Bool → Type 0) (eq : K → K → Bool) (s : State K V X P W) (now : ℕ) (valid : IsValid eq s) where
  -- an operation that is queued, of a record that is there
  weighs : (n : ℕ) (r : Record K V) → get s.records n ≡ Some r → (t : Ticketed) → Contains s.writes t → Weighs n r t.operation
  weighs n r there t queued = go t.operation refl
    where
      tracked : IsTracked (IsWaiting s) n r (counted_of n s.access)
      tracked = subst (λ (o : Option (Record K V)). IsSound (IsWaiting s) n o (counted_of n s.access)) there (valid.consistent.sound n)

      go : (o : Operation) → t.operation ≡ o → Weighs n r o
      go (Removal k g) is = tt
      go (Upsert k g w h) is = λ same last. (tracked.carried g w h (inr (t.ticket, subst (λ (o : Operation). Contains s.writes (record { ticket = t.ticket; operation = o })) (is ∙ ap (λ m. Upsert m g w h) (sym same)) queued))).1 last

  -- the ground on which it leaves, and its notice among those of the run
  pub leaves_on_ground : (ch : Freedom) → AreFree says s now ch → (n : ℕ) (r : Record K V) → get s.records n ≡ Some r → IsVisible says s r now → get (at_end s ch).records n ≡ None → Contains (left_in_run s ch) (leaves_for_size r) × HasGroundForRoom s ch r
  leaves_on_ground ch free n r there visible gone =
      let found : get c.records n ≡ Some r = ap (λ (m : Records K V). get m n) (reads_keep (contents s) s.reads) ∙ there in
      elim (by_writes s.capacity s.settings.policy c s.writes ch.moves n r found (weighs n r there)) [
        | inl (g, still, more) ↦ elim (by_steps says s now mid s.predicates ch.steps n (record r { applied = g }) visible.0 (λ p here. not_one_covers says s.predicates p r visible.1 here) free.1 still) [
          | inl kept ↦ let both : None ≡ Some (record r { applied = kept.0 }) = sym gone ∙ kept.1 in cc
          | inr left ↦ (Contains-append_right by_all (left_by_choices mid ch.steps) (leaves_for_size r) left, inl (Contains-append_right (taken_in_run s ch evicts) (left_by_choices mid ch.steps) (leaves_for_size r) left))
        ]
        | inr left ↦ on left
      ]
    where
      c : Contents K V
      c = after_queued_reads s

      mid : Contents K V
      mid = before_steps s ch

      by_all : List (Notice K V)
      by_all = left_by_writes s.capacity s.settings.policy c s.writes ch.moves

      of_run : (by : Fate → Bool) → Contains (taken_in_run s ch by) (leaves_for_size r) → Contains (left_in_run s ch) (leaves_for_size r)
      of_run by taken = Contains-append_left by_all (left_by_choices mid ch.steps) (leaves_for_size r) (writes_take by s.capacity s.settings.policy c s.writes ch.moves (leaves_for_size r) taken)

      on : Left s.capacity s.settings.policy (taken_in_run s ch evicts) (taken_in_run s ch is_heavy) (taken_in_run s ch is_refused) r → Contains (left_in_run s ch) (leaves_for_size r) × HasGroundForRoom s ch r
      on (inl evicted) = (of_run evicts evicted, inl (Contains-append_left (taken_in_run s ch evicts) (left_by_choices mid ch.steps) (leaves_for_size r) evicted))
      on (inr (inl (new, heavy, taken))) = (of_run is_heavy taken, inr (inl (apart_below r.applied r.generation new, heavy, taken)))
      on (inr (inr (new, fits, is, taken))) = (of_run is_refused taken, inr (inr (apart_below r.applied r.generation new, fits, is, taken)))
