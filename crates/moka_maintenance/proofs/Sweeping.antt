-- Where a sweep stands between two turns.
use Rattle.std.proofs.Common.{◌≡◌, refl, ℕ, ◌+◌, ◌*◌, ◌/◌, ◌%◌, ◌<◌, ◌≤◌, ◌⊎◌, Bool, true, false, true≢false, ◌==◌, ◌&&◌, [], ◌∷◌, ◌++◌, length, Option, inl, inr, ap, sym, subst, ◌∙◌, arith, length-append, not, ◌||◌, List, Some, slice_get, append_assoc, append-nil}
use Rattle.std.proofs.lemmas.Bool.{and_parts, cond-true, not-true}
use Rattle.std.proofs.lemmas.Nat.{div-add-mod'}
use Rattle.std.proofs.lemmas.List.{length-map, nil_from_length, map-append}
use Rattle.std.proofs.lemmas.List.Folds.{list_all-append}
use Rattle.std.specs.List.{IsDistinct, list_all}
use Rattle.moka_parts.specs.declared.notification.RemovalCause.{RemovalCause}
use Rattle.moka_records.specs.declared.records.Member.{Member}
use Rattle.moka_records.specs.Records.{is_member, is_settled, numbers_of, Records, is_listed, number_to_back, settled_members, to_back, without_number, IsListOf}
use Rattle.moka_parts.specs.Maintenance.{Removes, MovesToBack, Choice, Drops, is_front, is_over}
use Rattle.moka_parts.specs.Bounds.{removed_by}
use Rattle.moka_records.proofs.AccessList.{distinct_taken_out, distinct-to_back}
use Rattle.moka_records.proofs.Maps.{same_by_test, itself_tested}
use Rattle.moka_laws.proofs.OrderedList.{choice_listed}
use Rattle.moka_maintenance.specs.declared.sweep.Tests.{Tests}
use Rattle.moka_maintenance.specs.declared.sweep.Sweep.{Sweep}
use Rattle.moka_maintenance.specs.declared.sweep.Sweep.TheVariants.{Written, Read, Surplus}
use Rattle.moka_maintenance.specs.declared.sweep.Turn.TheVariants.{Removed, Passed, Ended}
use Rattle.moka_maintenance.specs.Steps.{Stock, Told, HasUnsettled, HasNoSettled, IsStepped, after_step}
use Rattle.moka_maintenance.specs.Sweep.{MayTurn, TakesTurn, IsSwept, IsNext}
use Rattle.moka_maintenance.proofs.Told.{told-none}
use Rattle.moka_maintenance.proofs.Stepped.{removed-on, stepped-none, stepped-one, stepped-on, unsettled-step, unsettled-passed}
use Rattle.moka_maintenance.proofs.Fronts.{length-to_back, none-to_back, none_settled, front_of, all_unsettled}
use Rattle.moka_maintenance.proofs.Listed.{members_few, numbered, without_split, written_few}
use Rattle.moka_maintenance.proofs.Popped.{head_of}

-- ---- turns in a row that removed nothing, along either order

-- the numbers along which a sweep goes
abbrev pub along : {K V : Type 0} → Sweep → Stock K V → List ℕ
along Written c = c.written
along Read c = numbers_of c.contents.access
along Surplus c = numbers_of c.contents.access

-- they are none, where the order is not kept, or all members' numbers
abbrev pub IsAlong : {K V : Type 0} → Sweep → Stock K V → Type 0
IsAlong Written c = (c.written ≡ []) ⊎ IsListOf c.contents.access c.written
IsAlong Read c = Unit {0}
IsAlong Surplus c = Unit {0}

-- of a store
pub is_along : {K V : Type 0} (sweep : Sweep) (c : Stock K V) (ordered : Bool) → (ordered ≡ true → IsListOf c.contents.access c.written) → (ordered ≡ false → c.written ≡ []) → IsAlong sweep c
is_along Read c ordered kept unkept = tt
is_along Surplus c ordered kept unkept = tt
is_along Written c true kept unkept = inr (kept refl)
is_along Written c false kept unkept = inl (unkept refl)

-- it stays so
pub along-step : {K V : Type 0} (sweep : Sweep) (c : Stock K V) (x : Choice) → IsAlong sweep c → IsAlong sweep (after_step c x)
along-step Read c x h = h
along-step Surplus c x h = h
along-step Written c (Removes n cause) (inl none) = inl (ap (without_number n) none)
along-step Written c (Removes n cause) (inr is) = inr (choice_listed c.contents c.written (Removes n cause) is)
along-step Written c (MovesToBack n) (inl none) = inl (ap (number_to_back n) none)
along-step Written c (MovesToBack n) (inr is) = inr (choice_listed c.contents c.written (MovesToBack n) is)
along-step Written c (Drops i) h = h

-- ---- the front goes to the back

first_to_back : (n : ℕ) (ns : List ℕ) → IsDistinct (◌==◌) (n ∷ ns) → number_to_back n (n ∷ ns) ≡ ns ++ n ∷ []
first_to_back n ns once =
    cond-true (is_listed n (n ∷ ns)) (without_number n (n ∷ ns) ++ n ∷ []) (n ∷ ns) (ap (λ b. b || is_listed n ns) (itself_tested n))
    ∙ ap (λ ms. ms ++ n ∷ []) (without_split [] ns n once)

module _ {K V : Type 0} (records : Records K V) where
  -- none of the numbers is settled
  abbrev pub are_waiting : List ℕ → Bool
  are_waiting ns = list_all (λ n. not (is_settled records n)) ns

  waiting_in : (n : ℕ) (ns : List ℕ) → are_waiting ns ≡ true → is_listed n ns ≡ true → is_settled records n ≡ false
  waiting_in n [] all there = absurd (true≢false (sym there))
  waiting_in n (m ∷ ns) all there =
      let both = and_parts (not (is_settled records m)) (are_waiting ns) all in
      go (not-true (is_settled records m) both.0) (waiting_in n ns both.1) (m == n) refl there
    where
      go : is_settled records m ≡ false → (is_listed n ns ≡ true → is_settled records n ≡ false) → (b : Bool) → (m == n) ≡ b → (b || is_listed n ns) ≡ true → is_settled records n ≡ false
      go first behind true same there = ap (is_settled records) (sym (same_by_test m n same)) ∙ first
      go first behind false other there = behind there

  -- the last so many of the numbers are not settled
  pub record EndsUnsettled (ns : List ℕ) (many : ℕ) : Type 0 where
    pub before : List ℕ
    pub end : List ℕ
    pub split : ns ≡ before ++ end
    pub count : length end ≡ many
    pub none : are_waiting end ≡ true

  pub row-start : (ns : List ℕ) → EndsUnsettled ns 0
  row-start ns = record { before = ns; end = []; split = sym (append-nil ns); count = refl; none = refl }

module _ {K V : Type 0} (sweep : Sweep) (c : Stock K V) (once : IsDistinct (◌==◌) (numbers_of c.contents.access)) (order : IsAlong sweep c) where
  -- where none of all numbers is settled, no member is
  none_along : (along sweep c ≡ [] → c.contents.access ≡ []) → are_waiting c.contents.records (along sweep c) ≡ true → HasNoSettled c
  none_along bare all = go sweep order bare all
    where
      go : (s : Sweep) → IsAlong s c → (along s c ≡ [] → c.contents.access ≡ []) → are_waiting c.contents.records (along s c) ≡ true → HasNoSettled c
      go Read h bare all = all_unsettled c.contents.records c.contents.access (λ k there. waiting_in c.contents.records k (numbers_of c.contents.access) all (numbered k c.contents.access ∙ there))
      go Surplus h bare all = all_unsettled c.contents.records c.contents.access (λ k there. waiting_in c.contents.records k (numbers_of c.contents.access) all (numbered k c.contents.access ∙ there))
      go Written (inl none) bare all = ap (settled_members c.contents.records) (bare none)
      go Written (inr is) bare all = all_unsettled c.contents.records c.contents.access (λ k there. waiting_in c.contents.records k c.written all (is.1 k ∙ there))

  -- where the row is as long as there are members, none is settled
  pub row-whole : (many : ℕ) → EndsUnsettled c.contents.records (along sweep c) many → many ≡ length c.contents.access → HasNoSettled c
  row-whole many h all = go h.before h.split
    where
      as_many : (s : Sweep) → IsAlong s c → (along s c ≡ []) ⊎ (length (along s c) ≡ length c.contents.access)
      as_many Read o = inr (length-map c.contents.access (λ (a : Member). a.number))
      as_many Surplus o = inr (length-map c.contents.access (λ (a : Member). a.number))
      as_many Written (inl none) = inl none
      as_many Written (inr is) = inr (let few = written_few c.contents.access c.written is in let more = members_few c.contents.access c.written once is in omega arith)

      go : (xs : List ℕ) → along sweep c ≡ xs ++ h.end → HasNoSettled c
      go [] e = none_along (λ bare. (let none = ap length (sym bare ∙ e) in let count = h.count in nil_from_length c.contents.access (omega arith))) (ap (are_waiting c.contents.records) e ∙ h.none)
      go (x ∷ xs) e = elim (as_many sweep order) [
        | inl none ↦ (let bad : [] ≡ x ∷ xs ++ h.end = sym none ∙ e in cc)
        | inr same ↦ (let more : length (along sweep c) ≡ length (x ∷ xs) + length h.end = ap length e ∙ length-append (x ∷ xs) h.end in let count = h.count in absurd (omega arith))
      ]

  -- the front of them, which goes to the back
  record Heads (n : ℕ) : Type 0 where
    pub behind : List ℕ
    pub split : along sweep c ≡ n ∷ behind
    pub moved : along sweep (after_step c (MovesToBack n)) ≡ behind ++ n ∷ []

  module _ (q : Tests) (n : ℕ) (next : IsNext q sweep c n) where
    heads : Heads n
    heads = (let h = go sweep order next in record { behind = h.0; split = h.1; moved = h.2 })
      where
        accessed : is_front n c.contents.access ≡ true → (behind : List ℕ) × (numbers_of c.contents.access ≡ n ∷ behind) × (numbers_of (to_back n c.contents.access) ≡ behind ++ n ∷ [])
        accessed is =
            let f = front_of n c.contents.access once is in (
              numbers_of f.behind,
              ap numbers_of f.split ∙ ap (λ k. k ∷ numbers_of f.behind) f.number,
              ap numbers_of f.moved ∙ map-append (λ (a : Member). a.number) f.behind (f.first ∷ []) ∙ ap (λ k. numbers_of f.behind ++ k ∷ []) f.number,
            )

        wrote : IsListOf c.contents.access c.written → slice_get c.written 0 ≡ Some n → (behind : List ℕ) × (c.written ≡ n ∷ behind) × (number_to_back n c.written ≡ behind ++ n ∷ [])
        wrote is first =
            let h = head_of n c.written first in
            (h.behind, h.split, ap (number_to_back n) h.split ∙ first_to_back n h.behind (subst (IsDistinct (◌==◌)) h.split is.0))

        go : (s : Sweep) → IsAlong s c → IsNext q s c n → (behind : List ℕ) × (along s c ≡ n ∷ behind) × (along s (after_step c (MovesToBack n)) ≡ behind ++ n ∷ [])
        go Read o is = accessed is
        go Surplus o is = accessed (and_parts (is_front n c.contents.access) (is_over q.capacity c.contents.access) is).0
        go Written (inl none) is = (let bad : slice_get [] 0 ≡ Some n = ap (λ ns. slice_get ns 0) (sym none) ∙ is in cc)
        go Written (inr o) is = wrote o is

    -- one more turn that removed nothing
    pub row-passed : is_settled c.contents.records n ≡ false → (many : ℕ) → EndsUnsettled c.contents.records (along sweep c) many → HasNoSettled (after_step c (MovesToBack n)) ⊎ EndsUnsettled c.contents.records (along sweep (after_step c (MovesToBack n))) (many + 1)
    row-passed waiting many h = go h.before h.split
      where
        pushed : (ns : List ℕ) → are_waiting c.contents.records ns ≡ true → are_waiting c.contents.records (ns ++ n ∷ []) ≡ true
        pushed ns all = list_all-append (λ n. not (is_settled c.contents.records n)) ns (n ∷ []) ∙ ap (λ b. b && (not (is_settled c.contents.records n) && true)) all ∙ ap (λ b. not b && true) waiting

        go : (xs : List ℕ) → along sweep c ≡ xs ++ h.end → HasNoSettled (after_step c (MovesToBack n)) ⊎ EndsUnsettled c.contents.records (along sweep (after_step c (MovesToBack n))) (many + 1)
        go [] e = inl (none-to_back c.contents.records n c.contents.access waiting (none_along (λ bare. (let bad : [] ≡ n ∷ heads.behind = sym bare ∙ heads.split in cc)) (ap (are_waiting c.contents.records) e ∙ h.none)))
        go (x ∷ xs) e =
            let same : heads.behind ≡ xs ++ h.end = (let t = sym heads.split ∙ e in cc) in
            inr (record {
              before = xs;
              end = h.end ++ n ∷ [];
              split = heads.moved ∙ ap (λ ys. ys ++ n ∷ []) same ∙ append_assoc xs h.end (n ∷ []);
              count = (let plus = length-append h.end (n ∷ []) in let count = h.count in omega arith);
              none = pushed h.end h.none;
            })

-- ---- between two turns

first_most : (s t a n : ℕ) → s + t + a ≡ n → s ≤ n
first_most s t a n e = omega arith

-- where a sweep stands that has so many turns left, after so many in a row that removed nothing
pub record Sweeping {K V L : Type 0} (tells : L → K → V → RemovalCause → L → Type 0) (q : Tests) (sweep : Sweep) (batch : ℕ) (first now : Stock K V) (l m : Option L) (removed turns passed : ℕ) (all : Bool) : Type 0 where
  pub by : IsStepped tells (MayTurn q sweep) first now l m
  pub count : removed ≡ length (removed_by by.steps)
  pub rounds : ℕ
  pub made : length by.steps + turns + rounds * length now.contents.access ≡ batch
  pub round : (rounds ≡ 0) ⊎ HasNoSettled now
  pub row : HasNoSettled now ⊎ EndsUnsettled now.contents.records (along sweep now) passed
  pub order : IsAlong sweep now
  pub once : IsDistinct (◌==◌) (numbers_of now.contents.access)
  pub most : removed + turns ≤ batch
  pub few : passed + turns ≤ batch
  pub settled : all ≡ true → removed + turns ≡ batch
  pub unsettled : all ≡ false → HasUnsettled now × (removed + turns < batch)

module _ {K V L : Type 0} (tells : L → K → V → RemovalCause → L → Type 0) (q : Tests) (sweep : Sweep) (batch : ℕ) where
  -- no turn was taken
  pub sweeping-none : (c : Stock K V) (l : Option L) → IsDistinct (◌==◌) (numbers_of c.contents.access) → IsAlong sweep c → Sweeping tells q sweep batch c c l l 0 batch 0 true
  unfolding stepped-none
  sweeping-none c l once order = record {
    by = stepped-none tells (MayTurn q sweep) c l;
    count = refl;
    rounds = 0;
    made = omega arith;
    round = inl refl;
    row = inr (row-start c.contents.records (along sweep c));
    order = order;
    once = once;
    most = omega arith;
    few = omega arith;
    settled = λ _. omega arith;
    unsettled = λ is. absurd (true≢false is);
  }

module _ {K V L : Type 0} (tells : L → K → V → RemovalCause → L → Type 0) (q : Tests) (sweep : Sweep) (batch : ℕ) (first now next : Stock K V) (l m k : Option L) (removed turns passed : ℕ) (all : Bool) (h : Sweeping tells q sweep batch first now l m removed turns passed all) where
  no_rounds : (n : ℕ) → (is_member n now.contents.access && is_settled now.contents.records n) ≡ true → length h.by.steps + turns ≡ batch
  no_rounds n is = go h.round
    where
      go : (h.rounds ≡ 0) ⊎ HasNoSettled now → length h.by.steps + turns ≡ batch
      go (inl none) = (let made = h.made in let gone : h.rounds * length now.contents.access ≡ 0 = ap (λ r. r * length now.contents.access) none ∙ omega arith in omega arith)
      go (inr none) = absurd (true≢false (sym (and_parts (is_member n now.contents.access) (is_settled now.contents.records n) is).1 ∙ none_settled now.contents.records n now.contents.access none (and_parts (is_member n now.contents.access) (is_settled now.contents.records n) is).0))

  pub sweeping-removed : (less : ℕ) → turns ≡ less + 1 → TakesTurn tells q sweep now next m k Removed → Sweeping tells q sweep batch first next l k (removed + 1) less 0 all
  unfolding stepped-on stepped-one
  sweeping-removed less e t = record {
    by = stepped-on tells (MayTurn q sweep) first now next l m k h.by (stepped-one tells (MayTurn q sweep) now next m k (Removes t.0 t.1) t.2 t.3 t.4);
    count = (let count = h.count in let more = removed-on h.by.steps (Removes t.0 t.1 ∷ []) in omega arith);
    rounds = 0;
    made = (let made = no_rounds t.0 t.2.1.2 in let one = length-append h.by.steps (Removes t.0 t.1 ∷ []) in omega arith);
    round = inl refl;
    row = inr (row-start next.contents.records (along sweep next));
    order = subst (λ c. IsAlong sweep c) (sym t.3) (along-step sweep now (Removes t.0 t.1) h.order);
    once = subst (λ (c : Stock K V). IsDistinct (◌==◌) (numbers_of c.contents.access)) (sym t.3) (distinct_taken_out t.0 now.contents.access h.once);
    most = (let most = h.most in omega arith);
    few = (let few = h.few in omega arith);
    settled = λ is. (let s = h.settled is in omega arith);
    unsettled = λ is. (let u = h.unsettled is in (subst (λ x. HasUnsettled x) (sym t.3) (unsettled-step now (Removes t.0 t.1) (t.2.1.0, t.2.1.1, t.2.1.2) u.0), (let lt = u.1 in omega arith)));
  }

  pub sweeping-passed : (less : ℕ) → turns ≡ less + 1 → TakesTurn tells q sweep now next m k Passed → Sweeping tells q sweep batch first next l k removed less (passed + 1) false
  unfolding stepped-on stepped-one
  sweeping-passed less e t =
      let n = t.0 in
      let told = subst (λ k. Told {K = K} {V = V} tells m [] k) (sym t.3) (told-none tells m) in
      let same : length next.contents.access ≡ length now.contents.access = ap (λ (c : Stock K V). length c.contents.access) t.2 ∙ length-to_back n now.contents.access h.once t.1.1.0 in
      record {
        by = stepped-on tells (MayTurn q sweep) first now next l m k h.by (stepped-one tells (MayTurn q sweep) now next m k (MovesToBack n) t.1 t.2 told);
        count = (let count = h.count in let more = removed-on h.by.steps (MovesToBack n ∷ []) in omega arith);
        rounds = h.rounds;
        made = (let made = h.made in let one = length-append h.by.steps (MovesToBack n ∷ []) in let all_same : h.rounds * length next.contents.access ≡ h.rounds * length now.contents.access = ap (λ a. h.rounds * a) same in joined (length h.by.steps) turns less (h.rounds * length now.contents.access) (length (h.by.steps ++ MovesToBack n ∷ [])) (h.rounds * length next.contents.access) made one e all_same);
        round = elim h.round [ inl none ↦ inl none | inr none ↦ inr (subst (λ c. HasNoSettled c) (sym t.2) (none-to_back now.contents.records n now.contents.access t.1.1.1 none)) ];
        row = elim h.row [
          | inl none ↦ inl (subst (λ c. HasNoSettled c) (sym t.2) (none-to_back now.contents.records n now.contents.access t.1.1.1 none))
          | inr row ↦ subst (λ c. HasNoSettled c ⊎ EndsUnsettled c.contents.records (along sweep c) (passed + 1)) (sym t.2) (row-passed sweep now h.once h.order q n t.1.0 t.1.1.1 passed row)
        ];
        order = subst (λ c. IsAlong sweep c) (sym t.2) (along-step sweep now (MovesToBack n) h.order);
        once = subst (λ (c : Stock K V). IsDistinct (◌==◌) (numbers_of c.contents.access)) (sym t.2) (distinct-to_back n now.contents.access h.once);
        most = (let most = h.most in omega arith);
        few = (let few = h.few in omega arith);
        settled = λ is. absurd (true≢false (sym is));
        unsettled = λ _. (subst (λ x. HasUnsettled x) (sym t.2) (unsettled-passed now n t.1.1), (let most = h.most in omega arith));
      }
    where
      joined : (s t u a s' a' : ℕ) → s + t + a ≡ batch → s' ≡ s + 1 → t ≡ u + 1 → a' ≡ a → s' + u + a' ≡ batch
      joined s t u a s' a' made one e same = omega arith

  -- it comes to rest
  pub sweeping-ended : 1 ≤ turns → TakesTurn tells q sweep now next m k Ended → IsSwept tells q sweep batch first next l k removed false
  sweeping-ended some t =
      subst (λ x. IsSwept tells q sweep batch first x l k removed false) (sym t.2)
      (subst (λ k. IsSwept tells q sweep batch first now l k removed false) (sym t.3)
      (record {
        by = h.by;
        few = first_most (length h.by.steps) turns (h.rounds * length now.contents.access) batch h.made;
        turns = inr (t.0, λ _. t.1);
        count = h.count;
        full = λ is. absurd (true≢false (sym is));
        more = λ used _. (let most = h.most in absurd (omega arith));
        rest = λ _. inr t.0;
      }))

module _ {K V L : Type 0} (tells : L → K → V → RemovalCause → L → Type 0) (q : Tests) (sweep : Sweep) (batch : ℕ) (first now : Stock K V) (l m : Option L) (removed turns passed : ℕ) where
  -- whole rounds over unsettled members are left out
  pub sweeping-rounds : (less : ℕ) → passed ≡ length now.contents.access → less ≡ turns % passed → Sweeping tells q sweep batch first now l m removed turns passed false → Sweeping tells q sweep batch first now l m removed less passed false
  sweeping-rounds less whole e h = record {
    by = h.by;
    count = h.count;
    rounds = h.rounds + turns / passed;
    made = rw (← whole) (joined (length h.by.steps) turns h.rounds (turns / passed) passed less (ap (λ a. length h.by.steps + turns + h.rounds * a) whole ∙ h.made) parts);
    round = inr none;
    row = inl none;
    order = h.order;
    once = h.once;
    most = (let most = h.most in let fewer = at_most (turns / passed * passed) less turns parts in omega arith);
    few = (let few = h.few in let fewer = at_most (turns / passed * passed) less turns parts in omega arith);
    settled = λ is. absurd (true≢false (sym is));
    unsettled = λ is. (let u = h.unsettled is in (u.0, (let lt = u.1 in let fewer = at_most (turns / passed * passed) less turns parts in omega arith)));
  }
    where
      joined : (s t r d p u : ℕ) → s + t + r * p ≡ batch → d * p + u ≡ t → s + u + (r + d) * p ≡ batch
      joined s t r d p u made e = grind (arith, made, e)

      none : HasNoSettled now
      none = elim h.row [ inl is ↦ is | inr row ↦ row-whole sweep now h.once h.order passed row whole ]

      parts : turns / passed * passed + less ≡ turns
      parts = ap (λ u. turns / passed * passed + u) e ∙ div-add-mod' turns passed

      at_most : (a b c : ℕ) → a + b ≡ c → b ≤ c
      at_most a b c e = omega arith

  -- where each removed a record, all members it met are settled
  pub sweeping-all : (all : Bool) → Sweeping tells q sweep batch first now l m removed turns passed all → removed ≡ batch → all ≡ true
  sweeping-all true h used = refl
  sweeping-all false h used = (let lt = (h.unsettled refl).1 in absurd (omega arith))

  -- all turns are made
  pub sweeping-over : (all : Bool) → turns ≡ 0 → Sweeping tells q sweep batch first now l m removed turns passed all → IsSwept tells q sweep batch first now l m removed all
  sweeping-over all e h = record {
    by = h.by;
    few = first_most (length h.by.steps) turns (h.rounds * length now.contents.access) batch h.made;
    turns = inl (h.rounds, no_turns (length h.by.steps) turns (h.rounds * length now.contents.access) e h.made, h.round);
    count = h.count;
    full = λ is. (let s = h.settled is in omega arith);
    more = λ used _. sweeping-all all h used;
    rest = λ is. inl (h.unsettled is).0;
  }
    where
      no_turns : (s t a : ℕ) → t ≡ 0 → s + t + a ≡ batch → s + a ≡ batch
      no_turns s t a none e = omega arith
