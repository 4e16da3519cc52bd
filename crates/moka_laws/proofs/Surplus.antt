-- Where weight is the only ground for a removal, the steps of a run remove the front, and just enough of it once the
-- weight is within the capacity.
use Rattle.std.proofs.Common.{◌≡◌, refl, ℕ, ◌+◌, ◌-◌, ◌≤◌, nat_le, Bool, true, false, true≢false, cond, not, ◌==◌, ◌&&◌, ◌||◌, List, [], ◌∷◌, length, Some, is_some, inl, inr, ap, sym, subst, ◌∙◌, arith, if◌then◌else◌, option_map, slice_get, take}
use Rattle.std.specs.Option.{option_map_or}
use Rattle.std.specs.List.{IsDistinct, list_all}
use Rattle.std.proofs.lemmas.Bool.{and_parts, or_from, and_left}
use Rattle.std.proofs.lemmas.List.Sums.{sum_by-cons}
use Rattle.std.specs.FinMap as finite
use Rattle.moka_laws.proofs.Types.{Expired, Explicit, Replaced, Size, Record, Member, Records, State, Contents, Choice, Removes, MovesToBack, Drops, Freedom}
use Rattle.moka_records.specs.Records.{counted_of, is_applied, is_settled, is_member, numbers_of, total_weight, without_member}
use Rattle.moka_parts.specs.Visibility.{has_lapsed, is_expired, is_past_live, is_past_idle, is_written_before, is_read_before}
use Rattle.moka_parts.specs.Candidates.{prefix}
use Rattle.moka_parts.specs.Exact.{IsWithin}
use Rattle.moka_parts.specs.Settling.{IsConsistentState}
use Rattle.moka_parts.specs.Maintenance.{before_steps, at_end, AreFree, after_choice, after_choices, kept_by_choice, IsJustified, AreJustified, tests_of, is_front, is_over}
use Rattle.moka_parts.specs.Bounds.{removed_by, IsPlainSurplus}
use Rattle.moka_parts.specs.Laws.{RemovesEnough, RemovesFirst}
use Rattle.moka_laws.proofs.RunKeepsSound.{queues_kept}
use Rattle.moka_records.proofs.AccessList.{absent_taken_out, front_once, rest_once}
use Rattle.moka_records.proofs.Maps.{same_or_apart, itself_tested, same_by_test, get_past_remove, found_removed}

-- a front that is no weight
pub prefix_of_none : (members : List Member) (w : ℕ) → w ≡ 0 → prefix members w ≡ Some []
prefix_of_none [] w e = rw e refl
prefix_of_none (a ∷ members) w e = rw e refl

-- one member more
prefix_of_some : (a : Member) (members front : List Member) (w : ℕ) → (w == 0) ≡ false → prefix members (w - a.counted) ≡ Some front → prefix (a ∷ members) w ≡ Some (a ∷ front)
prefix_of_some a members front w some behind = ap (λ b. if b then Some [] else option_map (λ f. a ∷ f) (prefix members (w - a.counted))) some ∙ ap (option_map (λ f. a ∷ f)) behind

-- the first of a list in which no number stands twice leaves just the rest
rest_left : (a : Member) (xs : List Member) → IsDistinct (◌==◌) (numbers_of (a ∷ xs)) → without_member a.number (a ∷ xs) ≡ xs
rest_left a xs once = ap (λ b. cond (not b) (a ∷ without_member a.number xs) (without_member a.number xs)) (itself_tested a.number) ∙ absent_taken_out a.number xs (front_once a xs once)

-- of five tests of which none is passed
pub none_of_five : (a b c d e : Bool) → (a || b || c || d || e) ≡ false → (a ≡ false) × (b ≡ false) × (c ≡ false) × (d ≡ false) × (e ≡ false)
none_of_five false false false false false h = (refl, refl, refl, refl, refl)
none_of_five true b c d e h = cc
none_of_five false true c d e h = cc
none_of_five false false true d e h = cc
none_of_five false false false true e h = cc
none_of_five false false false false true h = cc

-- where all are settled, each member is
settled_member : {K V : Type 0} (records : Records K V) (members : List Member) (n : ℕ) → list_all (λ a. is_settled records a.number) members ≡ true → is_member n members ≡ true → is_settled records n ≡ true
settled_member records [] n all there = absurd (true≢false (sym there))
settled_member records (a ∷ members) n all there = go (λ there. settled_member records members n (and_parts (is_settled records a.number) (list_all (λ a. is_settled records a.number) members) all).1 there) (a.number == n) refl there
  where
    go : (is_member n members ≡ true → is_settled records n ≡ true) → (b : Bool) → (a.number == n) ≡ b → is_some (if b then Some a.counted else counted_of n members) ≡ true → is_settled records n ≡ true
    go behind true e there = ap (is_settled records) (sym (same_by_test a.number n e)) ∙ (and_parts (is_settled records a.number) (list_all (λ a. is_settled records a.number) members) all).0
    go behind false e there = behind there

-- where weight is the only ground, over or not
record IsPlain {K V X P W : Type 0} (s : State K V X P W) (now : ℕ) (c : Contents K V) : Type 0 where
  pub once : IsDistinct (◌==◌) (numbers_of c.access)
  pub settled : (n : ℕ) → is_member n c.access ≡ true → is_settled c.records n ≡ true
  pub fresh : (n : ℕ) (r : Record K V) → finite.get c.records n ≡ Some r → has_lapsed s.settings s.invalid_before r now ≡ false

-- the number of the front is that of the first
front_is : (n : ℕ) (members : List Member) → is_front n members ≡ true → (first : Member) × (rest : List Member) × (members ≡ first ∷ rest) × (first.number ≡ n)
front_is n [] e = cc
front_is n (a ∷ members) e = (a, members, refl, same_by_test a.number n e)

module _ {K V X P W : Type 0} (says : P → K → V → Bool → Type 0) (s : State K V X P W) (now : ℕ) where
  -- none of the five tests hides a record
  not_lapsed : (c : Contents K V) → IsPlain s now c → (n : ℕ) (r : Record K V) → finite.get c.records n ≡ Some r →
      (is_expired r now ≡ false) × (is_past_live s.settings r now ≡ false) × (is_past_idle s.settings r now ≡ false) × (is_written_before s.invalid_before r ≡ false) × (is_read_before s.invalid_before r ≡ false)
  not_lapsed c h n r there = none_of_five _ _ _ _ _ (h.fresh n r there)

  -- only too much weight takes a record out
  only_size : (c : Contents K V) → IsPlain s now c → (x : Choice) → IsJustified says (tests_of s now) c [] x → (n : ℕ) × (x ≡ Removes n Size) × ((is_front n c.access && is_over s.capacity c.access) ≡ true)
  only_size c h (Removes n Size) may = (n, refl, may.3)
  only_size c h (Removes n Replaced) may = absurd may.3
  only_size c h (Removes n Expired) may = let none = not_lapsed c h n may.0 may.1 in absurd (true≢false (sym may.3 ∙ or_from _ _ (or_from _ _ none.0 none.1) none.2))
  only_size c h (Removes n Explicit) may = elim may.3 [
    | inl ground ↦ let none = not_lapsed c h n may.0 may.1 in absurd (true≢false (sym ground ∙ or_from _ _ (and_left _ _ none.3) (and_left _ _ none.4)))
    | inr covered ↦ absurd covered
  ]
  only_size c h (MovesToBack n) may = absurd (true≢false (sym (h.settled n may.0) ∙ may.1))
  only_size c h (Drops i) may = (let none : slice_get [] i ≡ Some may.0 = may.1 in cc)

  -- it stays so after the front left
  plain_on : (c : Contents K V) (a : Member) (rest : List Member) → IsPlain s now c → c.access ≡ a ∷ rest → IsPlain s now (record c { records = finite.remove c.records a.number; access = rest })
  plain_on c a rest h are =
      let once = subst (λ (xs : List Member). IsDistinct (◌==◌) (numbers_of xs)) are h.once in
      record {
        once = rest_once a rest once;
        settled = λ n there. elim (same_or_apart n a.number) [
          | inl same ↦ (let none = front_once a rest once in let e = ap (λ k. counted_of k rest) same in absurd (true≢false (sym there ∙ ap is_some (e ∙ none))))
          | inr apart ↦ ap (λ o. option_map_or is_applied o false) (get_past_remove c.records a.number n apart) ∙ h.settled n (ap (λ (xs : List Member). is_member n xs) are ∙ ap (λ b. is_some (cond b (Some a.counted) (counted_of n rest))) apart.back ∙ there)
        ];
        fresh = λ n r there. h.fresh n r (found_removed c.records a.number n r there).1;
      }

  -- a removal of the front, and what follows
  record TakesFront (c : Contents K V) (x : Choice) (xs : List Choice) : Type 0 where
    pub first : Member
    pub rest : List Member
    pub are : c.access ≡ first ∷ rest
    pub over : is_over s.capacity c.access ≡ true
    pub step : x ≡ Removes first.number Size
    pub after : after_choice c x ≡ record c { records = finite.remove c.records first.number; access = rest }
    pub plain : IsPlain s now (after_choice c x)
    pub may : AreJustified says (tests_of s now) (after_choice c x) [] xs

  takes_front : (c : Contents K V) (x : Choice) (xs : List Choice) → IsPlain s now c → AreJustified says (tests_of s now) c [] (x ∷ xs) → TakesFront c x xs
  takes_front c x xs h may =
      let only = only_size c h x may.0 in
      let both = and_parts (is_front only.0 c.access) (is_over s.capacity c.access) only.2 in
      let (first, rest, are, number) = front_is only.0 c.access both.0 in
      let once = subst (λ (ys : List Member). IsDistinct (◌==◌) (numbers_of ys)) are h.once in
      let step : x ≡ Removes first.number Size = only.1 ∙ ap (λ n. Removes n Size) (sym number) in
      let after : after_choice c x ≡ record c { records = finite.remove c.records first.number; access = rest } =
      ap (after_choice c) step ∙ ap (λ ys. record c { records = finite.remove c.records first.number; access = ys }) (ap (without_member first.number) are ∙ rest_left first rest once) in
      record {
        first = first;
        rest = rest;
        are = are;
        over = both.1;
        step = step;
        after = after;
        plain = subst (IsPlain s now) (sym after) (plain_on c first rest h are);
        may = subst (λ ps. AreJustified says (tests_of s now) (after_choice c x) ps xs) (ap (kept_by_choice []) step) may.1;
      }

  -- the removals are of the front, in its order
  front_removed : (c : Contents K V) (xs : List Choice) → IsPlain s now c → AreJustified says (tests_of s now) c [] xs → removed_by xs ≡ numbers_of (take (length (removed_by xs)) c.access)
  front_removed c [] h may = refl
  front_removed c (x ∷ xs) h may =
      let f = takes_front c x xs h may in
      let later : removed_by xs ≡ numbers_of (take (length (removed_by xs)) f.rest) = front_removed (after_choice c x) xs f.plain f.may ∙ ap (λ (d : Contents K V). numbers_of (take (length (removed_by xs)) d.access)) f.after in
      subst (λ y. removed_by (y ∷ xs) ≡ numbers_of (take (length (removed_by (y ∷ xs))) c.access)) (sym f.step)
      (subst (λ ys. f.first.number ∷ removed_by xs ≡ numbers_of (take (length (f.first.number ∷ removed_by xs)) ys)) (sym f.are) (ap (λ ns. f.first.number ∷ ns) later))

  -- and there are just enough of them, where the weight is within the capacity at the end
  enough_removed : (capacity : ℕ) → s.capacity ≡ Some capacity → (c : Contents K V) (xs : List Choice) → IsPlain s now c → AreJustified says (tests_of s now) c [] xs → total_weight (after_choices c xs).access ≤ capacity →
      (front : List Member) × (prefix c.access (total_weight c.access - capacity) ≡ Some front) × (removed_by xs ≡ numbers_of front)
  enough_removed capacity limited c [] h may within = ([], prefix_of_none c.access (total_weight c.access - capacity) (omega arith), refl)
  enough_removed capacity limited c (x ∷ xs) h may within =
      let f = takes_front c x xs h may in
      let over : is_over (Some capacity) c.access ≡ true = subst (λ o. is_over o c.access ≡ true) limited f.over in
      let left : (after_choice c x).access ≡ f.rest = ap (λ (d : Contents K V). d.access) f.after in
      let later = subst (λ (ys : List Member). (front : List Member) × (prefix ys (total_weight ys - capacity) ≡ Some front) × (removed_by xs ≡ numbers_of front)) left (enough_removed capacity limited (after_choice c x) xs f.plain f.may within) in
      let weighs : total_weight c.access ≡ f.first.counted + total_weight f.rest = ap total_weight f.are ∙ sum_by-cons (λ (y : Member). y.counted) f.first f.rest in (
        f.first ∷ later.0,
        subst (λ ys. prefix ys (total_weight c.access - capacity) ≡ Some (f.first ∷ later.0)) (sym f.are)
            (prefix_of_some f.first f.rest later.0 (total_weight c.access - capacity) (some_over capacity (total_weight c.access) over) (subst (λ w. prefix f.rest w ≡ Some later.0) (less capacity f.first.counted (total_weight f.rest) (total_weight c.access) weighs) later.1)),
        subst (λ y. removed_by (y ∷ xs) ≡ f.first.number ∷ numbers_of later.0) (sym f.step) (ap (λ ns. f.first.number ∷ ns) later.2),
      )
    where
      some_over : (capacity total : ℕ) → not (nat_le (total + 0) capacity) ≡ true → ((total - capacity) == 0) ≡ false
      some_over capacity total h = grind arith

      less : (capacity a rest total : ℕ) → total ≡ a + rest → rest - capacity ≡ (total - capacity) - a
      less capacity a rest total e = grind (arith, e)

  -- each removal is for an exceeded capacity
  all_for_size : (test : Choice → Bool) → ((n : ℕ) → test (Removes n Size) ≡ true) → (c : Contents K V) (xs : List Choice) → IsPlain s now c → AreJustified says (tests_of s now) c [] xs → list_all test xs ≡ true
  all_for_size test passed c [] h may = refl
  all_for_size test passed c (x ∷ xs) h may =
      let f = takes_front c x xs h may in
      ap (λ y. test y && list_all test xs) f.step ∙ ap (λ b. b && list_all test xs) (passed f.first.number) ∙ all_for_size test passed (after_choice c x) xs f.plain f.may

  -- it stays so through all the steps
  still_plain : (c : Contents K V) (xs : List Choice) → IsPlain s now c → AreJustified says (tests_of s now) c [] xs → IsPlain s now (after_choices c xs)
  still_plain c [] h may = h
  still_plain c (x ∷ xs) h may = let f = takes_front c x xs h may in still_plain (after_choice c x) xs f.plain f.may

  module _ (ch : Freedom) where
    module _ (capacity : ℕ) (h : IsConsistentState s) (free : AreFree says s now ch) (surplus : IsPlainSurplus s now capacity (before_steps s ch)) where
      plain : IsPlain s now (before_steps s ch)
      plain = record { once = (queues_kept s ch h).once; settled = λ n there. settled_member (before_steps s ch).records (before_steps s ch).access n surplus.settled there; fresh = surplus.fresh }

      may : AreJustified says (tests_of s now) (before_steps s ch) [] ch.steps
      may = subst (λ ps. AreJustified says (tests_of s now) (before_steps s ch) ps ch.steps) surplus.no_predicate free.1

      -- a test that each removal for an exceeded capacity passes, all the steps of a run pass
      pub removes_for_size_alone : (test : Choice → Bool) → ((n : ℕ) → test (Removes n Size) ≡ true) → list_all test ch.steps ≡ true
      removes_for_size_alone test passed = all_for_size test passed (before_steps s ch) ch.steps plain may

      -- all members that it leaves are settled
      pub leaves_settled : (n : ℕ) → is_member n (at_end s ch).access ≡ true → is_settled (at_end s ch).records n ≡ true
      leaves_settled = (still_plain (before_steps s ch) ch.steps plain may).settled

    -- steps that end within the capacity remove the shortest front that is heavy enough
    pub removes_enough : RemovesEnough says s now ch
    removes_enough capacity h free surplus within =
        enough_removed capacity surplus.limited (before_steps s ch) ch.steps (plain capacity h free surplus) (may capacity h free surplus) (subst (λ o. IsWithin o (at_end s ch).access) surplus.limited within)

    -- steps that remove so many remove just the first ones
    pub removes_first : RemovesFirst says s now ch
    removes_first capacity many h free surplus as_many =
        front_removed (before_steps s ch) ch.steps (plain capacity h free surplus) (may capacity h free surplus) ∙ ap (λ k. numbers_of (take k (before_steps s ch).access)) as_many
