-- Steps one after the other, what they tell, and what they leave.
use Rattle.std.proofs.Common.{◌≡◌, ◌≢◌, refl, ℕ, ◌+◌, ◌≤◌, Bool, true, false, true≢false, ◌==◌, List, [], ◌∷◌, ◌++◌, length, Option, Some, None, is_some, inl, inr, ap, sym, subst, ◌∙◌, arith, append-nil, length-append}
use Rattle.std.proofs.lemmas.Bool.{ne_eqb, cond-false, and_parts}
use Rattle.std.specs.Option.{option_map, option_map_or}
use Rattle.std.specs.Prelude.{option_to_list}
use Rattle.moka_parts.specs.declared.notification.RemovalCause.{RemovalCause}
use Rattle.moka_parts.specs.declared.notification.RemovalCause.TheVariants.{Expired, Explicit, Replaced, Size}
use Rattle.moka_records.specs.declared.records.Member.{Member}
use Rattle.moka_records.specs.declared.records.Record.{Record}
use Rattle.moka_parts.specs.declared.records.Registered.{Registered}
use Rattle.moka_parts.specs.Visibility.{SomeCovers}
use Rattle.moka_records.specs.Records.{counted_of, is_applied, is_member, is_settled, member, without_member, to_back}
use Rattle.moka_parts.specs.Maintenance.{Choice, Removes, MovesToBack, Drops, Tests, left_by_choice, left_by_choices}
use Rattle.moka_parts.specs.Bounds.{removed_by}
use Rattle.moka_laws.proofs.OneMore.{removed_by_append}
use Rattle.moka_store.proofs.Gets.{after_remove, get-past_remove}
use Rattle.moka_records.proofs.AccessList.{counted-to_back}
use Rattle.moka_store.proofs.Members.{counted-without}
use Rattle.moka_maintenance.specs.Steps.{Stock, after_step, after_steps, MayLeave, MayRun, MayAll, AreAllMembers, HasUnsettled, Told, IsStepped, HasNoSettled}
use Rattle.moka_maintenance.proofs.Dropping.{gone-append}
use Rattle.moka_maintenance.proofs.Told.{told-none, told-on}
use Rattle.moka_maintenance.proofs.Fronts.{none_settled, none-to_back}
use Rattle.std.specs.FinMap.{get}
use Rattle.moka_maintenance.proofs.Listed.{length-removed}

-- the records that steps remove, counted
pub removed-on : (xs ys : List Choice) → length (removed_by (xs ++ ys)) ≡ length (removed_by xs) + length (removed_by ys)
removed-on xs ys = ap length (removed_by_append xs ys) ∙ length-append (removed_by xs) (removed_by ys)

pub removed-few : (xs : List Choice) → length (removed_by xs) ≤ length xs
removed-few [] = omega arith
removed-few (Removes n cause ∷ xs) = let h = removed-few xs in omega arith
removed-few (MovesToBack n ∷ xs) = let h = removed-few xs in omega arith
removed-few (Drops i ∷ xs) = let h = removed-few xs in omega arith

module _ {K V : Type 0} where
  pub steps-append : (c : Stock K V) (xs ys : List Choice) → after_steps c (xs ++ ys) ≡ after_steps (after_steps c xs) ys
  steps-append c [] ys = refl
  steps-append c (x ∷ xs) ys = steps-append (after_step c x) xs ys

  module _ (May : Stock K V → Choice → Type 0) where
    pub may-append : (c : Stock K V) (xs ys : List Choice) → MayAll May c xs → MayAll May (after_steps c xs) ys → MayAll May c (xs ++ ys)
    may-append c [] ys first then = then
    may-append c (x ∷ xs) ys first then = (first.0, may-append (after_step c x) xs ys first.1 then)

    pub may-second : (c : Stock K V) (xs ys : List Choice) → MayAll May c (xs ++ ys) → MayAll May (after_steps c xs) ys
    may-second c [] ys may = may
    may-second c (x ∷ xs) ys may = may-second (after_step c x) xs ys may.1

    -- what one rule allows, another does
    pub may-also : (Other : Stock K V → Choice → Type 0) → ((c : Stock K V) (x : Choice) → May c x → Other c x) → (c : Stock K V) (xs : List Choice) → MayAll May c xs → MayAll Other c xs
    may-also Other also c [] may = tt
    may-also Other also c (x ∷ xs) may = (also c x may.0, may-also Other also (after_step c x) xs may.1)

-- ---- each removal makes the access list shorter

-- another member stays one
pub member-past : (n m : ℕ) (access : List Member) → m ≢ n → is_member m (without_member n access) ≡ is_member m access
member-past n m access other = ap is_some (counted-without n m access ∙ cond-false (m == n) None (counted_of m access) (ne_eqb m n other))

one_at_most : (n : ℕ) (o : Option ℕ) → length (option_to_list (option_map (member n) o)) ≤ 1
one_at_most n None = omega arith
one_at_most n (Some w) = omega arith

length-back : (n : ℕ) (xs : List Member) → is_member n xs ≡ true → length (to_back n xs) ≤ length xs
length-back n xs e = let less = length-removed n xs e in let plus = length-append (without_member n xs) (option_to_list (option_map (member n) (counted_of n xs))) in let one = one_at_most n (counted_of n xs) in omega arith

pub shrinks : {K V : Type 0} (c : Stock K V) (xs : List Choice) → MayAll MayLeave c xs → length (after_steps c xs).contents.access + length (removed_by xs) ≤ length c.contents.access
shrinks c [] may = omega arith
shrinks c (Removes n cause ∷ xs) may = let rest = shrinks (after_step c (Removes n cause)) xs may.1 in let less = length-removed n c.contents.access (and_parts (is_member n c.contents.access) (is_settled c.contents.records n) may.0.2).0 in omega arith
shrinks c (MovesToBack n ∷ xs) may = let rest = shrinks (after_step c (MovesToBack n)) xs may.1 in let less = length-back n c.contents.access may.0.0 in omega arith
shrinks c (Drops i ∷ xs) may = absurd may.0

-- ---- what one rule allows, another does

module _ {K V P : Type 0} (q : Tests) (says : P → K → V → Bool → Type 0) (ps : List (Registered P)) where
  pub run_leaves : (c : Stock K V) (x : Choice) → MayRun says ps q c x → MayLeave c x
  run_leaves c (Removes n cause) may = (may.0, may.1, may.2)
  run_leaves c (MovesToBack n) may = may
  run_leaves c (Drops i) may = absurd may

  -- by fewer predicates
  pub fewer_run : (qs : List (Registered P)) → ((r : Record K V) → SomeCovers says qs r → SomeCovers says ps r) → (c : Stock K V) (x : Choice) → MayRun says qs q c x → MayRun says ps q c x
  fewer_run qs less c (Removes n Expired) may = may
  fewer_run qs less c (Removes n Explicit) may = elim may.3 [ inl ground ↦ (may.0, may.1, may.2, inl ground) | inr covered ↦ (may.0, may.1, may.2, inr (less may.0 covered)) ]
  fewer_run qs less c (Removes n Size) may = may
  fewer_run qs less c (Removes n Replaced) may = absurd may.3
  fewer_run qs less c (MovesToBack n) may = may
  fewer_run qs less c (Drops i) may = absurd may

-- ---- members that are not settled

module _ {K V : Type 0} where
  apart : {n m : ℕ} (c : Stock K V) → is_settled c.contents.records n ≡ true → is_settled c.contents.records m ≡ false → m ≢ n
  apart c settled unsettled same = true≢false (sym settled ∙ (ap (is_settled c.contents.records) (sym same) ∙ unsettled))

  -- a member that is not settled stays
  pub unsettled-step : (c : Stock K V) (x : Choice) → MayLeave c x → HasUnsettled c → HasUnsettled (after_step c x)
  unsettled-step c (Removes n cause) may u =
      let other = apart {n = n} {m = u.number} c (and_parts (is_member n c.contents.access) (is_settled c.contents.records n) may.2).1 u.unsettled in
      record {
        number = u.number;
        is_in = member-past n u.number c.contents.access other ∙ u.is_in;
        unsettled = ap (λ o. option_map_or is_applied o false) (get-past_remove c.contents.records n u.number other) ∙ u.unsettled;
      }
  unsettled-step c (MovesToBack n) may u = record { number = u.number; is_in = ap is_some (counted-to_back n u.number c.contents.access) ∙ u.is_in; unsettled = u.unsettled }
  unsettled-step c (Drops i) may u = absurd may

  -- nor does one that goes to the back leave
  pub unsettled-passed : (c : Stock K V) (n : ℕ) → MayLeave c (MovesToBack n) → HasUnsettled (after_step c (MovesToBack n))
  unsettled-passed c n may = unsettled-step c (MovesToBack n) may (record { number = n; is_in = may.0; unsettled = may.1 })

  pub unsettled-steps : (c : Stock K V) (xs : List Choice) → MayAll MayLeave c xs → HasUnsettled c → HasUnsettled (after_steps c xs)
  unsettled-steps c [] may u = u
  unsettled-steps c (x ∷ xs) may u = unsettled-steps (after_step c x) xs may.1 (unsettled-step c x may.0 u)

  -- ---- members that are

  -- each record stays a settled member
  members-step : (c : Stock K V) (x : Choice) → AreAllMembers c → AreAllMembers (after_step c x)
  members-step c (Removes m cause) all = λ n r at.
      let old = after_remove c.contents.records m n r at in
      let is = all n r old.1 in
      (is.0, member-past m n c.contents.access old.0 ∙ is.1)
  members-step c (MovesToBack m) all = λ n r at. ((all n r at).0, ap is_some (counted-to_back m n c.contents.access) ∙ (all n r at).1)
  members-step c (Drops i) all = all

  pub members-steps : (c : Stock K V) (xs : List Choice) → AreAllMembers c → AreAllMembers (after_steps c xs)
  members-steps c [] all = all
  members-steps c (x ∷ xs) all = members-steps (after_step c x) xs (members-step c x all)

  -- where no member is settled, none leaves, and none is later
  none-step : (c : Stock K V) (x : Choice) → MayLeave c x → HasNoSettled c → HasNoSettled (after_step c x)
  none-step c (Removes m cause) may none =
      let is = and_parts (is_member m c.contents.access) (is_settled c.contents.records m) may.2 in
      absurd (true≢false (sym is.1 ∙ none_settled c.contents.records m c.contents.access none is.0))
  none-step c (MovesToBack m) may none = none-to_back c.contents.records m c.contents.access may.1 none
  none-step c (Drops i) may none = absurd may

  pub none-steps : (c : Stock K V) (xs : List Choice) → MayAll MayLeave c xs → HasNoSettled c → HasNoSettled (after_steps c xs)
  none-steps c [] may none = none
  none-steps c (x ∷ xs) may none = none-steps (after_step c x) xs may.1 (none-step c x may.0 none)

  -- ---- what is left was there before

  pub still_there : (c : Stock K V) (xs : List Choice) (n : ℕ) (r : Record K V) → get (after_steps c xs).contents.records n ≡ Some r → get c.contents.records n ≡ Some r
  still_there c [] n r at = at
  still_there c (Removes m cause ∷ xs) n r at = (after_remove c.contents.records m n r (still_there (after_step c (Removes m cause)) xs n r at)).1
  still_there c (MovesToBack m ∷ xs) n r at = still_there (after_step c (MovesToBack m)) xs n r at
  still_there c (Drops i ∷ xs) n r at = still_there c xs n r at

module _ {K V L : Type 0} (tells : L → K → V → RemovalCause → L → Type 0) (May : Stock K V → Choice → Type 0) where
  -- no step
  unfoldable pub stepped-none : (c : Stock K V) (l : Option L) → IsStepped tells May c c l l
  stepped-none c l = record { steps = []; may = tt; led = refl; told = told-none tells l }

  -- some steps and then others
  unfoldable pub stepped-on : (a b c : Stock K V) (l m k : Option L) → IsStepped tells May a b l m → IsStepped tells May b c m k → IsStepped tells May a c l k
  stepped-on a b c l m k h j = record {
    steps = h.steps ++ j.steps;
    may = may-append May a h.steps j.steps h.may (subst (λ x. MayAll May x j.steps) h.led j.may);
    led = j.led ∙ (ap (λ x. after_steps x j.steps) h.led ∙ sym (steps-append a h.steps j.steps));
    told = subst (λ ns. Told tells l ns k) (ap (λ (x : Stock K V). left_by_choices a.contents h.steps ++ left_by_choices x.contents j.steps) h.led ∙ sym (gone-append a.contents h.steps j.steps)) (told-on tells l m k (left_by_choices a.contents h.steps) (left_by_choices b.contents j.steps) h.told j.told);
  }

  -- one step
  unfoldable pub stepped-one : (a b : Stock K V) (l m : Option L) (x : Choice) → May a x → b ≡ after_step a x → Told tells l (left_by_choice a.contents x) m → IsStepped tells May a b l m
  stepped-one a b l m x may led told = record { steps = x ∷ []; may = (may, tt); led = led; told = subst (λ ns. Told tells l ns m) (sym (append-nil (left_by_choice a.contents x))) told }

  -- the same steps by another rule
  unfoldable pub stepped-also : (Other : Stock K V → Choice → Type 0) → ((c : Stock K V) (x : Choice) → May c x → Other c x) → (a b : Stock K V) (l m : Option L) → IsStepped tells May a b l m → IsStepped tells Other a b l m
  stepped-also Other also a b l m h = record { steps = h.steps; may = may-also May Other also a h.steps h.may; led = h.led; told = h.told }

  -- the access list becomes shorter by what leaves
  pub shorter : ((c : Stock K V) (x : Choice) → May c x → MayLeave c x) → (a b : Stock K V) (l m : Option L) (h : IsStepped tells May a b l m) → length b.contents.access + length (removed_by h.steps) ≤ length a.contents.access
  shorter leaves a b l m h = subst (λ (x : Stock K V). length x.contents.access + length (removed_by h.steps) ≤ length a.contents.access) (sym h.led) (shrinks a h.steps (may-also May MayLeave leaves a h.steps h.may))
