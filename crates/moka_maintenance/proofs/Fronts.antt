-- The front of the access list, and what it is once the front went to the back.
use Rattle.std.proofs.Common.{◌≡◌, refl, ℕ, ◌+◌, Bool, true, false, cond, not, ◌==◌, List, [], ◌∷◌, ◌++◌, length, Option, Some, None, IsSome, is_some, option_map, option_to_list, ◌&&◌, ap, sym, subst, ◌∙◌, arith, length-append}
use Rattle.std.proofs.lemmas.Bool.{cond-true, cond-false}
use Rattle.std.proofs.lemmas.List.Elements.{filter-append}
use Rattle.std.specs.List.{IsDistinct}
use Rattle.moka_records.specs.declared.records.Member.{Member}
use Rattle.moka_records.specs.Records.{Records, counted_of, is_member, is_settled, member, numbers_of, settled_members, to_back, without_member}
use Rattle.moka_parts.specs.Maintenance.{is_front, is_over}
use Rattle.moka_parts.specs.Exact.{IsWithin}
use Rattle.moka_records.proofs.AccessList.{absent_taken_out, counted-to_back, front_once}
use Rattle.moka_records.proofs.Maps.{itself_tested, same_by_test}

-- where the capacity is not exceeded, the list is within it
pub within-not_over : (capacity : Option ℕ) (xs : List Member) → is_over capacity xs ≡ false → IsWithin capacity xs
within-not_over None xs e = tt
within-not_over (Some capacity) xs e = grind arith

-- the front, and what is behind it
pub record Front (n : ℕ) (xs : List Member) : Type 0 where
  pub first : Member
  pub behind : List Member
  pub split : xs ≡ first ∷ behind
  pub number : first.number ≡ n
  pub moved : to_back n xs ≡ behind ++ first ∷ []

pub front_of : (n : ℕ) (xs : List Member) → IsDistinct (◌==◌) (numbers_of xs) → is_front n xs ≡ true → Front n xs
front_of n [] once e = cc
front_of n (a ∷ xs) once e =
    let same : a.number ≡ n = same_by_test a.number n e in
    let away : counted_of n xs ≡ None = subst (λ k. counted_of k xs ≡ None) same (front_once a xs once) in
    let out : without_member n (a ∷ xs) ≡ xs = cond-false (not (a.number == n)) (a ∷ without_member n xs) (without_member n xs) (ap not e) ∙ absent_taken_out n xs away in
    let counted : counted_of n (a ∷ xs) ≡ Some a.counted = cond-true (a.number == n) (Some a.counted) (counted_of n xs) e in
    let itself : member n a.counted ≡ a = subst (λ k. member k a.counted ≡ a) same refl in
    record {
      first = a;
      behind = xs;
      split = refl;
      number = same;
      moved = ap (λ ys. ys ++ option_to_list (option_map (member n) (counted_of n (a ∷ xs)))) out ∙ ap (λ o. xs ++ option_to_list (option_map (member n) o)) counted ∙ ap (λ m. xs ++ m ∷ []) itself;
    }

-- a removal makes the list shorter by one
length-taken_out : (n : ℕ) (xs : List Member) → IsDistinct (◌==◌) (numbers_of xs) → is_member n xs ≡ true → length (without_member n xs) + 1 ≡ length xs
unfolding IsDistinct
length-taken_out n [] once there = cc
length-taken_out n (a ∷ xs) once there = go (a.number == n) refl (length-taken_out n xs once.1) there
  where
    go : (b : Bool) → (a.number == n) ≡ b → (is_member n xs ≡ true → length (without_member n xs) + 1 ≡ length xs) → is_some (cond b (Some a.counted) (counted_of n xs)) ≡ true → length (cond (not b) (a ∷ without_member n xs) (without_member n xs)) + 1 ≡ length (a ∷ xs)
    go true e later there = let out = ap length (absent_taken_out n xs (subst (λ k. counted_of k xs ≡ None) (same_by_test a.number n e) (front_once a xs once))) in omega arith
    go false e later there = let rest = later there in omega arith

-- a move changes no length
pub length-to_back : (n : ℕ) (xs : List Member) → IsDistinct (◌==◌) (numbers_of xs) → is_member n xs ≡ true → length (to_back n xs) ≡ length xs
length-to_back n xs once there = go (counted_of n xs) refl there
  where
    go : (o : Option ℕ) → counted_of n xs ≡ o → is_some o ≡ true → length (to_back n xs) ≡ length xs
    go None e is = cc
    go (Some w) e is =
        let less = length-taken_out n xs once there in
        let plus = ap (λ o. length (without_member n xs ++ option_to_list (option_map (member n) o))) e ∙ length-append (without_member n xs) (member n w ∷ []) in
        omega arith

-- ---- settled members

module _ {K V : Type 0} (records : Records K V) where
  pub settled-append : (xs ys : List Member) → settled_members records (xs ++ ys) ≡ settled_members records xs ++ settled_members records ys
  settled-append xs ys = filter-append (λ a. is_settled records a.number) xs ys

  -- one that is not settled, behind others of the kind
  pub settled-pushed : (xs : List Member) (a : Member) → settled_members records xs ≡ [] → is_settled records a.number ≡ false → settled_members records (xs ++ a ∷ []) ≡ []
  settled-pushed xs a none is = settled-append xs (a ∷ []) ∙ ap (λ ys. ys ++ settled_members records (a ∷ [])) none ∙ cond-false (is_settled records a.number) (a ∷ []) [] is

  -- where none is settled, the front is not, nor is one of those behind it
  pub none_front : (a : Member) (xs : List Member) → settled_members records (a ∷ xs) ≡ [] → (is_settled records a.number ≡ false) × (settled_members records xs ≡ [])
  none_front a xs none = go (is_settled records a.number) refl none
    where
      go : (b : Bool) → is_settled records a.number ≡ b → cond b (a ∷ settled_members records xs) (settled_members records xs) ≡ [] → (is_settled records a.number ≡ false) × (settled_members records xs ≡ [])
      go true e none = cc
      go false e none = (e, none)

  -- where none is settled, a member is not
  pub none_settled : (n : ℕ) (xs : List Member) → settled_members records xs ≡ [] → is_member n xs ≡ true → is_settled records n ≡ false
  none_settled n [] none there = cc
  none_settled n (a ∷ xs) none there = go (none_settled n xs (none_front a xs none).1) (a.number == n) refl there
    where
      go : (is_member n xs ≡ true → is_settled records n ≡ false) → (b : Bool) → (a.number == n) ≡ b → is_some (cond b (Some a.counted) (counted_of n xs)) ≡ true → is_settled records n ≡ false
      go behind true same there = ap (is_settled records) (sym (same_by_test a.number n same)) ∙ (none_front a xs none).0
      go behind false other there = behind there

  -- and where each is not, none is settled
  pub all_unsettled : (xs : List Member) → ((n : ℕ) → is_member n xs ≡ true → is_settled records n ≡ false) → settled_members records xs ≡ []
  all_unsettled [] h = refl
  all_unsettled (a ∷ xs) h =
      cond-false (is_settled records a.number) (a ∷ settled_members records xs) (settled_members records xs) (h a.number (ap (λ b. is_some (cond b (Some a.counted) (counted_of a.number xs))) (itself_tested a.number)))
      ∙ all_unsettled xs (λ n there. h n (later (a.number == n) n there))
    where
      later : (b : Bool) (n : ℕ) → is_member n xs ≡ true → is_some (cond b (Some a.counted) (counted_of n xs)) ≡ true
      later true n there = refl
      later false n there = there

  -- one that is not settled goes to the back of such members
  pub none-to_back : (n : ℕ) (xs : List Member) → is_settled records n ≡ false → settled_members records xs ≡ [] → settled_members records (to_back n xs) ≡ []
  none-to_back n xs waiting none = all_unsettled (to_back n xs) (λ k there. none_settled k xs none (sym (ap is_some (counted-to_back n k xs)) ∙ there))

-- a settled member
pub settled_member : {K V : Type 0} (records : Records K V) (xs : List Member) (n : ℕ) → IsSome (counted_of n xs) → is_settled records n ≡ true → (is_member n xs && is_settled records n) ≡ true
settled_member records xs n there is = go (counted_of n xs) refl there
  where
    go : (o : Option ℕ) → counted_of n xs ≡ o → IsSome o → (is_member n xs && is_settled records n) ≡ true
    go None e there = cc
    go (Some w) e there = rw (e, is) refl
