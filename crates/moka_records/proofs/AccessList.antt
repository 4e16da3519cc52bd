-- The access list after a change: which weight is counted for a number, and that no number stands twice.
use Rattle.std.proofs.Common.{◌≡◌, refl, ℕ, Bool, true, false, cond, not, ◌==◌, List, [], ◌∷◌, ◌++◌, Option, Some, None, option_map, option_to_list, ap, sym, ◌∙◌, inl, inr, append-nil, ◌||◌, is_some, subst, filter, true≢false}
use Rattle.std.specs.List.{IsDistinct}
use Rattle.moka_records.specs.declared.records.Member.{Member}
use Rattle.moka_records.specs.Records.{member, counted_of, numbers_of, without_member, without_members, to_back, all_to_back, is_listed, is_member, without_number}
use Rattle.moka_records.proofs.Maps.{AreApart, same_or_apart, same_by_test, itself_tested}
use Rattle.std.proofs.lemmas.List.{map-append}
use Rattle.std.proofs.lemmas.Map.Keys.{IsDistinct-head, IsDistinct-tail}
use Rattle.moka_records.proofs.Options.{none_by_test}
use Rattle.moka_records.proofs.WriteList.{once_taken_out, once_pushed, unlisted_all}

-- ---- counted weights

abbrev or_else : Option ℕ → Option ℕ → Option ℕ
or_else None b = b
or_else (Some a) b = Some a

or_none : (a : Option ℕ) → or_else a None ≡ a
or_none None = refl
or_none (Some a) = refl

counted-append : (k : ℕ) (xs ys : List Member) → counted_of k (xs ++ ys) ≡ or_else (counted_of k xs) (counted_of k ys)
counted-append k [] ys = refl
counted-append k (a ∷ xs) ys = elim (a.number == k) as (λ b. cond b (Some a.counted) (counted_of k (xs ++ ys)) ≡ or_else (cond b (Some a.counted) (counted_of k xs)) (counted_of k ys)) [ true ↦ refl | false ↦ counted-append k xs ys ]

-- where members leave by a test that answers alike at the number
counted-filter_same : (n : ℕ) (keep : ℕ → Bool) (b : Bool) → ((k : ℕ) → (k == n) ≡ true → keep k ≡ b) → (xs : List Member) → counted_of n (filter (λ a. keep a.number) xs) ≡ cond b (counted_of n xs) None
counted-filter_same n keep true alike [] = refl
counted-filter_same n keep false alike [] = refl
counted-filter_same n keep b alike (a ∷ xs) = go b (keep a.number) (a.number == n) refl (alike a.number) (counted-filter_same n keep b alike xs)
  where
    go : (b stays same : Bool) → (a.number == n) ≡ same → (same ≡ true → stays ≡ b) → counted_of n (filter (λ a. keep a.number) xs) ≡ cond b (counted_of n xs) None →
        counted_of n (cond stays (a ∷ filter (λ a. keep a.number) xs) (filter (λ a. keep a.number) xs)) ≡ cond b (cond same (Some a.counted) (counted_of n xs)) None
    go b true false e alike rest = ap (λ t. cond t (Some a.counted) (counted_of n (filter (λ a. keep a.number) xs))) e ∙ rest
    go b false false e alike rest = rest
    go true true true e alike rest = ap (λ t. cond t (Some a.counted) (counted_of n (filter (λ a. keep a.number) xs))) e
    go false false true e alike rest = rest
    go true false true e alike rest = absurd (true≢false (sym (alike refl)))
    go false true true e alike rest = absurd (true≢false (alike refl))

-- of the number that is taken out
pub counted_taken_out : (n : ℕ) (xs : List Member) → counted_of n (without_member n xs) ≡ None
counted_taken_out n xs = counted-filter_same n (λ k. not (k == n)) false (λ k same. ap not same) xs

-- of another number
pub counted_past_taken_out : (n k : ℕ) (xs : List Member) → AreApart k n → counted_of k (without_member n xs) ≡ counted_of k xs
counted_past_taken_out n k xs apart = counted-filter_same k (λ m. not (m == n)) true (λ m same. ap (λ x. not (x == n)) (same_by_test m k same) ∙ ap not apart.forth) xs

-- with a member more, those that stood there do
pub still_within : (a : Member) (xs : List Member) (m : ℕ) → is_member m xs ≡ true → is_member m (a ∷ xs) ≡ true
still_within a xs m h = elim (a.number == m) as (λ b. is_some (cond b (Some a.counted) (counted_of m xs)) ≡ true) [ true ↦ refl | false ↦ h ]

-- what is not counted is not counted in a front
pub uncounted_front : (n : ℕ) (xs ys : List Member) → counted_of n (xs ++ ys) ≡ None → counted_of n xs ≡ None
uncounted_front n xs ys absent = go (counted_of n xs) (sym (counted-append n xs ys) ∙ absent)
  where
    go : (o : Option ℕ) → or_else o (counted_of n ys) ≡ None → o ≡ None
    go None e = refl
    go (Some w) e = cc

-- nor where some leave
pub uncounted_filtered : (keep : ℕ → Bool) (n : ℕ) (xs : List Member) → counted_of n xs ≡ None → counted_of n (filter (λ a. keep a.number) xs) ≡ None
uncounted_filtered keep n xs absent =
    counted-filter_same n keep (keep n) (λ k same. ap keep (same_by_test k n same)) xs ∙ elim (keep n) as (λ b. cond b (counted_of n xs) None ≡ None) [ true ↦ absent | false ↦ refl ]

-- nor where one does
pub uncounted_taken_out : (n k : ℕ) (xs : List Member) → counted_of k xs ≡ None → counted_of k (without_member n xs) ≡ None
uncounted_taken_out n k xs absent = uncounted_filtered (λ m. not (m == n)) k xs absent

-- of a number that is put at the back
pub counted_pushed : (n w : ℕ) (xs : List Member) → counted_of n xs ≡ None → counted_of n (xs ++ member n w ∷ []) ≡ Some w
counted_pushed n w xs absent = counted-append n xs (member n w ∷ []) ∙ ap (λ o. or_else o (counted_of n (member n w ∷ []))) absent ∙ ap (λ b. cond b (Some w) None) (itself_tested n)

-- of another number
pub counted_past_pushed : (n w k : ℕ) (xs : List Member) → AreApart k n → counted_of k (xs ++ member n w ∷ []) ≡ counted_of k xs
counted_past_pushed n w k xs apart = counted-append k xs (member n w ∷ []) ∙ ap (λ b. or_else (counted_of k xs) (cond b (Some w) None)) (apart.back) ∙ or_none (counted_of k xs)

-- a move to the back changes no counted weight
pub counted-to_back : (n k : ℕ) (xs : List Member) → counted_of k (to_back n xs) ≡ counted_of k xs
counted-to_back n k xs =
    counted-append k (without_member n xs) (option_to_list (option_map (member n) (counted_of n xs))) ∙ elim (same_or_apart k n) [
      | inl same ↦ ap (λ x. or_else (counted_of x (without_member n xs)) (counted_of x (option_to_list (option_map (member n) (counted_of n xs))))) same
          ∙ ap (λ o. or_else o (counted_of n (option_to_list (option_map (member n) (counted_of n xs))))) (counted_taken_out n xs)
          ∙ itself (counted_of n xs) ∙ sym (ap (λ x. counted_of x xs) same)
      | inr apart ↦ ap (or_else (counted_of k (without_member n xs))) (other (counted_of n xs) apart) ∙ or_none _ ∙ counted_past_taken_out n k xs apart
    ]
  where
    itself : (o : Option ℕ) → counted_of n (option_to_list (option_map (member n) o)) ≡ o
    itself None = refl
    itself (Some w) = ap (λ b. cond b (Some w) None) (itself_tested n)

    other : (o : Option ℕ) → AreApart k n → counted_of k (option_to_list (option_map (member n) o)) ≡ None
    other None apart = refl
    other (Some w) apart = ap (λ b. cond b (Some w) None) (apart.back)

-- nor do several moves
pub counted-all_to_back : (ns : List ℕ) (k : ℕ) (xs : List Member) → counted_of k (all_to_back ns xs) ≡ counted_of k xs
counted-all_to_back [] k xs = refl
counted-all_to_back (n ∷ ns) k xs = counted-all_to_back ns k (to_back n xs) ∙ counted-to_back n k xs

-- what is not counted stays so where members leave
pub uncounted_without : (gone : List Member) (k : ℕ) (xs : List Member) → counted_of k xs ≡ None → counted_of k (without_members gone xs) ≡ None
uncounted_without [] k xs absent = absent
uncounted_without (a ∷ gone) k xs absent = uncounted_without gone k (without_member a.number xs) (uncounted_taken_out a.number k xs absent)

-- nothing is taken out where the number is not there
pub absent_taken_out : (n : ℕ) (xs : List Member) → counted_of n xs ≡ None → without_member n xs ≡ xs
absent_taken_out n [] absent = refl
absent_taken_out n (a ∷ xs) absent = go (absent_taken_out n xs) (a.number == n) refl absent
  where
    go : (counted_of n xs ≡ None → without_member n xs ≡ xs) → (b : Bool) → (a.number == n) ≡ b → cond b (Some a.counted) (counted_of n xs) ≡ None → cond (not b) (a ∷ without_member n xs) (without_member n xs) ≡ a ∷ xs
    go rest true e absent = cc
    go rest false e absent = ap (λ ys. a ∷ ys) (rest absent)

-- ---- no number twice

-- the numbers of the members that are left
numbers_taken_out : (n : ℕ) (xs : List Member) → numbers_of (without_member n xs) ≡ without_number n (numbers_of xs)
numbers_taken_out n [] = refl
numbers_taken_out n (a ∷ xs) = elim (not (a.number == n)) as (λ b. numbers_of (cond b (a ∷ without_member n xs) (without_member n xs)) ≡ cond b (a.number ∷ without_number n (numbers_of xs)) (without_number n (numbers_of xs))) [
  | true ↦ ap (λ ns. a.number ∷ ns) (numbers_taken_out n xs)
  | false ↦ numbers_taken_out n xs
]

-- a number is listed where it is counted
pub listed_counted : (n : ℕ) (xs : List Member) → is_listed n (numbers_of xs) ≡ is_member n xs
listed_counted n [] = refl
listed_counted n (a ∷ xs) = elim (a.number == n) as (λ b. (b || is_listed n (numbers_of xs)) ≡ is_some (cond b (Some a.counted) (counted_of n xs))) [ true ↦ refl | false ↦ listed_counted n xs ]

-- where a number is taken out
pub distinct_taken_out : (n : ℕ) (xs : List Member) → IsDistinct (◌==◌) (numbers_of xs) → IsDistinct (◌==◌) (numbers_of (without_member n xs))
distinct_taken_out n xs h = subst (IsDistinct (◌==◌)) (sym (numbers_taken_out n xs)) (once_taken_out n (numbers_of xs) h)

-- where a new number is put at the back
pub distinct_pushed : (n w : ℕ) (xs : List Member) → IsDistinct (◌==◌) (numbers_of xs) → counted_of n xs ≡ None → IsDistinct (◌==◌) (numbers_of (xs ++ member n w ∷ []))
distinct_pushed n w xs h absent = subst (IsDistinct (◌==◌)) (sym (map-append (λ (a : Member). a.number) xs (member n w ∷ []))) (once_pushed n (numbers_of xs) h (listed_counted n xs ∙ ap is_some absent))

-- where a member goes to the back
pub distinct-to_back : (n : ℕ) (xs : List Member) → IsDistinct (◌==◌) (numbers_of xs) → IsDistinct (◌==◌) (numbers_of (to_back n xs))
distinct-to_back n xs h = go (counted_of n xs)
  where
    go : (o : Option ℕ) → IsDistinct (◌==◌) (numbers_of (without_member n xs ++ option_to_list (option_map (member n) o)))
    go None = rw append-nil (distinct_taken_out n xs h)
    go (Some w) = distinct_pushed n w (without_member n xs) (distinct_taken_out n xs h) (counted_taken_out n xs)

-- where several members go to the back
pub distinct-all_to_back : (ns : List ℕ) (xs : List Member) → IsDistinct (◌==◌) (numbers_of xs) → IsDistinct (◌==◌) (numbers_of (all_to_back ns xs))
distinct-all_to_back [] xs h = h
distinct-all_to_back (n ∷ ns) xs h = distinct-all_to_back ns (to_back n xs) (distinct-to_back n xs h)

-- ---- the first

-- the first number does not stand again
pub front_once : (a : Member) (xs : List Member) → IsDistinct (◌==◌) (numbers_of (a ∷ xs)) → counted_of a.number xs ≡ None
front_once a xs h = none_by_test (counted_of a.number xs) (sym (listed_counted a.number xs) ∙ unlisted_all a.number (numbers_of xs) (IsDistinct-head (◌==◌) a.number (numbers_of xs) h))

-- the others stand once
pub rest_once : (a : Member) (xs : List Member) → IsDistinct (◌==◌) (numbers_of (a ∷ xs)) → IsDistinct (◌==◌) (numbers_of xs)
rest_once a xs h = IsDistinct-tail (◌==◌) a.number (numbers_of xs) h

-- the first is counted with its own weight
pub counted_front : (a : Member) (xs : List Member) → counted_of a.number (a ∷ xs) ≡ Some a.counted
counted_front a xs = ap (λ b. cond b (Some a.counted) (counted_of a.number xs)) (itself_tested a.number)

pub counted_behind : (a : Member) (xs : List Member) (k : ℕ) → AreApart k a.number → counted_of k (a ∷ xs) ≡ counted_of k xs
counted_behind a xs k apart = ap (λ b. cond b (Some a.counted) (counted_of k xs)) apart.back
