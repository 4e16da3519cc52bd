-- Lists of numbers after a change: which stand there, and that none stands twice.
use Rattle.std.proofs.Common.{◌≡◌, refl, ℕ, Bool, true, false, cond, not, ◌==◌, ◌||◌, List, [], ◌∷◌, ◌++◌, ap, sym, ◌∙◌, inl, inr, if◌then◌else◌}
use Rattle.std.proofs.Math.Bool.{or-false, or-true}
use Rattle.std.specs.List.{IsDistinct, AllByRecursion, list_any}
use Rattle.moka_records.specs.declared.records.Member.{Member}
use Rattle.moka_records.specs.Records.{is_listed, without_number, without_numbers, number_to_back}
use Rattle.moka_records.proofs.Maps.{AreApart, same_or_apart, same_by_test, itself_tested, numbers_alike}
use Rattle.std.proofs.lemmas.List.Elements.{All-filter, All-from_recursion, recursion_from_All}
use Rattle.std.proofs.lemmas.List.Folds.{list_any-append, list_any_none}
use Rattle.std.proofs.lemmas.Map.Views.{any-filter_same}
use Rattle.std.proofs.lemmas.Map.Keys.{IsDistinct-push}
use Rattle.std.proofs.lemmas.Bool.{and_right}

-- ---- which stand there

-- the test turned round
pub turned : (n : ℕ) (ns : List ℕ) → list_any (λ m. n == m) ns ≡ is_listed n ns
turned n ns = λ i. list_any (λ m. numbers_alike.symm n m i) ns

-- a number that differs from all does not stand there
pub unlisted_all : (n : ℕ) (ns : List ℕ) → AllByRecursion (λ y. (n == y) ≡ false) ns → is_listed n ns ≡ false
unlisted_all n ns h = sym (turned n ns) ∙ list_any_none (λ m. n == m) ns (All-from_recursion (λ y. (n == y) ≡ false) ns h)

-- what is put at the back
pub listed_pushed : (k n : ℕ) (ns : List ℕ) → is_listed k (ns ++ n ∷ []) ≡ (is_listed k ns || (n == k))
listed_pushed k n ns = list_any-append (λ m. m == k) ns (n ∷ []) ∙ ap (λ b. is_listed k ns || b) (or-false (n == k))

-- what is taken out
pub listed_taken_out : (n : ℕ) (ns : List ℕ) → is_listed n (without_number n ns) ≡ false
listed_taken_out n ns = any-filter_same (λ m. m == n) (λ m. not (m == n)) false (λ k same. ap not same) ns

-- another number
pub listed_past_taken_out : (n k : ℕ) (ns : List ℕ) → AreApart k n → is_listed k (without_number n ns) ≡ is_listed k ns
listed_past_taken_out n k ns apart = any-filter_same (λ m. m == k) (λ m. not (m == n)) true (λ m same. ap (λ x. not (x == n)) (same_by_test m k same) ∙ ap not apart.forth) ns

-- nothing is taken out where the number does not stand
pub unlisted_taken_out : (n : ℕ) (ns : List ℕ) → is_listed n ns ≡ false → without_number n ns ≡ ns
unlisted_taken_out n [] absent = refl
unlisted_taken_out n (m ∷ ns) absent = go (unlisted_taken_out n ns) (m == n) refl absent
  where
    go : (is_listed n ns ≡ false → without_number n ns ≡ ns) → (b : Bool) → (m == n) ≡ b → (b || is_listed n ns) ≡ false → cond (not b) (m ∷ without_number n ns) (without_number n ns) ≡ m ∷ ns
    go rest true e absent = cc
    go rest false e absent = ap (λ xs. m ∷ xs) (rest absent)

-- what does not stand there stays so
pub unlisted_without : (gone : List Member) (k : ℕ) (ns : List ℕ) → is_listed k ns ≡ false → is_listed k (without_numbers gone ns) ≡ false
unlisted_without [] k ns absent = absent
unlisted_without (a ∷ gone) k ns absent = unlisted_without gone k (without_number a.number ns)
    (any-filter_same (λ m. m == k) (λ m. not (m == a.number)) (not (k == a.number)) (λ m same. ap (λ x. not (x == a.number)) (same_by_test m k same)) ns ∙ and_right _ _ absent)

-- a move to the back changes nothing
pub listed_moved : (n k : ℕ) (ns : List ℕ) → is_listed k (number_to_back n ns) ≡ is_listed k ns
listed_moved n k ns = go (is_listed n ns) refl
  where
    go : (b : Bool) → is_listed n ns ≡ b → is_listed k (if b then without_number n ns ++ n ∷ [] else ns) ≡ is_listed k ns
    go false e = refl
    go true e = listed_pushed k n (without_number n ns) ∙ elim (same_or_apart k n) [
      | inl same ↦ ap (λ b. is_listed k (without_number n ns) || b) (ap (λ x. n == x) same ∙ itself_tested n) ∙ or-true (is_listed k (without_number n ns)) ∙ sym e ∙ sym (ap (λ x. is_listed x ns) same)
      | inr apart ↦ ap (λ b. is_listed k (without_number n ns) || b) apart.back ∙ or-false (is_listed k (without_number n ns)) ∙ listed_past_taken_out n k ns apart
    ]

-- ---- none twice

-- where a number is taken out
pub once_taken_out : (n : ℕ) (ns : List ℕ) → IsDistinct (◌==◌) ns → IsDistinct (◌==◌) (without_number n ns)
unfolding IsDistinct
once_taken_out n [] h = tt
once_taken_out n (m ∷ ns) h = elim (not (m == n)) as (λ b. IsDistinct (◌==◌) (cond b (m ∷ without_number n ns) (without_number n ns))) [ true ↦ (recursion_from_All _ _ (All-filter (λ k. not (k == n)) (λ y. (m == y) ≡ false) ns (All-from_recursion _ ns h.0)), once_taken_out n ns h.1) | false ↦ once_taken_out n ns h.1 ]

-- where a new number is put at the back
pub once_pushed : (n : ℕ) (ns : List ℕ) → IsDistinct (◌==◌) ns → is_listed n ns ≡ false → IsDistinct (◌==◌) (ns ++ n ∷ [])
once_pushed n ns h absent = IsDistinct-push numbers_alike ns n h (turned n ns ∙ absent)

-- where a number goes to the back
pub once_moved : (n : ℕ) (ns : List ℕ) → IsDistinct (◌==◌) ns → IsDistinct (◌==◌) (number_to_back n ns)
once_moved n ns h = elim (is_listed n ns) as (λ b. IsDistinct (◌==◌) (if b then without_number n ns ++ n ∷ [] else ns)) [ true ↦ once_pushed n (without_number n ns) (once_taken_out n ns h) (listed_taken_out n ns) | false ↦ h ]

-- where members' numbers are taken out
pub once_without : (gone : List Member) (ns : List ℕ) → IsDistinct (◌==◌) ns → IsDistinct (◌==◌) (without_numbers gone ns)
once_without [] ns h = h
once_without (a ∷ gone) ns h = once_without gone (without_number a.number ns) (once_taken_out a.number ns h)
