-- A loop over a list that changes one of its elements at each step.
use Rattle.std.proofs.Common.{◌≡◌, ◌∙◌, ℕ, zero, suc, ◌<◌, ◌≤◌, ◌+◌, List, [], ◌∷◌, ◌++◌, arith, get_or, length, set, subst, sym, take}
use Rattle.std.proofs.lemmas.List.{take_all, take-append-le}
use Rattle.std.specs.List.{AllZip}

-- the first so many elements are related to those that they were, and the others are as they were
abbrev pub AreReached : {A : Type 0} → (A → A → Type 0) → ℕ → List A → List A → Type 0
AreReached R zero xs ys = ys ≡ xs
AreReached R (suc i) [] ys = ys ≡ []
AreReached R (suc i) (x ∷ xs) [] = ⊥
AreReached R (suc i) (x ∷ xs) (y ∷ ys) = R x y × AreReached R i xs ys

module _ {A : Type 0} (R : A → A → Type 0) where
  -- one more
  reached_more : (i : ℕ) (xs ys : List A) (d y : A) → i < length ys → AreReached R i xs ys → R (get_or ys i d) y → AreReached R (suc i) xs (set ys i y)
  reached_more zero [] [] d y less same r = let no : ⊥ = omega arith in absurd no
  reached_more zero [] (z ∷ ys) d y less same r = cc
  reached_more zero (x ∷ xs) [] d y less same r = let no : ⊥ = omega arith in absurd no
  reached_more zero (x ∷ xs) (z ∷ ys) d y less same r = let (first, rest) : (z ≡ x) × (ys ≡ xs) = (cc, cc) in (subst (λ a. R a y) first r, rest)
  reached_more (suc i) [] [] d y less same r = let no : ⊥ = omega arith in absurd no
  reached_more (suc i) [] (z ∷ ys) d y less same r = cc
  reached_more (suc i) (x ∷ xs) [] d y less same r = absurd same
  reached_more (suc i) (x ∷ xs) (z ∷ ys) d y less same r = (same.0, reached_more i xs ys d y (omega arith) same.1 r)

  pub one_more : (i : ℕ) (xs ys : List A) (d y : A) → i < length ys → AreReached R i xs ys → R (get_or ys i d) y → AreReached R (i + 1) xs (set ys i y)
  one_more i xs ys d y less same r = let next : suc i ≡ i + 1 = omega arith in subst (λ n. AreReached R n xs (set ys i y)) next (reached_more i xs ys d y less same r)

  -- all of them
  pub all_reached : (i : ℕ) (xs ys : List A) → length ys ≤ i → AreReached R i xs ys → AllZip R xs ys
  all_reached zero xs [] most same = subst (λ l. AllZip R l []) same tt
  all_reached zero xs (y ∷ ys) most same = let no : ⊥ = omega arith in absurd no
  all_reached (suc i) [] ys most same = subst (λ l. AllZip R [] l) (sym same) tt
  all_reached (suc i) (x ∷ xs) [] most same = absurd same
  all_reached (suc i) (x ∷ xs) (y ∷ ys) most same = (same.0, all_reached i xs ys (omega arith) same.1)

-- a list is what it was before more stood behind it
pub cut_back : {A : Type 0} (n : ℕ) (xs ys : List A) → length xs ≡ n → take n (xs ++ ys) ≡ xs
cut_back n xs ys same = take-append-le n xs ys (omega arith) ∙ take_all n xs (omega arith)
