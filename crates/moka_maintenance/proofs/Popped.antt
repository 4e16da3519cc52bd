-- What is taken from the front of a list.
use Rattle.std.proofs.Common.{◌≡◌, ◌<◌, ◌⊎◌, ℕ, zero, suc, List, [], ◌∷◌, None, length, slice_get, get_or, Contains, inl, inr, refl, arith, ◌++◌, Some, ap}

at_cases : {A : Type 0} (x y : A) (xs : List A) (k : ℕ) → k < length (x ∷ xs) → get_or (x ∷ xs) k y ≡ y → (x ≡ y) ⊎ Contains xs y
at_cases x y xs zero lt e = inl e
at_cases x y xs (suc k) lt e = inr (k, omega arith, e)

-- what is in a list is its first, or is behind that
pub first_or_rest : {A : Type 0} (x y : A) (xs : List A) → Contains (x ∷ xs) y → (x ≡ y) ⊎ Contains xs y
first_or_rest x y xs h = at_cases x y xs h.0 h.1 h.2

-- the first of a list, and what is behind it
pub record Head {A : Type 0} (a : A) (xs : List A) : Type 0 where
  pub behind : List A
  pub split : xs ≡ a ∷ behind

pub head_of : {A : Type 0} (a : A) (xs : List A) → slice_get xs 0 ≡ Some a → Head a xs
head_of a [] e = cc
head_of a (x ∷ xs) e = record { behind = xs; split = (let same : x ≡ a = cc in ap (λ x. x ∷ xs) same) }

-- a list with no first is empty
pub none_first : {A : Type 0} (xs : List A) → None ≡ slice_get xs 0 → xs ≡ []
none_first [] e = refl
none_first (a ∷ xs) e = cc

-- the first part of an empty list is empty
pub front_empty : {A : Type 0} (xs ys : List A) → xs ++ ys ≡ [] → xs ≡ []
front_empty [] ys e = refl
front_empty (x ∷ xs) ys e = cc

-- nothing is in a list of none
pub nothing_there : {A : Type 0} (x : A) → Contains [] x → ⊥
nothing_there x h = (let lt = h.1 in omega arith)
