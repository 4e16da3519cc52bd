-- Lists of moments that never fall, some of them missing: what may be taken out or moved.
use Rattle.std.proofs.Common.{◌≡◌, refl, ℕ, zero, suc, ◌<◌, ◌≤◌, Bool, true, false, cond, List, [], ◌∷◌, ◌++◌, map, filter, length, slice_index_or, Option, Some, None, ap, sym, subst, ◌⊎◌, inl, inr, arith, filter_map}
use Rattle.std.specs.List.{AllByRecursion, cons_option}
use Rattle.std.specs.List.Sorted.{IsNonDecreasing}

-- the numbers never fall, and none is below the bound
abbrev pub Climbs : ℕ → List ℕ → Type 0
Climbs low [] = Unit {0}
Climbs low (x ∷ xs) = (low ≤ x) × Climbs x xs

all_above : (low : ℕ) (xs : List ℕ) → Climbs low xs → (j d : ℕ) → j < length xs → low ≤ slice_index_or xs j d
all_above low [] h j d lt = absurd (omega arith)
all_above low (x ∷ xs) h zero d lt = h.0
all_above low (x ∷ xs) h (suc j) d lt = let below = h.0 in let above = all_above x xs h.1 j d (omega arith) in omega arith

climbs_with : (low : ℕ) (xs : List ℕ) → IsNonDecreasing xs → ((d : ℕ) → 0 < length xs → low ≤ slice_index_or xs 0 d) → Climbs low xs
climbs_with low [] h first = tt
climbs_with low (x ∷ xs) h first = (first 0 (omega arith), climbs_with x xs (λ i j d le lt. h (suc i) (suc j) d (omega arith) (omega arith)) (λ d lt. h zero (suc zero) d (omega arith) (omega arith)))

-- lists that never fall, as the standard library says it
pub climbs_from : (xs : List ℕ) → IsNonDecreasing xs → Climbs 0 xs
climbs_from xs h = climbs_with 0 xs h (λ d lt. omega arith)

-- and back
pub non_decreasing_from : (low : ℕ) (xs : List ℕ) → Climbs low xs → IsNonDecreasing xs
non_decreasing_from low [] h i j d le lt = absurd (omega arith)
non_decreasing_from low (x ∷ xs) h zero zero d le lt = omega arith
non_decreasing_from low (x ∷ xs) h zero (suc j) d le lt = all_above x xs h.1 j d (omega arith)
non_decreasing_from low (x ∷ xs) h (suc i) zero d le lt = absurd (omega arith)
non_decreasing_from low (x ∷ xs) h (suc i) (suc j) d le lt = non_decreasing_from x xs h.1 i j d (omega arith) (omega arith)

-- the moments that are there
abbrev pub present : List (Option ℕ) → List ℕ
present os = filter_map (λ o. o) os

-- those that are there never fall, and none is below the bound
abbrev pub Rises : ℕ → List (Option ℕ) → Type 0
Rises low os = Climbs low (present os)

lower : (a b : ℕ) (xs : List ℕ) → a ≤ b → Climbs b xs → Climbs a xs
lower a b [] le h = tt
lower a b (x ∷ xs) le h = let below = h.0 in (omega arith, h.1)

-- what rises from a bound goes on to do so
abbrev pub Thins : List (Option ℕ) → List (Option ℕ) → Type 0
Thins xs ys = (low : ℕ) → Rises low xs → Rises low ys

-- with the same in front
pub thins_behind : (o : Option ℕ) (xs ys : List (Option ℕ)) → Thins xs ys → Thins (o ∷ xs) (o ∷ ys)
thins_behind None xs ys t low h = t low h
thins_behind (Some x) xs ys t low h = (h.0, t x h.1)

-- without the first
pub thins_without_first : (o : Option ℕ) (xs ys : List (Option ℕ)) → Thins xs ys → Thins (o ∷ xs) ys
thins_without_first None xs ys t low h = t low h
thins_without_first (Some x) xs ys t low h = t low (lower low x (present xs) h.0 h.1)

-- the first stays, or is missing
pub thins_first : (o p : Option ℕ) (xs ys : List (Option ℕ)) → (p ≡ o) ⊎ (p ≡ None) → Thins xs ys → Thins (o ∷ xs) (p ∷ ys)
thins_first o p xs ys (inl same) t = subst (λ q. Thins (o ∷ xs) (q ∷ ys)) (sym same) (thins_behind o xs ys t)
thins_first o p xs ys (inr none) t = subst (λ q. Thins (o ∷ xs) (q ∷ ys)) (sym none) (thins_without_first o xs ys t)

module _ {A : Type 0} where
  -- each of a list stays, or is missing
  pub thins_each : (f g : A → Option ℕ) (items : List A) (xs ys : List (Option ℕ)) → ((a : A) → (g a ≡ f a) ⊎ (g a ≡ None)) → Thins xs ys → Thins (map f items ++ xs) (map g items ++ ys)
  thins_each f g [] xs ys less t = t
  thins_each f g (a ∷ items) xs ys less t = thins_first (f a) (g a) (map f items ++ xs) (map g items ++ ys) (less a) (thins_each f g items xs ys less t)

  -- the same with nothing behind
  pub thins_all : (f g : A → Option ℕ) (items : List A) → ((a : A) → (g a ≡ f a) ⊎ (g a ≡ None)) → Thins (map f items) (map g items)
  thins_all f g [] less = λ low h. h
  thins_all f g (a ∷ items) less = thins_first (f a) (g a) (map f items) (map g items) (less a) (thins_all f g items less)

  -- each that is there stays, or is missing
  pub thins_every : (f g : A → Option ℕ) (items : List A) → AllByRecursion (λ a. (g a ≡ f a) ⊎ (g a ≡ None)) items → Thins (map f items) (map g items)
  thins_every f g [] less = λ low h. h
  thins_every f g (a ∷ items) less = thins_first (f a) (g a) (map f items) (map g items) less.0 (thins_every f g items less.1)

  -- some of a list are taken out, and of the others each stays or is missing
  pub thins_filtered : (f g : A → Option ℕ) (keep : A → Bool) (items : List A) (xs ys : List (Option ℕ)) → ((a : A) → keep a ≡ true → (g a ≡ f a) ⊎ (g a ≡ None)) → Thins xs ys → Thins (map f items ++ xs) (map g (filter keep items) ++ ys)
  thins_filtered f g keep [] xs ys less t = t
  thins_filtered f g keep (a ∷ items) xs ys less t = go (thins_filtered f g keep items xs ys less t) (keep a) refl
    where
      go : Thins (map f items ++ xs) (map g (filter keep items) ++ ys) → (b : Bool) → keep a ≡ b → Thins (map f (a ∷ items) ++ xs) (map g (cond b (a ∷ filter keep items) (filter keep items)) ++ ys)
      go behind true kept = thins_first (f a) (g a) (map f items ++ xs) (map g (filter keep items) ++ ys) (less a kept) behind
      go behind false kept = thins_without_first (f a) (map f items ++ xs) (map g (filter keep items) ++ ys) behind

  -- what a function gives of a list, by its options
  pub present_of : (f : A → Option ℕ) (items : List A) → present (map f items) ≡ filter_map f items
  present_of f [] = refl
  present_of f (a ∷ items) = ap (cons_option (f a)) (present_of f items)

-- no later than the moment, if it is there
abbrev pub IsUpTo : ℕ → Option ℕ → Type 0
IsUpTo m None = Unit {0}
IsUpTo m (Some x) = x ≤ m

-- a moment no earlier than all others goes to the back
pub rises_pushed : (low m : ℕ) (xs : List (Option ℕ)) → Rises low xs → low ≤ m → AllByRecursion (IsUpTo m) xs → Rises low (xs ++ Some m ∷ [])
rises_pushed low m [] h le up = (le, tt)
rises_pushed low m (None ∷ xs) h le up = rises_pushed low m xs h le up.1
rises_pushed low m (Some x ∷ xs) h le up = (h.0, rises_pushed x m xs h.1 up.0 up.1)

-- one that is missing changes nothing
pub rises_with_none : (low : ℕ) (xs : List (Option ℕ)) → Rises low xs → Rises low (xs ++ None ∷ [])
rises_with_none low [] h = h
rises_with_none low (None ∷ xs) h = rises_with_none low xs h
rises_with_none low (Some x ∷ xs) h = (h.0, rises_with_none x xs h.1)
