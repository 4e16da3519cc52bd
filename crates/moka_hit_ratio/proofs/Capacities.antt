-- What a list of capacities is after a step of a loop.
use Rattle.std.proofs.Common.{◌≡◌, ◌∙◌, ◌<◌, ◌+◌, ℕ, List, [], ◌∷◌, ◌++◌, ap, get_or, length, map, set, sym, take}
use Rattle.std.proofs.lemmas.List.{map-append, map-set, map_more, set-get_or, take_more}

-- a value is written over one with the same part
pub map_same : {X Y : Type 0} (f : X → Y) (xs : List X) (i : ℕ) (x d : X) → f x ≡ f (get_or xs i d) → map f (set xs i x) ≡ map f xs
map_same f xs i x d same = map-set f xs i x ∙ ap (set (map f xs) i) same ∙ sym (map-set f xs i (get_or xs i d)) ∙ ap (map f) (set-get_or xs i d)

-- one more is made of the next
pub map_next : {X Y Z : Type 0} (f : X → Y) (g : Z → Y) (xs : List X) (zs : List Z) (i : ℕ) (z : Z) (d : X) → i < length xs → map g zs ≡ map f (take i xs) → g z ≡ f (get_or xs i d) → map g (zs ++ z ∷ []) ≡ map f (take (i + 1) xs)
map_next f g xs zs i z d less before same =
    map-append g zs (z ∷ []) ∙ ap (λ ys. ys ++ g z ∷ []) before ∙ ap (λ y. map f (take i xs) ++ y ∷ []) same ∙ sym (map_more f xs i d less)

-- one more is made for the next
pub made_next : {X Z : Type 0} (g : Z → X) (xs : List X) (zs : List Z) (i : ℕ) (z : Z) (d : X) → i < length xs → map g zs ≡ take i xs → g z ≡ get_or xs i d → map g (zs ++ z ∷ []) ≡ take (i + 1) xs
made_next g xs zs i z d less before same =
    map-append g zs (z ∷ []) ∙ ap (λ ys. ys ++ g z ∷ []) before ∙ ap (λ y. take i xs ++ y ∷ []) same ∙ sym (take_more xs i d less)
