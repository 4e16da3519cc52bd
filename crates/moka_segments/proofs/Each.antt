-- Steps of a slice of a whole vector.
use Rattle.std.proofs.Common.{◌≡◌, ℕ, List, ◌++◌, length, take, drop, sym, subst, ◌∙◌}
use Rattle.std.proofs.lemmas.List.{take_at}

-- a slice of a whole vector, written back
pub written_back : {A : Type 0} (P : List A → List A → Type 0) (xs was ys : List A) (len : ℕ) → was ≡ xs → len ≡ length ys → P was ys → P xs (take len (ys ++ drop (length ys) xs))
written_back P xs was ys len is as_long step = subst (λ zs. P xs zs) (sym (take_at ys (drop (length ys) xs) len (sym as_long))) (subst (λ zs. P zs ys) is step)

-- so there are as many as before
pub as_many_back : {A : Type 0} (xs was ys : List A) (len count : ℕ) → was ≡ xs → len ≡ length ys → length ys ≡ length was → length xs ≡ count → length (take len (ys ++ drop (length ys) xs)) ≡ count
as_many_back xs was ys len count is as_long as_many counted = written_back (λ zs us. length us ≡ length zs) xs was ys len is as_long as_many ∙ counted
