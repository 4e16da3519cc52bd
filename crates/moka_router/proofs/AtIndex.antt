-- An element that was read stands at its index.
use Rattle.std.proofs.Common.{◌≡◌, ℕ, ◌<◌, List, length, slice_index_or, refl}
use Rattle.std.proofs.lemmas.List.Elements.{at_read}
use Rattle.moka_router.specs.Lending.{IsAt}

pub is_at : {A : Type 0} (xs : List A) (index : ℕ) (x : A) → index < length xs → x ≡ slice_index_or xs index x → IsAt xs index x
is_at xs index x within is = record { within = within; is = at_read xs (λ y. y ≡ x) index x within is refl }
