-- What the test of an option says of it.
use Rattle.std.proofs.Common.{◌≡◌, refl, false, Option, Some, None, is_some, option_map}

-- what is not there is nothing
pub none_by_test : {A : Type 0} (o : Option A) → is_some o ≡ false → o ≡ None
none_by_test None e = refl
none_by_test (Some x) e = cc

-- what is made of it is there where it is
pub mapped_is_some : {A B : Type 0} (f : A → B) (o : Option A) → is_some (option_map f o) ≡ is_some o
mapped_is_some f None = refl
mapped_is_some f (Some x) = refl
