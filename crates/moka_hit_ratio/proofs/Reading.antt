-- What a get hands out says whether it found its key.
use Rattle.std.proofs.Common.{◌≡◌, refl, sym, ap, Option, Some, None, Result, Ok, Err, is_some}
use Rattle.moka_engine.specs.parts.OutOfMemory.{OutOfMemory}
use Rattle.moka_engine.specs.Copies.{IsCopiedAnswer}

-- what is handed out is a clone of what was found, so both are there or neither
pub found_alike : {A : Type 0} (is_clone : A → A → Type 0) (own : Result (Option A) OutOfMemory) (out : Option A) → IsCopiedAnswer is_clone own (Ok out) → (value : Option A) × (own ≡ Ok value) × (is_some value ≡ is_some out)
found_alike is_clone (Ok (Some a)) (Some b) copied = (Some a, refl, refl)
found_alike is_clone (Ok (Some a)) None copied = absurd copied
found_alike is_clone (Ok None) out copied = (None, refl, ap is_some (sym copied))
found_alike is_clone (Err e) out copied = cc
