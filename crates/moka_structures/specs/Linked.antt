-- A list's nodes and the slots that others keep of them, as two plain functions.
use Rattle.std.specs.Prelude.{◌≡◌, ℕ, Option, Some}

-- the node in a slot leads to a place exactly where the place has that slot
pub record IsLinked (slot_at nodes : ℕ → Option ℕ) : Type 0 where
  pub to_slot : (s p : ℕ) → nodes s ≡ Some p → slot_at p ≡ Some s
  pub to_place : (s p : ℕ) → slot_at p ≡ Some s → nodes s ≡ Some p
