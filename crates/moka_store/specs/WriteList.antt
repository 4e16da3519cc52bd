-- What a contract sees of a `WriteList`. No public clause cites this module.
use Rattle.std.specs.Prelude.{◌≡◌, ℕ, ◌+◌, ◌^◌, Bool, true, false, nat_eq, if◌then◌else◌, Option, Some, None, List, [], length}
use Rattle.std.specs.Map.{lookup}
use Rattle.moka_structures.specs.OrderList.{Order, next_after}

-- the nodes from the front to the back, each its slot and its place, the node of the cursor, how many places fit with
-- no memory, and whether the order is kept at all
pub record Listing : Type 0 where
  pub nodes : List (ℕ × ℕ)
  pub cursor : Option (ℕ × ℕ)
  pub most : ℕ
  pub ordered : Bool

-- what is seen of a list and its cursor; a list that is not kept has room for all
abbrev pub listing_of : Option (Order ℕ) → Option (ℕ × ℕ) → Listing
listing_of None cursor = record { nodes = []; cursor = cursor; most = 2 ^ 64; ordered = false }
listing_of (Some order) cursor =
    record { nodes = order.members; cursor = cursor; most = length order.members + order.room; ordered = true }

-- the cursor stands at a node
abbrev pub IsCursor : List (ℕ × ℕ) → Option (ℕ × ℕ) → Type 0
IsCursor nodes cursor = (m : ℕ × ℕ) → cursor ≡ Some m → lookup (nat_eq m.0) nodes ≡ Some m.1

-- where the cursor stands once the node in this slot has moved or left
abbrev pub node_past : Option ℕ → List (ℕ × ℕ) → Option (ℕ × ℕ) → Option (ℕ × ℕ)
node_past None nodes cursor = cursor
node_past (Some slot) nodes None = None
node_past (Some slot) nodes (Some m) = if nat_eq slot m.0 then next_after slot nodes else Some m
