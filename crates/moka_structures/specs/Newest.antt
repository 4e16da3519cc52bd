-- An `Outstanding`'s newest item beside the older ones. No public clause cites this module.
use Rattle.std.specs.Prelude.{ℕ, ◌<◌, IsSome, Option, Some, None, ⊤}
use Rattle.std.specs.FinMap.{FinMap, get, insert}
use Rattle.std.specs.Ordering.{nat_cmp}
use Rattle.moka_structures.specs.declared.outstanding.Newest.{Newest}

module _ {T : Type 0} where
  -- the items with the newest, if there is one
  abbrev pub with_newest : Option (Newest T) → FinMap nat_cmp T → FinMap nat_cmp T
  with_newest None items = items
  with_newest (Some newest) items = insert items newest.ticket newest.item

  -- the newest has the greatest ticket
  abbrev pub AreOlder : Option (Newest T) → FinMap nat_cmp T → Type 0
  AreOlder None items = ⊤
  AreOlder (Some newest) items = (q : ℕ) → IsSome (get items q) → q < newest.ticket
