-- The items that an `Older` keeps beside its table. No public clause cites this module.
use Rattle.std.specs.Prelude.{ℕ, ◌≡◌, List, [], ◌∷◌, Option, None, Some, ⊤, min}
use Rattle.std.specs.FinMap.{FinMap, get, insert}
use Rattle.std.specs.Ordering.{nat_cmp}
use Rattle.moka_structures.specs.declared.older.Kept.{Kept}

-- the lesser of two tickets, of which the first may be missing
abbrev pub lesser : Option ℕ → ℕ → Option ℕ
lesser None ticket = Some ticket
lesser (Some other) ticket = Some (min other ticket)

module _ {T : Type 0} where
  -- the items of the table with those that are kept
  abbrev pub with_kept : List (Kept T) → FinMap nat_cmp T → FinMap nat_cmp T
  with_kept [] items = items
  with_kept (k ∷ ks) items = with_kept ks (insert items k.ticket k.item)

  -- no kept item has the ticket of another
  abbrev pub AreApart : List (Kept T) → FinMap nat_cmp T → Type 0
  AreApart [] items = ⊤
  AreApart (k ∷ ks) items = (get items k.ticket ≡ None) × AreApart ks (insert items k.ticket k.item)
