-- How a `TicketTable` keeps its tickets. No public clause cites this module.
use Rattle.std.specs.Prelude.{ℕ, ◌<◌, List, [], ◌∷◌, map, nat_eq, Option}
use Rattle.std.specs.FinMap.{FinMap, from_entries}
use Rattle.std.specs.HashMap.{HashMap, get}
use Rattle.std.specs.Map.{lookup}
use Rattle.std.specs.Option.{option_map}
use Rattle.std.specs.Ordering.{nat_cmp}
use Rattle.moka_structures.specs.Linked.{IsLinked}
use Rattle.moka_structures.specs.declared.ticket_table.Waiting.{Waiting}

-- the items by their tickets
abbrev pub items_of : {T S : Type 0} → HashMap ℕ (Waiting T) S → FinMap nat_cmp T
items_of m = from_entries (map (λ e. (e.0, e.1.item)) m.entries)

-- the slot that is kept for a ticket
abbrev pub slot_under : {T S : Type 0} → HashMap ℕ (Waiting T) S → ℕ → Option ℕ
slot_under m ticket = option_map (λ w. w.slot) (get nat_eq m ticket)

-- the ticket is below all of these members
abbrev pub IsBelowAll : ℕ → List (ℕ × ℕ) → Type 0
IsBelowAll ticket [] = Unit
IsBelowAll ticket (m ∷ ms) = (ticket < m.1) × IsBelowAll ticket ms

-- each ticket is below all behind it
abbrev pub TicketsRise : List (ℕ × ℕ) → Type 0
TicketsRise [] = Unit
TicketsRise (m ∷ ms) = IsBelowAll m.1 ms × TicketsRise ms

-- the order has the tickets of the table and no others, and they rise
pub record IsTicketTable {T S : Type 0} (members : List (ℕ × ℕ)) (waiting : HashMap ℕ (Waiting T) S) : Type 0 where
  pub linked : IsLinked (slot_under waiting) (λ s. lookup (nat_eq s) members)
  pub rising : TicketsRise members
