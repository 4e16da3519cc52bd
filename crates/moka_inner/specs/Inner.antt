-- What always holds of the inner part.
use Rattle.std.specs.Prelude.{◌≡◌, ℕ, ◌+◌, ◌^◌, ◌<◌, ◌≤◌, List, length, Some, None, Contains}
use Rattle.std.specs.FinMap.{FinMap, get, len}
use Rattle.std.specs.Ordering.{nat_cmp}
use Rattle.circular_buffer.specs.Buffer.{Buffer}
use Rattle.moka_records.specs.declared.records.Record.{Record}
use Rattle.moka_records.specs.declared.records.Operation.TheVariants.{Removal}
use Rattle.moka_parts.specs.Calls.{queue_length}
use Rattle.moka_parts.specs.Settling.{number_of, IsWaitingIn}
use Rattle.moka_structures.specs.Outstanding.{Pending}
use Rattle.moka_store.specs.Store.{Kept}
use Rattle.moka_maintenance.specs.declared.queued.PlacedWrite.{PlacedWrite}
use Rattle.moka_maintenance.specs.declared.queued.QueuedWrite.{QueuedWrite}
use Rattle.moka_maintenance.specs.declared.queued.QueuedRead.{QueuedRead}
use Rattle.moka_maintenance.specs.Queued.{read_of, writes_of}
use Rattle.moka_inner.specs.Interior.{IsLocated, IsReadLocated, operations_of}

-- each row's number was given out, and what waits leads to its record's row
pub record AreLocated (places : FinMap nat_cmp ℕ) (next_number : ℕ) (items : FinMap nat_cmp PlacedWrite)
    (writes : List QueuedWrite) (reads : List QueuedRead) : Type 0 where
  pub given : (n place : ℕ) → get places n ≡ Some place → n < next_number
  pub handed : (t : ℕ) (w : PlacedWrite) → get items t ≡ Some w →
      IsLocated places next_number (number_of w.operation) w.place
  pub sent : (q : QueuedWrite) → Contains writes q →
      IsLocated places next_number (number_of q.write.operation) q.write.place
  pub seen : (q : QueuedRead) → Contains reads q → IsReadLocated places next_number q.place (read_of q)

-- a number that has a row has its record in the map, or its removal waits
abbrev pub HasUse : {K V S : Type 0} → Kept K V S → FinMap nat_cmp PlacedWrite → List QueuedWrite → Type 0
HasUse kept items writes = (n place : ℕ) → get kept.places n ≡ Some place → get kept.records n ≡ None → (generation : ℕ)
    × IsWaitingIn (operations_of items) (writes_of writes) (Removal n generation)

-- what waits is located, each row is in use, and no number, ticket or place runs out
pub record IsInner {K V S : Type 0} (kept : Kept K V S) (out : Pending PlacedWrite) (writes : Buffer QueuedWrite)
    (reads : Buffer QueuedRead) (next_ticket next_number : ℕ) : Type 0 where
  pub located : AreLocated kept.places next_number out.items writes.items reads.items
  pub used : HasUse kept out.items writes.items
  pub ticketed : (t : ℕ) (w : PlacedWrite) → get out.items t ≡ Some w → t < next_ticket
  -- so that one more generation can be counted
  pub generations : (n : ℕ) (r : Record K V) → get kept.records n ≡ Some r → r.generation < next_ticket
  pub numbers : (1 ≤ next_number) × (next_number ≤ next_ticket)
  -- a ticket and a place are kept for the removal of each record
  pub tickets : next_ticket + len kept.records ≤ 2 ^ 64
  pub removals : len kept.records ≤ out.room
  pub write_queue : (writes.capacity ≡ queue_length) × (length writes.items ≤ queue_length)
  pub read_queue : (reads.capacity ≡ queue_length) × (length reads.items ≤ queue_length)
