-- What contracts see of the inner part of the cache.
use Rattle.std.specs.Prelude.{ℕ, ◌+◌, ◌<◌, Bool, List, [], Option, None}
use Rattle.std.specs.FinMap.{FinMap, empty, insert}
use Rattle.std.specs.Ordering.{nat_cmp}
use Rattle.moka_records.specs.declared.records.Operation.{Operation}
use Rattle.moka_records.specs.declared.records.ReadOperation.{ReadOperation}
use Rattle.moka_records.specs.declared.records.ReadOperation.TheVariants.{Hit, Miss}
use Rattle.moka_records.specs.declared.records.Record.{Record}
use Rattle.moka_records.specs.declared.records.Ticketed.{Ticketed}
use Rattle.moka_records.specs.Records.{Records, Operations}
use Rattle.moka_parts.specs.Frequency.{SketchTable}
use Rattle.moka_table.specs.declared.table.Update.{Update}
use Rattle.moka_store.specs.Store.{Kept}
use Rattle.moka_maintenance.specs.declared.queued.PlacedWrite.{PlacedWrite}
use Rattle.moka_maintenance.specs.Queued.{IsAt}
use Rattle.moka_inner.specs.Values.{map_values}

-- the store, the sketch, the operations that wait, and the numbers that come next
pub record Interior (K V S : Type 0) : Type 0 where
  pub kept : Kept K V S
  pub sketch : Option SketchTable
  pub outstanding : Operations
  pub writes : List Ticketed
  pub reads : List ReadOperation
  pub next_ticket : ℕ
  pub next_number : ℕ
  -- how many more operations need no memory, beside a removal of each record
  pub operation_room : ℕ

-- the operations without the places
abbrev pub operations_of : FinMap nat_cmp PlacedWrite → Operations
operations_of items = map_values (λ w. w.operation) items

-- the number was given out, and if it has a row, that is at the place
pub record IsLocated (places : FinMap nat_cmp ℕ) (next_number number place : ℕ) : Type 0 where
  pub given : number < next_number
  pub at : IsAt places number place

-- the read found nothing, or its record's number was given out and has its row at the place, if it has one
abbrev pub IsReadLocated : FinMap nat_cmp ℕ → ℕ → ℕ → ReadOperation → Type 0
IsReadLocated places next_number place (Hit number hash renewed) = IsLocated places next_number number place
IsReadLocated places next_number place (Miss hash) = Unit {0}

module _ {K V : Type 0} where
  -- nothing is kept, and nothing waits; the order of writing and timers are kept or not, and the rooms are those of the
  -- second
  abbrev pub nothing_inside : {S : Type 0} → Bool → Bool → ℕ → Interior K V S → Interior K V S
  nothing_inside ordered timed first_ticket i = record {
    kept = record {
      records = empty;
      access = [];
      written = [];
      timers = empty;
      cursor = None;
      places = empty;
      room = i.kept.room;
      ordered = ordered;
      timed = timed;
      hasher = i.kept.hasher;
    };
    sketch = None;
    outstanding = empty;
    writes = [];
    reads = [];
    next_ticket = first_ticket;
    next_number = 1;
    operation_room = i.operation_room;
  }

  -- the first record of a key
  abbrev pub first_record : ℕ → K → ℕ → Update V → Record K V
  first_record number key hash update = record {
    number = number;
    key = key;
    hash = hash;
    value = update.value;
    written = update.now;
    read = update.now;
    expires = update.expires;
    weight = update.weight;
    generation = 1;
    applied = 0;
  }

  -- with these records, and with the operation under the next ticket; the places and rooms are those of the last
  abbrev pub handing_out_inside : {S : Type 0} → Interior K V S → Records K V → Operation → Interior K V S →
      Interior K V S
  handing_out_inside i records o j = record i {
    kept = record i.kept { records = records; places = j.kept.places; room = j.kept.room };
    outstanding = insert i.outstanding i.next_ticket o;
    next_ticket = i.next_ticket + 1;
    operation_room = j.operation_room;
  }
