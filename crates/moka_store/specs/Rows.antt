-- What a store reads from its rows. No public clause cites this module.
use Rattle.std.specs.Prelude.{ℕ, ◌+◌, ◌^◌, Bool, false, cond, nat_le, count_by, is_some, Option, List, map}
use Rattle.std.specs.FinMap.{FinMap, get}
use Rattle.std.specs.Option.{option_map, option_and_then, option_map_or}
use Rattle.std.specs.Ordering.{nat_cmp}
use Rattle.moka_table.specs.RecordTable.{Row, row_at, number_at, stored_at, map_of}
use Rattle.moka_wheel.specs.TimerWheel.{Timer}
use Rattle.moka_records.specs.declared.records.Record.{Record}
use Rattle.moka_records.specs.declared.records.Member.{Member}

module _ {K V : Type 0} where
  -- the key of a row's record
  abbrev pub key_in : Row (Record K V) → Option K
  key_in row = option_map (λ r. r.key) row.stored

  -- the key of the record at a place
  abbrev pub key_at : List (Option (Row (Record K V))) → ℕ → Option K
  key_at rows place = option_and_then key_in (row_at rows place)

  -- whether the key of the record at a place passes
  abbrev pub passes_at : (K → Bool) → List (Option (Row (Record K V))) → ℕ → Bool
  passes_at passes rows place = option_map_or (λ r. passes r.key) (stored_at rows place) false

  -- the slot in the access list of a row
  abbrev pub access_in : Row (Record K V) → Option ℕ
  access_in row = option_map (λ m. m.access) row.membership

  -- the slot in the access list of the row at a place
  abbrev pub access_at : List (Option (Row (Record K V))) → ℕ → Option ℕ
  access_at rows place = option_and_then access_in (row_at rows place)

  -- the slot in the write list of a row
  abbrev pub written_in : Row (Record K V) → Option ℕ
  written_in row = option_and_then (λ m. m.written) row.membership

  -- the slot in the write list of the row at a place
  abbrev pub written_slot_at : List (Option (Row (Record K V))) → ℕ → Option ℕ
  written_slot_at rows place = option_and_then written_in (row_at rows place)

  -- the timer of the row at a place
  abbrev pub timer_at : List (Option (Row (Record K V))) → ℕ → Option ℕ
  timer_at rows place = option_and_then (λ row. row.timer) (row_at rows place)

  -- a row's number and its counted weight, 0 for one that is no member
  abbrev pub member_in : Row (Record K V) → Member
  member_in row = record { number = row.number; counted = option_map_or (λ m. m.counted) row.membership 0 }

  -- what a node of the access list stands for: the member at the place that it holds
  abbrev pub member_at : List (Option (Row (Record K V))) → (ℕ × ℕ) → Member
  member_at rows node = option_map_or member_in (row_at rows node.1) (record { number = 0; counted = 0 })

  -- the numbers of the rows that the nodes of the write list lead to
  unfoldable pub written_of : List (Option (Row (Record K V))) → List (ℕ × ℕ) → List ℕ
  written_of rows nodes = map (λ node. number_at rows node.1) nodes

  -- the number of the row that the cursor's node leads to
  unfoldable pub cursor_of : List (Option (Row (Record K V))) → Option (ℕ × ℕ) → Option ℕ
  cursor_of rows cursor = option_map (λ node. number_at rows node.1) cursor

  -- the moment of a row's timer
  abbrev pub moment_in : FinMap nat_cmp Timer → Row (Record K V) → Option ℕ
  moment_in timers row = option_and_then (λ slot. option_map (λ t. t.at) (get timers slot)) row.timer

  -- the moment of each row's timer, by number
  unfoldable pub timers_of : FinMap nat_cmp Timer → List (Option (Row (Record K V))) → FinMap nat_cmp ℕ
  timers_of timers rows = map_of (λ _ row. moment_in timers row) rows

-- how many more rows fit, where so many fit with no memory: none where a place may need more than 32 bits
abbrev pub row_room : {R : Type 0} → List (Option (Row R)) → ℕ → ℕ
row_room rows room = cond (nat_le (count_by is_some rows + room) (2 ^ 32)) room 0
