-- The rows of a table whose records have their cold parts beside them, with the weights of the memberships. No public
-- clause but those of a table cites this module.
use Rattle.std.specs.Prelude.{◌≡◌, ℕ, ◌+◌, ◌-◌, ◌≤◌, length, Option, List, [], ◌∷◌, is_some, count_by, slice_index_or}
use Rattle.std.specs.Option.{option_map}
use Rattle.moka_records.specs.declared.record_ref.Cold.{Cold}
use Rattle.moka_records.specs.declared.record_ref.Front.{Front}
use Rattle.moka_records.specs.declared.records.Record.{Record}
use Rattle.moka_records.specs.RecordParts.{joined}
use Rattle.moka_table.specs.RecordTable.{Row, Table, IsNumbered, row_at}
use Rattle.moka_table.specs.Slots.{counted_as}

-- beside what has no record
abbrev pub nothing : Cold
nothing = record { expires = record { 0 = 0 }; generation = 0; applied = 0; weight = 0; counted = 0 }

-- the cold part at a place
abbrev pub cold_at : List Cold → ℕ → Cold
cold_at colds place = slice_index_or colds place nothing

module _ {K V : Type 0} where
  -- a row with the cold part of its record and the weight of its membership
  abbrev pub whole : Cold → Row (Front K V) → Row (Record K V)
  whole cold row = record {
    number = row.number;
    stored = option_map (λ f. joined row.number f cold) row.stored;
    membership = option_map (counted_as cold.counted) row.membership;
    timer = row.timer;
  }

  -- the rows, each with the cold part beside it
  unfoldable pub whole_rows : List (Option (Row (Front K V))) → List Cold → List (Option (Row (Record K V)))
  whole_rows [] colds = []
  whole_rows (row ∷ rows) [] = option_map (whole nothing) row ∷ whole_rows rows []
  whole_rows (row ∷ rows) (cold ∷ colds) = option_map (whole cold) row ∷ whole_rows rows colds

  -- a table of rows with cold parts beside them, of which so many fit with no memory
  abbrev pub table_of : Table (Front K V) → List Cold → ℕ → Table (Record K V)
  table_of table colds fit = record { rows = whole_rows table.rows colds; room = fit - count_by is_some table.rows }

  -- each place has its cold part, and so many fit indeed
  pub record IsBeside (table : Table (Front K V)) (colds : List Cold) (fit most : ℕ) : Type 0 where
    pub beside : length table.rows ≡ length colds
    pub places : length colds ≤ fit
    pub rows_fit : fit ≤ count_by is_some table.rows + table.room
    pub colds_fit : fit ≤ most
    pub numbered : IsNumbered (row_at (whole_rows table.rows colds))
