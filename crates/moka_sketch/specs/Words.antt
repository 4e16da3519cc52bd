-- How words of sixteen counters of four bits show the plain table.
use Rattle.std.specs.Prelude.{ℕ, ◌*◌, ◌/◌, ◌%◌, ◌^◌, ◌<◌, ◌≤◌, List, [], ◌∷◌, Option, Some, None, length, map, slice_index}
use Rattle.std.specs.List.{range_with_len}
use Rattle.std.specs.Int.{IsPowerOfTwo}
use Rattle.moka_parts.specs.Frequency.{SketchTable}

-- the counter at a position of a word, from 0 to 15
abbrev pub counter_at : ℕ → ℕ → ℕ
counter_at word position = word / 2 ^ (4 * position) % 16

-- the counters of words, sixteen a word
unfoldable pub counters_of : List ℕ → List ℕ
counters_of words = map (λ p. counter_at (slice_index words (p / 16)) (p % 16)) (range_with_len 0 (16 * length words))

-- the table that words show, of which there are none while there is no table
abbrev pub table_of : List ℕ → ℕ → Option SketchTable
table_of [] size = None
table_of (word ∷ words) size =
    Some (record { table_length = length (word ∷ words); counters = counters_of (word ∷ words); size = size })

-- what is true of the words, the room for them and the size; the length of a table is a power of two
pub record IsSketch (words : List ℕ) (room size : ℕ) : Type 0 where
  pub room_for_128 : 128 ≤ room
  pub power : 0 < length words → IsPowerOfTwo (length words)
  pub within : length words ≤ 2 ^ 30
  pub size_below : 0 < length words → size < 10 * length words
