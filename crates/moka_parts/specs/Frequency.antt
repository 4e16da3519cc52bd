-- How often a hash was seen, by a plain table of small counters of which each hash has four.
use Rattle.std.specs.Prelude.{ℕ, zero, suc, Bool, true, false, ◌==◌, ◌+◌, ◌-◌, ◌*◌, ◌/◌, ◌%◌, ◌^◌, min, max, nat_lt, nat_le, bit_xor, List, [], ◌∷◌, Option, Some, None, map, fold, replicate, slice_index, slice_set, if◌then◌else◌}
use Rattle.std.specs.List.{list_any}

-- ---- the table

-- a table of counters
pub record SketchTable : Type 0 where
  -- how many groups of sixteen counters it has
  pub table_length : ℕ
  -- the counters by their places, each from 0 to 15
  pub counters : List ℕ
  -- how many increments raised a counter, halved when the counters are
  pub size : ℕ

-- a fresh table: all its counters are 0
abbrev pub no_counts : ℕ → SketchTable
no_counts table_length = record { table_length = table_length; counters = replicate (16 * table_length) 0; size = 0 }

-- ---- the four counters of a hash

-- the group in which a hash has its counter of a factor: the factor mixes the hash, whose upper half is folded onto the
-- lower
abbrev pub group_of : ℕ → ℕ → ℕ → ℕ
group_of table_length hash factor =
    let mixed = hash * factor % 2 ^ 64 in bit_xor mixed (mixed / 2 ^ 32) % table_length

-- the place of the i-th counter of a hash, by the factor of that counter; hashes that differ modulo 4 share none
abbrev pub place_of : ℕ → ℕ → ℕ → ℕ → ℕ
place_of table_length hash i factor = 16 * group_of table_length hash factor + (4 * (hash % 4) + i)

-- the places of the four counters of a hash
abbrev pub places_of : ℕ → ℕ → List ℕ
places_of table_length hash =
    place_of table_length hash 0 0x9E3779B97F4A7C15
    ∷ place_of table_length hash 1 0xBF58476D1CE4E5B9
    ∷ place_of table_length hash 2 0x94D049BB133111EB
    ∷ place_of table_length hash 3 0xD6E8FEB86659FD93
    ∷ []

-- ---- reading

-- the least of the counters at the places, none of which is above 15
abbrev pub least_at : List ℕ → List ℕ → ℕ
least_at counters places = fold min 15 (map (λ p. slice_index counters p) places)

-- how often a hash was seen: the least of its four counters, and 0 while there is no table
abbrev pub frequency : Option SketchTable → ℕ → ℕ
frequency None hash = 0
frequency (Some t) hash = least_at t.counters (places_of t.table_length hash)

-- ---- incrementing

-- the counter at a place goes up by one, but not above 15
abbrev pub raised : List ℕ → ℕ → List ℕ
raised counters p = slice_set counters p (min (slice_index counters p + 1) 15)

-- a counter at one of the places is below 15
abbrev pub can_rise : List ℕ → List ℕ → Bool
can_rise counters places = list_any (λ p. nat_lt (slice_index counters p) 15) places

-- every counter is halved, and the size is half of what it reached
abbrev pub halved : SketchTable → SketchTable
halved t = record t { counters = map (λ c. c / 2) t.counters; size = 5 * t.table_length }

-- the table, halved if so
abbrev pub halved_if : Bool → SketchTable → SketchTable
halved_if false t = t
halved_if true t = halved t

-- the table, halved if its size has reached ten times its length
abbrev pub aged : SketchTable → SketchTable
aged t = halved_if (t.size == 10 * t.table_length) t

-- if one of the counters at the places can rise they are raised, and the size by one; else the table stays
abbrev pub raised_if : Bool → SketchTable → List ℕ → SketchTable
raised_if false t places = t
raised_if true t places = aged (record t { counters = fold raised t.counters places; size = t.size + 1 })

-- the table after one more increment
abbrev pub incremented : SketchTable → ℕ → SketchTable
incremented t hash =
    let places = places_of t.table_length hash in raised_if (can_rise t.counters places) t places

-- a fresh table after increments of these hashes, in order
abbrev pub table_after : ℕ → List ℕ → SketchTable
table_after table_length hashes = fold incremented (no_counts table_length) hashes

-- one more increment, if there is a table
abbrev pub counted_once : Option SketchTable → ℕ → Option SketchTable
counted_once None hash = None
counted_once (Some t) hash = Some (incremented t hash)

-- ---- sizes

-- the length of the table, and 0 while there is none
abbrev pub length_of : Option SketchTable → ℕ
length_of None = 0
length_of (Some t) = t.table_length

-- the first of p and its doublings, at most so many of them, that is at least n
abbrev pub doubled_to : ℕ → ℕ → ℕ → ℕ
doubled_to zero p n = p
doubled_to (suc doublings) p n = if nat_le n p then p else doubled_to doublings (2 * p) n

-- the length of the table for a size asked for: the least power of two that is no less, where the size counts as 128 if
-- it is less and as 2 ^ 30 if it is more
unfoldable pub table_length_for : ℕ → ℕ
table_length_for size = doubled_to 30 1 (min (max size 128) (2 ^ 30))

-- the size of a sketch for a capacity, as a number of 32 bits
abbrev pub sketch_capacity_for : ℕ → ℕ
sketch_capacity_for capacity = min (max capacity 128) (2 ^ 32 - 1)

-- the size asked for: the capacity, or with a weigher the members times the part of the capacity that they take
abbrev pub size_asked : Bool → ℕ → ℕ → ℕ → ℕ
size_asked false capacity members total = capacity
size_asked true capacity members total = min (min (members * total) (2 ^ 128 - 1) / capacity) (2 ^ 64 - 1)
