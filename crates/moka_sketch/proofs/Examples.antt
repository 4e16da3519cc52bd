-- What the definitions compute on worked cases.
use Rattle.std.proofs.Common.{◌≡◌, ℕ, true, false, List, [], ◌∷◌, ◌++◌, Option, Some, None, replicate, map, refl, ◌^◌, ◌-◌, ◌/◌}
use Rattle.moka_parts.specs.Frequency.{SketchTable, table_after, places_of, frequency, counted_once, table_length_for, sketch_capacity_for, size_asked}
use Rattle.moka_sketch.specs.Words.{counters_of}

-- ---- the counters of a hash

pub places_of_5 : places_of 128 5 ≡ 1892 ∷ 965 ∷ 774 ∷ 1127 ∷ []
places_of_5 = refl

pub places_of_greatest_hash : places_of 128 (2 ^ 64 - 1) ≡ 732 ∷ 1373 ∷ 1310 ∷ 687 ∷ []
places_of_greatest_hash = refl

-- ---- a table of length 128

abbrev seen : List ℕ → Option SketchTable
seen hashes = Some (table_after 128 hashes)

pub seen_three_times : frequency (seen (5 ∷ 5 ∷ 5 ∷ [])) 5 ≡ 3
seen_three_times = refl

pub another_hash : frequency (seen (5 ∷ 5 ∷ 5 ∷ [])) 6 ≡ 0
another_hash = refl

abbrev sixteen : List ℕ
sixteen = replicate 16 5

pub seen_sixteen_times : frequency (seen sixteen) 5 ≡ 15
seen_sixteen_times = refl

-- the sixteenth increment raised nothing
pub size_stays : (table_after 128 sixteen).size ≡ 15
size_stays = refl

pub never_seen_while_off : frequency None 5 ≡ 0
never_seen_while_off = refl

pub not_counted_while_off : counted_once None 5 ≡ None
not_counted_while_off = refl

-- ---- a table of length 1, where all hashes that are equal modulo 4 share their counters

abbrev ten : SketchTable
ten = table_after 1 (replicate 10 5)

-- the tenth increment halves
pub halved_count : frequency (Some ten) 5 ≡ 5
halved_count = refl

pub halved_size : ten.size ≡ 5
halved_size = refl

-- an odd count is halved to the number below its half, and 1 to 0
abbrev nine_and_one : SketchTable
nine_and_one = table_after 1 (replicate 9 5 ++ 6 ∷ [])

pub halved_odd_count : frequency (Some nine_and_one) 5 ≡ 4
halved_odd_count = refl

pub halved_one : frequency (Some nine_and_one) 6 ≡ 0
halved_one = refl

-- ---- a table of length 2, where 0 and 4 share the second and the third counter alone

-- after two increments of 4 and one of 0 those counters are 3
abbrev shared : SketchTable
shared = table_after 2 (4 ∷ 4 ∷ 0 ∷ [])

pub shared_counters : shared.counters ≡ 1 ∷ 3 ∷ 3 ∷ 1 ∷ replicate 12 0 ++ 2 ∷ 0 ∷ 0 ∷ 2 ∷ replicate 12 0
shared_counters = refl

-- the least counter counts
pub least_of_shared : frequency (Some shared) 0 ≡ 1
least_of_shared = refl

-- ---- lengths and sizes

-- the least, a power of two, one more than it, one less than the greatest, and the greatest
pub lengths : map table_length_for (0 ∷ 128 ∷ 65536 ∷ 65537 ∷ 1073741823 ∷ (2 ^ 64 - 1) ∷ []) ≡ 128 ∷ 128 ∷ 65536 ∷ 131072 ∷ 1073741824 ∷ 1073741824 ∷ []
unfolding table_length_for
lengths = refl

pub capacities : map sketch_capacity_for (0 ∷ 2 ^ 32 ∷ []) ≡ 128 ∷ (2 ^ 32 - 1) ∷ []
capacities = refl

-- three members of total weight 5 in a capacity of 10
pub size_with_weigher : size_asked true 10 3 5 ≡ 1
size_with_weigher = refl

pub size_without_weigher : size_asked false 10 3 5 ≡ 10
size_without_weigher = refl

-- the size fits 64 bits
pub greatest_size : size_asked true 1 (2 ^ 64) (2 ^ 64) ≡ 2 ^ 64 - 1
greatest_size = refl

-- ---- words whose sixteen counters are all different, and what halving leaves of them

-- 0xFEDCBA9876543210 and 0x7766554433221100
pub rising_counters_halved : map (λ c. c / 2) (counters_of (18364758544493064720 ∷ [])) ≡ counters_of (8603657889541918976 ∷ [])
unfolding counters_of
rising_counters_halved = refl

-- 0x0123456789ABCDEF and 0x0011223344556677
pub falling_counters_halved : map (λ c. c / 2) (counters_of (81985529216486895 ∷ [])) ≡ counters_of (4822678189205111 ∷ [])
unfolding counters_of
falling_counters_halved = refl
