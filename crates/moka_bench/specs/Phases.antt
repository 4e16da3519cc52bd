-- Streams of phases, as words of eight bytes.
use Rattle.std.specs.Prelude.{ℕ, zero, suc, ◌-◌, ◌/◌, Bool, cond, ◌&&◌, List, [], length, drop, nat_eq, nat_lt, nat_le, slice_index_or}
use Rattle.std.specs.Int.{w64, from_le_bytes}
use Rattle.std.specs.Simd.{first_chunks}

-- the number that a word says, with the least byte first
abbrev pub number_at : List (List ℕ) → ℕ → ℕ
number_at words index = from_le_bytes w64 (slice_index_or words index [])

-- the operations from 1 to 8
abbrev pub is_known : ℕ → Bool
is_known operation = nat_le 1 operation && nat_le operation 8

-- at most so many phases, each with a header of four words, as many words as the header says, and a known operation
abbrev pub is_stream : ℕ → List (List ℕ) → Bool
is_stream zero words = nat_eq (length words) 0
is_stream (suc most) words =
    cond (nat_lt (length words) 4) (nat_eq (length words) 0)
    (nat_le (number_at words 1) (length words - 4)
    && (is_known (number_at words 0) && is_stream most (drop (number_at words 1) (drop 4 words))))

-- the bytes say a stream; what is left of the last word is not read
abbrev pub is_well_formed : List ℕ → Bool
is_well_formed bytes = is_stream (length bytes / 8) (first_chunks 8 (length bytes / 8) bytes)
