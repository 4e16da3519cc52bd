-- Where a timer stands in the wheel, and which buckets are in use.
use Rattle.std.specs.Prelude.{◌≡◌, ℕ, ◌+◌, ◌-◌, ◌*◌, ◌/◌, ◌%◌, ◌^◌, ◌<◌, ◌≤◌, List, slice_index_or}
use Rattle.std.specs.Int.{bit_at}

-- the bytes of a moment from a level on, as one number
abbrev pub part : ℕ → ℕ → ℕ
part x level = x / 2 ^ (8 * level)

-- how many moments a bucket has
abbrev pub span_of : ℕ → ℕ
span_of bucket = 2 ^ (8 * (bucket / 256))

-- the first moment of a bucket that is ahead of a wheel at `moment`
abbrev pub start_of : ℕ → ℕ → ℕ
start_of moment bucket = (part moment (bucket / 256) / 256 * 256 + bucket % 256) * span_of bucket

-- its last moment
abbrev pub end_of : ℕ → ℕ → ℕ
end_of moment bucket = start_of moment bucket + (span_of bucket - 1)

-- the bucket is that of the timer's byte at a level above which its moment agrees with the wheel's
pub record FallsIn (moment at bucket : ℕ) : Type 0 where
  pub above : part at (bucket / 256) / 256 ≡ part moment (bucket / 256) / 256
  pub byte : part at (bucket / 256) % 256 ≡ bucket % 256

-- the bucket's byte is past the wheel's at its level
abbrev pub IsAhead : ℕ → ℕ → Type 0
IsAhead moment bucket = part moment (bucket / 256) % 256 < bucket % 256

-- where a timer stands in a wheel: in the due list, or at the level of the highest byte in which its moment differs
-- from the wheel's
pub record IsHome (moment at bucket : ℕ) : Type 0 where
  pub within : bucket < 2049
  pub due : bucket ≡ 2048 → at ≤ moment
  pub near : bucket < 2048 → FallsIn moment at bucket
  pub ahead : bucket < 2048 → IsAhead moment bucket

-- the bit of a bucket
abbrev pub bit_of : List ℕ → ℕ → ℕ
bit_of words bucket = bit_at (slice_index_or words (bucket / 64) 0) (bucket % 64)
