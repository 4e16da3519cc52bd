-- Which segment a hash belongs to, and which part of a capacity is a segment's.
use Rattle.std.specs.Prelude.{ℕ, ◌+◌, ◌*◌, ◌/◌, ◌%◌, ◌^◌, cond, nat_lt}

-- a hasher, and a number of segments
pub record Routing (S : Type 0) : Type 0 where
  pub hasher : S
  pub count : ℕ

-- the segment of a hash, of this many: by the upper half of its bits, since an index of keys looks at the lower
unfoldable pub segment_of : ℕ → ℕ → ℕ
segment_of count hash = hash / 2 ^ 32 * count / 2 ^ 32

-- the part of a capacity that is this segment's: the first ones have one more
unfoldable pub share : ℕ → ℕ → ℕ → ℕ
share count whole index = whole / count + cond (nat_lt index (whole % count)) 1 0
