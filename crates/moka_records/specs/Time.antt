-- Moments and durations, both in nanoseconds.
use Rattle.std.specs.Prelude.{ℕ, Bool, false, ◌+◌, ◌-◌, ◌^◌, min, nat_lt, nat_le, nat_eq, Option, Some, None, option_map}
use Rattle.std.specs.Option.{option_eq}
use Rattle.moka_records.specs.declared.instant.Instant.{Instant}

-- the greatest number that the program holds
abbrev pub greatest : ℕ
greatest = 2 ^ 64 - 1

-- a moment so much later, saturating at the greatest number
abbrev pub plus : ℕ → ℕ → ℕ
plus t d = min (t + d) greatest

-- the moment that lies so much later, if the duration is set
abbrev pub deadline : Option ℕ → ℕ → Option ℕ
deadline d t = option_map (λ x. plus t x) d

-- the earlier of two deadlines, as far as they are set
abbrev pub earlier : Option ℕ → Option ℕ → Option ℕ
earlier None b = b
earlier (Some a) None = Some a
earlier (Some a) (Some b) = Some (min a b)

-- a deadline is set and stands at or before now
abbrev pub has_passed : Option ℕ → ℕ → Bool
has_passed None now = false
has_passed (Some t) now = nat_le t now

-- a bound is set and the moment lies before it
abbrev pub is_before : ℕ → Option ℕ → Bool
is_before t None = false
is_before t (Some bound) = nat_lt t bound

-- the nanoseconds of a moment, if there is one
abbrev pub moment_of : Option Instant → Option ℕ
moment_of i = option_map (λ x. x.0) i

-- the moment of these nanoseconds, if there are any
abbrev pub instant_of : Option ℕ → Option Instant
instant_of t = option_map (λ (x : ℕ). record { 0 = x }) t

-- both durations are missing, or both are set and equal
abbrev pub is_same_duration : Option ℕ → Option ℕ → Bool
is_same_duration a b = option_eq nat_eq a b
