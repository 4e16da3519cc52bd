-- Capacities of which some may be without bound.
use Rattle.std.specs.Prelude.{ℕ, ◌+◌, min, Option, Some, None}
use Rattle.moka_records.specs.Time.{greatest}

-- the sum of two capacities, if both are set
abbrev pub both : Option ℕ → Option ℕ → Option ℕ
both (Some one) (Some other) = Some (one + other)
both one other = None

-- a number that the program tells, saturating
abbrev pub saturated : Option ℕ → Option ℕ
saturated None = None
saturated (Some n) = Some (min n greatest)
