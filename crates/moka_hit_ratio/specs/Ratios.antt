-- The ratios that are shown.
use Rattle.std.specs.Prelude.{ℕ, ◌==◌, ◌-◌, ◌*◌, ◌/◌, ◌^◌, min, if◌then◌else◌}

-- the share of hits in reads, in ten-thousandths, rounded down
abbrev pub share_of : (hits reads : ℕ) → ℕ
share_of hits reads = if reads == 0 then 0 else min (min (hits * 10_000) (2 ^ 64 - 1) / reads) 10_000
