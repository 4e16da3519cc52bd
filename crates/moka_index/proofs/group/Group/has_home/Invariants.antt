use Rattle.std.proofs.Common.{◌≢◌, ℕ, ◌<◌}
use Rattle.moka_index.specs.Group.{home, lane_hash}
use Rattle.moka_index.proofs.group.Group.has_home.Given as goal

abbrev pub invariant-loop-lane : goal.invariant-loop-lane
invariant-loop-lane l = (lane : ℕ) → lane < l.lane → home l.count (lane_hash l.self lane) ≢ l.first
