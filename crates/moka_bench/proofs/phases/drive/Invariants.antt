use Rattle.std.proofs.Common.{◌≡◌, length, ◌-◌, ◌≤◌}
use Rattle.moka_bench.specs.Phases.{is_stream}
use Rattle.moka_bench.proofs.phases.drive.Given as goal

-- what is left is a stream exactly where the whole is one
abbrev pub invariant-loop : goal.invariant-loop
invariant-loop g l = (l.end ≡ length l.fn.stream) × (l.counter ≤ l.end) × (is_stream (length l.fn.stream) l.fn.stream ≡ is_stream (l.end - l.counter) l.rest)
