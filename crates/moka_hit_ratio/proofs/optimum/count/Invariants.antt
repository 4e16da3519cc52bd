use Rattle.std.proofs.Common.{◌≡◌, ◌≤◌}
use Rattle.moka_hit_ratio.specs.Optimum.{played}
use Rattle.moka_hit_ratio.proofs.optimum.count.Given as goal

abbrev pub invariant-loop-place : goal.invariant-loop-place
invariant-loop-place l =
    (record { kept = l.kept.keys; hits = l.tally.hits; reads = l.tally.reads } ≡ played l.fn.first_counted l.fn.capacity l.fn.nexts l.place) × (l.tally.reads ≤ l.place)
