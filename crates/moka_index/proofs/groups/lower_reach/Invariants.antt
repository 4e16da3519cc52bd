use Rattle.moka_index.proofs.Search.{Falls}
use Rattle.moka_index.proofs.groups.lower_reach.Given as goal

abbrev pub invariant-loop-reach : goal.invariant-loop-reach
invariant-loop-reach l = Falls l.groups.items l.first l.reach

abbrev pub decreases-loop-reach : goal.decreases-loop-reach
decreases-loop-reach l = l.reach
