use Rattle.std.proofs.Common.{nat_eq}
use Rattle.std.specs.HashMap.{get}
use Rattle.moka_hit_ratio.proofs.NextReads.{AreRead}
use Rattle.moka_hit_ratio.proofs.optimum.next_reads.Given as goal

abbrev pub invariant-loop-place : goal.invariant-loop-place
invariant-loop-place l = AreRead l.fn.keys l.nexts.items l.place (get nat_eq l.last)
