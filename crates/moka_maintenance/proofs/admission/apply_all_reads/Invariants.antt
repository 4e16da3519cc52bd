use Rattle.std.proofs.Common.{length}
use Rattle.moka_maintenance.proofs.ReadsApplied.{AreLeft}
use Rattle.moka_maintenance.proofs.admission.apply_all_reads.Given as goal

abbrev pub invariant-loop-rest : goal.invariant-loop-rest
invariant-loop-rest g l = AreLeft l.reads l.rest l.initial.store l.store

abbrev pub decreases-loop-rest : goal.decreases-loop-rest
decreases-loop-rest g l = length l.rest
