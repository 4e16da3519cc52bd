use Rattle.std.proofs.Common.{take}
use Rattle.moka_maintenance.specs.Admission.{AppliesReads}
use Rattle.moka_maintenance.proofs.admission.apply_each_read.Given as goal

abbrev pub invariant-loop-read : goal.invariant-loop-read
invariant-loop-read g l = AppliesReads (take l.read-index l.reads) l.initial.store l.store
