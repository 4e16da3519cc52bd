use Rattle.std.proofs.Common.{◌≡◌, drop}
use Rattle.moka_maintenance.specs.Queued.{counted_all}
use Rattle.moka_maintenance.proofs.admission.count_reads.Given as goal

abbrev pub invariant-loop-read : goal.invariant-loop-read
invariant-loop-read l = counted_all l.sketch (drop l.read-index l.reads) ≡ counted_all l.initial.sketch l.reads
