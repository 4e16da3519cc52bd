use Rattle.std.proofs.Common.{take}
use Rattle.moka_maintenance.specs.Queued.{writes_of}
use Rattle.moka_maintenance.specs.Admission.{AppliesWrites}
use Rattle.moka_maintenance.proofs.admission.apply_each_write.Given as goal

abbrev pub invariant-loop-sent : goal.invariant-loop-sent
invariant-loop-sent g l = AppliesWrites g.L.Listener.tells l.bounds l.sketch l.initial.store l.store (writes_of (take l.sent-index l.writes)) l.initial.notifier l.notifier
