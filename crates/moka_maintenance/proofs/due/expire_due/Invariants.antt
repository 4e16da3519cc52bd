use Rattle.moka_maintenance.specs.Steps.{stock_in}
use Rattle.moka_maintenance.specs.Sweep.{ExpiresDue}
use Rattle.moka_maintenance.specs.Upkeep.{Upkeep}
use Rattle.moka_maintenance.proofs.Expiring.{how_many_due}
use Rattle.moka_maintenance.proofs.due.expire_due.Given as goal

abbrev pub invariant-loop-handle : goal.invariant-loop-handle
invariant-loop-handle g l = record {
  expired : ExpiresDue g.L.Listener.tells l.tests (stock_in l.initial.store) (stock_in l.store) l.initial.notifier l.notifier l.removed;
  upkeep : Upkeep l.initial.store l.store;
}

abbrev pub decreases-loop-handle : goal.decreases-loop-handle
decreases-loop-handle g l = how_many_due l.tests.now.0 l.store.timers
