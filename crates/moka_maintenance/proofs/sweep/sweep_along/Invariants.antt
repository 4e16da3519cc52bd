use Rattle.moka_maintenance.specs.Steps.{stock_in}
use Rattle.moka_maintenance.specs.Upkeep.{SetsNoTimer}
use Rattle.moka_maintenance.proofs.Sweeping.{Sweeping}
use Rattle.moka_maintenance.proofs.sweep.sweep_along.Given as goal

abbrev pub invariant-loop-turns : goal.invariant-loop-turns
invariant-loop-turns g l = record {
  sweeping : Sweeping g.L.Listener.tells l.tests l.sweep l.batch (stock_in l.initial.store) (stock_in l.store) l.initial.notifier l.notifier l.removed l.turns l.passed l.is_all_settled;
  upkeep : SetsNoTimer l.initial.store l.store;
}

abbrev pub decreases-loop-turns : goal.decreases-loop-turns
decreases-loop-turns g l = l.turns
