use Rattle.std.proofs.Common.{false, length, option_map}
use Rattle.std.specs.Duration.{as_nanos}
use Rattle.moka_maintenance.specs.Steps.{stock_in}
use Rattle.moka_maintenance.specs.Timers.{AreOnTime}
use Rattle.moka_maintenance.specs.Upkeep.{Upkeep}
use Rattle.moka_maintenance.proofs.Passing.{IsMoving, Clocked}
use Rattle.moka_maintenance.proofs.passes.make_passes.Given as goal

abbrev pub invariant-loop-terms : goal.invariant-loop-terms
invariant-loop-terms g l = record {
  moving : IsMoving g.L.Listener.tells g.P.PredicateFn.says l.terms.tests l.terms.batch l.store.ordered (AreOnTime l.initial.store) l.initial.invalidator l.invalidator (stock_in l.initial.store) (stock_in l.store) l.initial.notifier l.notifier l.passes;
  clocked : Clocked g.C.Clock.reads (option_map as_nanos l.terms.limit) l.started l.fn.clock l.clock l.passes false;
  upkeep : Upkeep l.initial.store l.store;
}

abbrev pub decreases-loop-terms : goal.decreases-loop-terms
decreases-loop-terms g l = length l.store.access
