use Rattle.moka_maintenance.specs.Steps.{contents_in}
use Rattle.moka_maintenance.proofs.Dropping.{Dropping}
use Rattle.moka_maintenance.proofs.scan.drop_idle.Given as goal

abbrev pub invariant-loop-left : goal.invariant-loop-left
invariant-loop-left g l = Dropping g.P.PredicateFn.says (contents_in l.store) l.fn.invalidator l.invalidator l.left

abbrev pub decreases-loop-left : goal.decreases-loop-left
decreases-loop-left g l = l.left
