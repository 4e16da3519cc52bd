use Rattle.moka_maintenance.proofs.Popped.{none_first}
use Rattle.moka_maintenance.proofs.sweep.first_of.Goals as goal

pub returns-in_err-handle : goal.returns-in_err-handle
returns-in_err-handle g c = rw c.from_residual.ensures (none_first c.args.store.now.access c.in_err-handle.ensures.front)
