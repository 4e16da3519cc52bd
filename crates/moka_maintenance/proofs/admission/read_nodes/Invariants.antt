use Rattle.std.proofs.Common.{◌≡◌}
use Rattle.moka_maintenance.proofs.admission.read_nodes.Given as goal

abbrev pub invariant-loop-read : goal.invariant-loop-read
invariant-loop-read g l = l.store ≡ l.initial.store
