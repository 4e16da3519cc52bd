use Rattle.moka_laws.proofs.Surplus.{removes_enough}
use Rattle.moka_laws.proofs.laws.removes_enough.Goals as goal

pub returns : goal.returns
returns g c = λ s now free. removes_enough g.P.PredicateFn.says s now free
