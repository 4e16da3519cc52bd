use Rattle.moka_laws.proofs.Surplus.{removes_first}
use Rattle.moka_laws.proofs.laws.removes_first.Goals as goal

pub returns : goal.returns
returns g c = λ s now free. removes_first g.P.PredicateFn.says s now free
