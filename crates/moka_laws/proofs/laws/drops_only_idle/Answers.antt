use Rattle.moka_laws.proofs.Dropped.{drops_only_idle}
use Rattle.moka_laws.proofs.laws.drops_only_idle.Goals as goal

pub returns : goal.returns
returns g c = λ s now free. drops_only_idle g.P.PredicateFn.says s now free
