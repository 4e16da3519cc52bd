use Rattle.moka_laws.proofs.AtEnd.{counts_nearly}
use Rattle.moka_laws.proofs.laws.counts_nearly.Goals as goal

pub returns : goal.returns
returns g c = counts_nearly g.row.X.Denot g.row.W.Denot g.K.PartialEq.eq g.P.PredicateFn.says
