use Rattle.moka_laws.proofs.AtEnd.{ends_exact}
use Rattle.moka_laws.proofs.laws.ends_exact.Goals as goal

pub returns : goal.returns
returns g c = ends_exact g.row.X.Denot g.row.W.Denot g.K.PartialEq.eq g.P.PredicateFn.says
