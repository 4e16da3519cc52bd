use Rattle.moka_restore_laws.proofs.Answering.{answers_alike}
use Rattle.moka_restore_laws.proofs.laws.answers_as_before.Goals as goal

pub returns : goal.returns
returns g c = answers_alike g.row.X.Denot g.row.W.Denot g.P.PredicateFn.says
