use Rattle.moka_laws.proofs.PromisedLaws.{sends_after_run}
use Rattle.moka_laws.proofs.laws.sends_after_run.Goals as goal

pub returns : goal.returns
returns g c = sends_after_run g.row.W.Denot g.P.PredicateFn.says g.X.Expiry.read
