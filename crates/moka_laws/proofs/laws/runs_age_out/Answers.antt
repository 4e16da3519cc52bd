use Rattle.moka_laws.proofs.PromisedLaws.{runs_age_out}
use Rattle.moka_laws.proofs.laws.runs_age_out.Goals as goal

pub returns : goal.returns
returns g c = runs_age_out g.row.W.Denot g.P.PredicateFn.says g.X.Expiry.read g.K.PartialEq.eq
