use Rattle.moka_laws.proofs.PromisedLaws.{runs_are_of_reference}
use Rattle.moka_laws.proofs.laws.runs_are_of_reference.Goals as goal

pub returns : goal.returns
returns g c = runs_are_of_reference g.row.W.Denot g.P.PredicateFn.says g.X.Expiry.read
