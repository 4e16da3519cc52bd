use Rattle.moka_laws.proofs.Contained.{peeks_quietly}
use Rattle.moka_laws.proofs.laws.peeks_quietly.Goals as goal

pub returns : goal.returns
returns g c = peeks_quietly g.row.W.Denot g.K.PartialEq.eq g.P.PredicateFn.says g.X.Expiry.read
