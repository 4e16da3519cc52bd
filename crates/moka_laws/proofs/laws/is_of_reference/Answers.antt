use Rattle.moka_laws.proofs.Promises.{is_of_reference}
use Rattle.moka_parts.specs.State.{meaning_of}
use Rattle.moka_laws.proofs.laws.is_of_reference.Goals as goal

pub returns : goal.returns
returns g c = is_of_reference g.row.S.Denot (meaning_of g.K.PartialEq.eq g.L.Listener.tells g.P.PredicateFn.says g.W.Weigher.weighs g.C.Clock.reads g.I.IdSource.gives g.X.Expiry.created g.X.Expiry.read g.X.Expiry.updated)
