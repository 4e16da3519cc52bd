use Rattle.moka_laws.proofs.ConservedCalls.{tells_each_once}
use Rattle.moka_parts.specs.State.{meaning_of}
use Rattle.moka_laws.proofs.laws.tells_each_once.Goals as goal

pub returns : goal.returns
returns g c = tells_each_once (meaning_of g.K.PartialEq.eq g.L.Listener.tells g.P.PredicateFn.says g.W.Weigher.weighs g.C.Clock.reads g.I.IdSource.gives g.X.Expiry.created g.X.Expiry.read g.X.Expiry.updated) g.met.K.Eq.laws
