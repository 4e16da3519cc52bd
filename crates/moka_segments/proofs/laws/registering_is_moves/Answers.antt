use Rattle.moka_calls.specs.Synchronous.{meaning_of}
use Rattle.moka_segments.proofs.Moving.{registering}
use Rattle.moka_segments.proofs.laws.registering_is_moves.Goals as goal

pub returns : goal.returns
returns g c = registering (meaning_of g.K.PartialEq.eq g.L.Listener.tells g.P.PredicateFn.says g.W.Weigher.weighs g.C.Clock.reads g.X.Expiry.created g.X.Expiry.read g.X.Expiry.updated) g.K.Clone.is_clone g.V.Clone.is_clone _ _
