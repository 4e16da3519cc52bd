use Rattle.moka_calls.specs.Synchronous.{meaning_of}
use Rattle.moka_calls.proofs.Lists.{hears_themselves}
use Rattle.moka_calls.proofs.laws.hears_themselves.Goals as goal

pub returns : goal.returns
returns g c = hears_themselves g.row.S.Denot (meaning_of g.K.PartialEq.eq g.L.Listener.tells g.P.PredicateFn.says g.W.Weigher.weighs g.C.Clock.reads g.X.Expiry.created g.X.Expiry.read g.X.Expiry.updated) g.K.Clone.is_clone g.V.Clone.is_clone
