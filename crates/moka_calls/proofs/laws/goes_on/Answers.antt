use Rattle.moka_calls.specs.Synchronous.{meaning_of}
use Rattle.moka_calls.proofs.Lists.{goes_on}
use Rattle.moka_calls.proofs.laws.goes_on.Goals as goal

pub returns : goal.returns
returns g c = goes_on g.row.S.Denot (meaning_of g.K.PartialEq.eq g.L.Listener.tells g.P.PredicateFn.says g.W.Weigher.weighs g.C.Clock.reads g.X.Expiry.created g.X.Expiry.read g.X.Expiry.updated)
