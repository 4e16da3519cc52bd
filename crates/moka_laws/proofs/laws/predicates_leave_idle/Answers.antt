use Rattle.moka_laws.proofs.LeftIdle.{predicates_leave_idle}
use Rattle.moka_parts.specs.State.{meaning_of}
use Rattle.moka_laws.proofs.laws.predicates_leave_idle.Goals as goal

pub returns : goal.returns
returns g c = predicates_leave_idle (meaning_of g.K.PartialEq.eq g.L.Listener.tells g.P.PredicateFn.says g.W.Weigher.weighs g.C.Clock.reads g.I.IdSource.gives g.X.Expiry.created g.X.Expiry.read g.X.Expiry.updated)
