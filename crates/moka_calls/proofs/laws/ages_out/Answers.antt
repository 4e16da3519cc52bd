use Rattle.moka_calls.specs.Synchronous.{meaning_of}
use Rattle.moka_calls.proofs.Lists.{ages_out, ages_out_in_time}
use Rattle.moka_calls.proofs.laws.ages_out.Goals as goal

pub returns-clause-timely : goal.returns-clause-timely
returns-clause-timely g c = ages_out g.row.S.Denot (meaning_of g.K.PartialEq.eq g.L.Listener.tells g.P.PredicateFn.says g.W.Weigher.weighs g.C.Clock.reads g.X.Expiry.created g.X.Expiry.read g.X.Expiry.updated) g.met.K.Eq.laws

pub returns-clause-in_time : goal.returns-clause-in_time
returns-clause-in_time g c = ages_out_in_time g.row.S.Denot (meaning_of g.K.PartialEq.eq g.L.Listener.tells g.P.PredicateFn.says g.W.Weigher.weighs g.C.Clock.reads g.X.Expiry.created g.X.Expiry.read g.X.Expiry.updated) g.met.K.Eq.laws
