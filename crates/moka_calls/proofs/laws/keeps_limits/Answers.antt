use Rattle.moka_calls.specs.Synchronous.{meaning_of}
use Rattle.moka_calls.proofs.Limits.{keeps_limits, calls_set_none}
use Rattle.moka_calls.proofs.laws.keeps_limits.Goals as goal

pub returns : goal.returns
returns g c = record {
  limits = keeps_limits (meaning_of g.K.PartialEq.eq g.L.Listener.tells g.P.PredicateFn.says g.W.Weigher.weighs g.C.Clock.reads g.X.Expiry.created g.X.Expiry.read g.X.Expiry.updated) g.row.S.Denot;
  calls = calls_set_none g.row.K.Denot g.row.V.Denot g.row.P.Denot g.row.E.Denot;
}
