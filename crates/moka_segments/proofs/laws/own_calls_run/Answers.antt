use Rattle.moka_calls.specs.Synchronous.{meaning_of}
use Rattle.moka_calls.specs.Laws.{anytime}
use Rattle.moka_calls.proofs.Limits.{keeps_limits}
use Rattle.moka_calls.proofs.Lists.{ages_out, ages_out_in_time, keeps_promises}
use Rattle.moka_segments.specs.Moves.{for_all_calls}
use Rattle.moka_segments.proofs.Apart.{each_runs, each_moves_alone}
use Rattle.moka_segments.proofs.Moving.{moves_go_on}
use Rattle.moka_segments.proofs.laws.own_calls_run.Goals as goal

pub returns : goal.returns
returns g c =
    let m = for_all_calls g.K.Clone.is_clone g.V.Clone.is_clone (meaning_of g.K.PartialEq.eq g.L.Listener.tells g.P.PredicateFn.says g.W.Weigher.weighs g.C.Clock.reads g.X.Expiry.created g.X.Expiry.read g.X.Expiry.updated) in
    record {
      runs = each_runs m;
      alone = each_moves_alone m;
      go_on = moves_go_on m;
      promises = keeps_promises g.row.S.Denot (anytime m) g.met.K.Eq.laws;
      ages_out = ages_out g.row.S.Denot (anytime m) g.met.K.Eq.laws;
      ages_out_in_time = ages_out_in_time g.row.S.Denot (anytime m) g.met.K.Eq.laws;
      limits = keeps_limits (anytime m) g.row.S.Denot;
    }
