use Rattle.moka_calls.specs.Synchronous.{meaning_of}
use Rattle.moka_segments.proofs.Apart.{each_runs, each_moves_alone}
use Rattle.moka_segments.proofs.laws.each_runs.Goals as goal

pub returns : goal.returns
returns g c =
    let m = meaning_of g.K.PartialEq.eq g.L.Listener.tells g.P.PredicateFn.says g.W.Weigher.weighs g.C.Clock.reads g.X.Expiry.created g.X.Expiry.read g.X.Expiry.updated in
    record { runs = each_runs m; alone = each_moves_alone m }
