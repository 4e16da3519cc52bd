use Rattle.moka_calls.specs.Laws.{anytime}
use Rattle.moka_calls.specs.Synchronous.{meaning_of}
use Rattle.moka_restore_laws.proofs.LooksAlike.{looks_answer_alike}
use Rattle.moka_restore_laws.proofs.RunRoom.{run_leaves_room}
use Rattle.moka_restore_laws.proofs.laws.look_ups_answer_alike.Goals as goal

pub returns : goal.returns
returns g c =
    let m = meaning_of g.K.PartialEq.eq g.L.Listener.tells g.P.PredicateFn.says g.W.Weigher.weighs g.C.Clock.reads g.X.Expiry.created g.X.Expiry.read g.X.Expiry.updated in
    record {
      alike = looks_answer_alike m g.met.K.Eq.laws _ g.K.Clone.is_clone g.V.Clone.is_clone;
      at_any_time = looks_answer_alike (anytime m) g.met.K.Eq.laws _ g.K.Clone.is_clone g.V.Clone.is_clone;
      room = run_leaves_room m _;
    }
