use Rattle.moka_restore_laws.proofs.MadeAgain.{made_again_answers_alike, empty_has_room}
use Rattle.moka_restore_laws.proofs.laws.made_again_answers_alike.Goals as goal

pub returns : goal.returns
returns g c = record {
  alike = made_again_answers_alike g.row.X.Denot g.W.Weigher.weighs g.K.PartialEq.eq g.met.K.Eq.laws g.P.PredicateFn.says g.K.Clone.is_clone g.V.Clone.is_clone;
  room = empty_has_room g.row.X.Denot g.row.P.Denot g.W.Weigher.weighs;
}
