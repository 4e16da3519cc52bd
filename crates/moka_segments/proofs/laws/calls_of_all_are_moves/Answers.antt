use Rattle.moka_segments.proofs.Moving.{calls_of_all}
use Rattle.moka_segments.proofs.laws.calls_of_all_are_moves.Goals as goal

pub returns : goal.returns
returns g c = calls_of_all _ _ _
