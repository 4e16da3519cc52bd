use Rattle.moka_segments.proofs.Moving.{lent_calls}
use Rattle.moka_segments.proofs.laws.lent_calls_are_moves.Goals as goal

pub returns : goal.returns
returns g c = lent_calls _ _ _
