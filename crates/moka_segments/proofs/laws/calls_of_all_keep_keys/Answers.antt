use Rattle.moka_segments.proofs.KeptInPlace.{calls_of_all}
use Rattle.moka_segments.proofs.laws.calls_of_all_keep_keys.Goals as goal

pub returns : goal.returns
returns g c = calls_of_all _ _
