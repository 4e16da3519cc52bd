use Rattle.moka_segments.proofs.KeptInPlace.{calls_by_key}
use Rattle.moka_segments.proofs.laws.calls_by_key_keep_keys.Goals as goal

pub returns : goal.returns
returns g c = calls_by_key _ _ _ _
