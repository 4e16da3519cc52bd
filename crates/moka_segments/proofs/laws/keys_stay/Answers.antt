use Rattle.moka_segments.proofs.Belonging as belonging
use Rattle.moka_segments.proofs.laws.keys_stay.Goals as goal

pub returns : goal.returns
returns g c = belonging.keys_stay _ _
