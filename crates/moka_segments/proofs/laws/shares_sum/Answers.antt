use Rattle.moka_segments.proofs.Shares.{sum_is}
use Rattle.moka_segments.proofs.laws.shares_sum.Goals as goal

pub returns : goal.returns
returns g c count whole segments some as_many each = sum_is count whole segments some as_many each
