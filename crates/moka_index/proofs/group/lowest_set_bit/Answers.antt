use Rattle.std_collections.proofs.IndexTableLemmas.Bits.{bit_trailing_zeros}
use Rattle.moka_index.proofs.group.lowest_set_bit.Goals as goal

pub returns-clause-set : goal.returns-clause-set
returns-clause-set c = bit_trailing_zeros 64 c.args.bits c.requires c.ranges.bits.fits
