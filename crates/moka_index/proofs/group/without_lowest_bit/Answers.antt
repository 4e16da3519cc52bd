use Rattle.std.proofs.Common.{◌-◌}
use Rattle.std_collections.proofs.IndexTableLemmas.Bits.{bits_from_and, bit_remove_lowest}
use Rattle.moka_index.proofs.group.without_lowest_bit.Goals as goal

pub returns-clause-only : goal.returns-clause-only
returns-clause-only c k h = (bits_from_and c.args.bits (c.args.bits - 1) k h).0

pub returns-clause-others : goal.returns-clause-others
returns-clause-others c k = bit_remove_lowest 64 c.args.bits k c.requires c.ranges.bits.fits
