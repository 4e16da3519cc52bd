use Rattle.std.proofs.Common.{length}
use Rattle.moka_segments.proofs.segmented.SegmentedCache.+register_each.Given as goal

abbrev pub decreases-register_each : goal.decreases-register_each
decreases-register_each g l = length l.segments.now
