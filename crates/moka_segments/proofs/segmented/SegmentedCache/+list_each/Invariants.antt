use Rattle.std.proofs.Common.{length}
use Rattle.moka_segments.proofs.segmented.SegmentedCache.+list_each.Given as goal

abbrev pub decreases-list_each : goal.decreases-list_each
decreases-list_each g l = length l.segments.now
