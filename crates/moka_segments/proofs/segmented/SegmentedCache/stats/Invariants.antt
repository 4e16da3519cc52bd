use Rattle.std.proofs.Common.{◌≡◌, take}
use Rattle.moka_segments.specs.Whole.{total_stats}
use Rattle.moka_segments.proofs.segmented.SegmentedCache.stats.Given as goal

abbrev pub invariant-loop-segment : goal.invariant-loop-segment
invariant-loop-segment g l = l.sum ≡ total_stats (take l.segment-index l.segment-items)
