use Rattle.std.proofs.Common.{◌≡◌, take}
use Rattle.moka_segments.specs.Whole.{saturated, whole_capacity}
use Rattle.moka_segments.proofs.segmented.SegmentedCache.max_capacity.Given as goal

abbrev pub invariant-loop-segment : goal.invariant-loop-segment
invariant-loop-segment g l = l.sum ≡ saturated (whole_capacity (take l.segment-index l.segment-items))
