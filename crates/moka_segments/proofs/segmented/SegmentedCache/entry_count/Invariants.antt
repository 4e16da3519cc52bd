use Rattle.std.proofs.Common.{◌≡◌, take}
use Rattle.moka_segments.specs.Whole.{total}
use Rattle.moka_segments.proofs.segmented.SegmentedCache.entry_count.Given as goal

abbrev pub invariant-loop-segment : goal.invariant-loop-segment
invariant-loop-segment g l = l.sum ≡ total (λ s. s.engine.state.count) (take l.segment-index l.segment-items)
