use Rattle.std.proofs.Common.{ap, ◌∙◌}
use Rattle.moka_segments.specs.Whole.{both_stats, total_stats}
use Rattle.moka_segments.proofs.Sums.{at_end, stats_next}
use Rattle.moka_segments.proofs.segmented.SegmentedCache.stats.Goals as goal

pub loop-segment-init : goal.loop-segment-init
loop-segment-init g c = c.new-sum.ensures

pub loop-segment-preserved : goal.loop-segment-preserved
loop-segment-preserved g c = stats_next c.deref-segment-items.result.now c.loop-segment.segment-index c.segment-item.result c.loop-segment.sum c.both_stats-sum.result c.loop-segment-test.true c.segment-item.is c.loop-segment.invariant (c.both_stats-sum.ensures ∙ ap (both_stats c.loop-segment.sum) c.stats.ensures)

pub returns : goal.returns
returns g c = at_end total_stats c.deref-segment-items.result.now c.loop-segment.segment-index c.loop-segment.sum c.loop-segment-test.false c.loop-segment.invariant ∙ ap total_stats (c.deref-segment-items.ensures.value ∙ ap (λ s. s.segments) c.self.view_is)

pub offset_bounds-segment-items-segment-index : goal.offset_bounds-segment-items-segment-index
offset_bounds-segment-items-segment-index g c = c.loop-segment.far-segment-index
