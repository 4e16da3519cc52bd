use Rattle.std.proofs.Common.{refl, ap, ◌∙◌}
use Rattle.moka_records.specs.Time.{plus}
use Rattle.moka_segments.specs.Whole.{total}
use Rattle.moka_segments.proofs.Sums.{at_end, total_next}
use Rattle.moka_segments.proofs.segmented.SegmentedCache.entry_count.Goals as goal

pub loop-segment-init : goal.loop-segment-init
loop-segment-init g c = refl

pub loop-segment-preserved : goal.loop-segment-preserved
loop-segment-preserved g c = total_next (λ s. s.engine.state.count) c.deref-segment-items.result.now c.loop-segment.segment-index c.segment-item.result c.loop-segment.sum c.saturating_add-sum.result c.loop-segment-test.true c.segment-item.is c.loop-segment.invariant (c.saturating_add-sum.ensures ∙ ap (plus c.loop-segment.sum) c.entry_count.ensures)

pub returns : goal.returns
returns g c = at_end (total (λ s. s.engine.state.count)) c.deref-segment-items.result.now c.loop-segment.segment-index c.loop-segment.sum c.loop-segment-test.false c.loop-segment.invariant ∙ ap (total (λ s. s.engine.state.count)) (c.deref-segment-items.ensures.value ∙ ap (λ s. s.segments) c.self.view_is)

pub offset_bounds-segment-items-segment-index : goal.offset_bounds-segment-items-segment-index
offset_bounds-segment-items-segment-index g c = c.loop-segment.far-segment-index
