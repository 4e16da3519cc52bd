use Rattle.std.proofs.Common.{refl, ap, ◌∙◌}
use Rattle.moka_segments.specs.Whole.{both, saturated, whole_capacity}
use Rattle.moka_segments.proofs.Sums.{at_end, capacity_next}
use Rattle.moka_segments.proofs.segmented.SegmentedCache.max_capacity.Goals as goal

pub loop-segment-init : goal.loop-segment-init
loop-segment-init g c = refl

pub loop-segment-preserved : goal.loop-segment-preserved
loop-segment-preserved g c = capacity_next c.deref-segment-items.result.now c.loop-segment.segment-index c.segment-item.result c.loop-segment.sum c.both-sum.result c.loop-segment-test.true c.segment-item.is c.loop-segment.invariant (c.both-sum.ensures ∙ ap (λ o. saturated (both c.loop-segment.sum o)) (c.max_capacity.ensures ∙ ap (λ p. p.max_capacity) c.policy.ensures))

pub returns : goal.returns
returns g c = at_end (λ xs. saturated (whole_capacity xs)) c.deref-segment-items.result.now c.loop-segment.segment-index c.loop-segment.sum c.loop-segment-test.false c.loop-segment.invariant ∙ ap (λ xs. saturated (whole_capacity xs)) (c.deref-segment-items.ensures.value ∙ ap (λ s. s.segments) c.self.view_is)

pub offset_bounds-segment-items-segment-index : goal.offset_bounds-segment-items-segment-index
offset_bounds-segment-items-segment-index g c = c.loop-segment.far-segment-index
