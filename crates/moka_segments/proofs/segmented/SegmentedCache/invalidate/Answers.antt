use Rattle.moka_segments.proofs.OneSegment.{steps_in}
use Rattle.moka_segments.proofs.segmented.SegmentedCache.invalidate.Goals as goal

pub returns-clause-step : goal.returns-clause-step
returns-clause-step g c = steps_in c.args.self.now _ _ c.own_segment.result.now c.invalidate.new.self c.own_segment.ensures.is c.invalidate.ensures.step

pub returns-clause-succeeds : goal.returns-clause-succeeds
returns-clause-succeeds g c = steps_in c.args.self.now _ _ c.own_segment.result.now c.invalidate.new.self c.own_segment.ensures.is c.invalidate.ensures.succeeds
