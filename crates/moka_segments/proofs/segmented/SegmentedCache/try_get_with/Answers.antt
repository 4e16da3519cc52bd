use Rattle.moka_segments.proofs.OneSegment.{steps_in}
use Rattle.moka_segments.proofs.segmented.SegmentedCache.try_get_with.Goals as goal

pub returns-clause-looks_up : goal.returns-clause-looks_up
returns-clause-looks_up g c = steps_in c.args.self.now _ _ c.own_segment.result.now c.try_get_with.new.self c.own_segment.ensures.is c.try_get_with.ensures.looks_up

pub returns-clause-disabled : goal.returns-clause-disabled
returns-clause-disabled g c = steps_in c.args.self.now _ _ c.own_segment.result.now c.try_get_with.new.self c.own_segment.ensures.is c.try_get_with.ensures.disabled
