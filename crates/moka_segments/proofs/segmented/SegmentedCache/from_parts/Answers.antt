use Rattle.moka_segments.proofs.segmented.SegmentedCache.from_parts.Goals as goal

pub invariant_of-result : goal.invariant_of-result
invariant_of-result g c = c.requires
