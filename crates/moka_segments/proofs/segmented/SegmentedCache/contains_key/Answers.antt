use Rattle.moka_segments.proofs.segmented.SegmentedCache.contains_key.Goals as goal

pub returns : goal.returns
returns g c = rw (← c.segment_of-index.ensures.place) (record { one = c.segment.result.now; there = c.segment.ensures; is = c.contains_key.ensures })
