use Rattle.std.proofs.Common.{refl}
use Rattle.moka_segments.proofs.segmented.SegmentedCache.own_segment.Goals as goal

pub select_mut-requires : goal.select_mut-requires
select_mut-requires g c = record { as_many = c.self.invariant }

pub returns : goal.returns
returns g c = rw (← c.self.view_is) ((refl, λ written. refl), record { lends = tt; is = c.select_mut.ensures.is })
