use Rattle.std.proofs.Common.{refl}
use Rattle.moka_segments.proofs.segmented.SegmentedCache.into_parts.Goals as goal

pub returns : goal.returns
returns g c = record { router = rw (← c.self.view_is) refl; segments = rw (← c.self.view_is) refl; as_many = c.self.invariant }
