use Rattle.std.proofs.Common.{refl, arith}
use Rattle.std.specs.List.{AllZip}
use Rattle.moka_segments.specs.Whole.{Hides}
use Rattle.moka_segments.proofs.Each.{as_many_back, written_back}
use Rattle.moka_segments.proofs.segmented.SegmentedCache.invalidate_all.Goals as goal

pub invariant_of-self : goal.invariant_of-self
invariant_of-self g c = as_many_back c.self.inside.segments.items c.deref_mut.result.now c.invalidate_each.new.caches c.self.inside.segments.len c.self.inside.router.count c.deref_mut.ensures.value (omega (arith, c.deref_mut.ensures.len, c.invalidate_each.auto.caches)) c.invalidate_each.auto.caches c.self.invariant

pub returns : goal.returns
returns g c =
    let each = written_back (AllZip (Hides g.L.Listener.tells c.args.now)) c.self.inside.segments.items c.deref_mut.result.now c.invalidate_each.new.caches c.self.inside.segments.len c.deref_mut.ensures.value (omega (arith, c.deref_mut.ensures.len, c.invalidate_each.auto.caches)) c.invalidate_each.ensures in
    record { routing = rw (← c.self.view_is) refl; each = rw (← c.self.view_is) each }
