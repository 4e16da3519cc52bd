use Rattle.std.proofs.Common.{refl, arith}
use Rattle.moka_segments.proofs.Each.{as_many_back}
use Rattle.moka_segments.proofs.Registered.{registered_all, registered_back}
use Rattle.moka_segments.proofs.segmented.SegmentedCache.invalidate_entries_if.Goals as goal

pub invariant_of-self : goal.invariant_of-self
invariant_of-self g c = as_many_back c.self.inside.segments.items c.deref_mut.result.now c.register_each.new.segments c.self.inside.segments.len c.self.inside.router.count c.deref_mut.ensures.value (omega (arith, c.deref_mut.ensures.len, c.register_each.auto.segments)) c.register_each.auto.segments c.self.invariant

pub invariant_of-self-2 : goal.invariant_of-self-2
invariant_of-self-2 g c = as_many_back c.self.inside.segments.items c.deref_mut.result.now c.register_each.new.segments c.self.inside.segments.len c.self.inside.router.count c.deref_mut.ensures.value (omega (arith, c.deref_mut.ensures.len, c.register_each.auto.segments)) c.register_each.auto.segments c.self.invariant

pub returns-in-Ok : goal.returns-in-Ok
returns-in-Ok g c = record {
  routing = rw (← c.self.view_is) refl;
  each =
      registered_all _ _ _ _ _ c.args.ids.now c.register_each.new.ids c.new-done.result.items c.register_each.new.done.items
      c.self.inside.router c.self.inside.segments.items _ c.args.self.now c.self.view_is c.new-done.ensures.items
      (registered_back _ _ _ _ _ c.args.ids.now c.register_each.new.ids c.new-done.result.items c.register_each.new.done.items
      c.self.inside.segments.items c.deref_mut.result.now c.register_each.new.segments c.self.inside.segments.len c.deref_mut.ensures.value (omega (arith, c.deref_mut.ensures.len, c.register_each.auto.segments)) c.in-Ok.ensures);
}

pub returns : goal.returns
returns g c = record {
  routing = rw (← c.self.view_is) refl;
  each =
      registered_all _ _ _ _ _ c.args.ids.now c.register_each.new.ids c.new-done.result.items c.register_each.new.done.items
      c.self.inside.router c.self.inside.segments.items _ c.args.self.now c.self.view_is c.new-done.ensures.items
      (registered_back _ _ _ _ _ c.args.ids.now c.register_each.new.ids c.new-done.result.items c.register_each.new.done.items
      c.self.inside.segments.items c.deref_mut.result.now c.register_each.new.segments c.self.inside.segments.len c.deref_mut.ensures.value (omega (arith, c.deref_mut.ensures.len, c.register_each.auto.segments)) c.in-Err.ensures);
}
