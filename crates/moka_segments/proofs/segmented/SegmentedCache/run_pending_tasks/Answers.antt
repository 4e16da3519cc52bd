use Rattle.std.proofs.Common.{refl, arith}
use Rattle.moka_calls.specs.Synchronous.{meaning_of}
use Rattle.moka_segments.specs.Whole.{AllRan}
use Rattle.moka_segments.proofs.Each.{as_many_back, written_back}
use Rattle.moka_segments.proofs.Within.{whole_within}
use Rattle.moka_segments.proofs.segmented.SegmentedCache.run_pending_tasks.Goals as goal

pub invariant_of-self : goal.invariant_of-self
invariant_of-self g c = as_many_back c.self.inside.segments.items c.deref_mut.result.now c.run_each.new.caches c.self.inside.segments.len c.self.inside.router.count c.deref_mut.ensures.value (omega (arith, c.deref_mut.ensures.len, c.run_each.auto.caches)) c.run_each.auto.caches c.self.invariant

pub returns : goal.returns
returns g c =
    let m = meaning_of g.K.PartialEq.eq g.L.Listener.tells g.P.PredicateFn.says g.W.Weigher.weighs g.C.Clock.reads g.X.Expiry.created g.X.Expiry.read g.X.Expiry.updated in
    let ran = written_back (AllRan m c.args.now c.args.clock.now c.run_each.result c.run_each.new.clock) c.self.inside.segments.items c.deref_mut.result.now c.run_each.new.caches c.self.inside.segments.len c.deref_mut.ensures.value (omega (arith, c.deref_mut.ensures.len, c.run_each.auto.caches)) c.run_each.ensures in
    record { routing = rw (← c.self.view_is) refl; each = rw (← c.self.view_is) ran; within = whole_within m c.args.now c.args.clock.now c.run_each.result c.run_each.new.clock _ _ ran }
