use Rattle.std.proofs.Common.{arith, Bool, option_map, subst, sym, ◌∙◌, refl, true, false, true≢false, ◌+◌}
use Rattle.std.specs.Duration.{as_nanos}
use Rattle.moka_maintenance.specs.Steps.{stock_in}
use Rattle.moka_maintenance.specs.Timers.{AreOnTime}
use Rattle.moka_maintenance.specs.Passes.{IsRan}
use Rattle.moka_maintenance.proofs.Passing.{IsMoving, is_due, not_due, moving-none, moving-few, moving-on, moving-less, ran, clocked-start, clocked-check}
use Rattle.moka_maintenance.proofs.Upkeep.{upkeep-none, upkeep-on, upkept-on, upkept-on_time}
use Rattle.moka_maintenance.proofs.passes.make_passes.Goals as goal

pub loop-terms-init : goal.loop-terms-init
loop-terms-init g c = record {
  moving = moving-none g.L.Listener.tells g.P.PredicateFn.says c.args.terms.tests c.args.terms.batch c.args.store.now.ordered (AreOnTime c.args.store.now) c.args.invalidator.now (stock_in c.args.store.now) c.args.notifier.now;
  clocked = clocked-start g.C.Clock.reads (option_map as_nanos c.args.terms.limit) c.start-started.result c.args.clock.now c.start-started.new.clock c.start-started.ensures;
  upkeep = upkeep-none c.args.store.now;
}

pub overflow_add-passes : goal.overflow_add-passes
overflow_add-passes g c = let few = moving-few g.L.Listener.tells g.P.PredicateFn.says c.args.terms.tests c.args.terms.batch c.loop-terms.store.ordered (AreOnTime c.args.store.now) _ _ _ _ _ _ _ c.loop-terms.invariant.moving in let count = c.member_count-members.ensures.value in let bound = c.member_count-members.ensures.few in omega arith

pub returns-then-not-goes_on-clause-ran : goal.returns-then-not-goes_on-clause-ran
returns-then-not-goes_on-clause-ran g c =
    let inv = c.loop-terms.invariant in
    let pass = c.make_pass-pass.result in
    let more = c.leaves_more-has_more in
    subst (λ (b : Bool). IsRan g.L.Listener.tells g.P.PredicateFn.says c.args.terms.tests g.C.Clock.reads (option_map as_nanos c.args.terms.limit) c.args.terms.batch b (AreOnTime c.args.store.now) c.args.invalidator.now c.make_pass-pass.new.invalidator (stock_in c.args.store.now) (stock_in c.make_pass-pass.new.store) c.args.notifier.now c.make_pass-pass.new.notifier c.args.clock.now c.loop-terms.clock (c.loop-terms.passes + 1) more.result) inv.upkeep.timers.ordered
    (ran g.L.Listener.tells g.P.PredicateFn.says c.args.terms.tests c.args.terms.batch _ (AreOnTime c.args.store.now) (AreOnTime c.loop-terms.store) (upkept-on_time c.args.store.now c.loop-terms.store inv.upkeep.timers inv.moving.by.steps inv.moving.by.led) _ _ _ _ _ _ _ _ _ _ pass.removed pass.has_more pass.scan_has_more inv.moving c.make_pass-pass.ensures.pass g.C.Clock.reads (option_map as_nanos c.args.terms.limit) c.start-started.result c.args.clock.now c.loop-terms.clock c.loop-terms.passes false more.result more.ensures (omega arith) inv.clocked
    (λ late. absurd (true≢false (sym late))) (λ _ is. not_due _ _ (sym c.goes_on.ensures ∙ c.if-not-goes_on.true) (sym more.ensures ∙ is)))

pub returns-then-is_late-clause-ran : goal.returns-then-is_late-clause-ran
returns-then-is_late-clause-ran g c =
    let inv = c.loop-terms.invariant in
    let pass = c.make_pass-pass.result in
    let on = is_due _ _ (sym c.goes_on.ensures ∙ c.if-not-goes_on.false) in
    subst (λ (b : Bool). IsRan g.L.Listener.tells g.P.PredicateFn.says c.args.terms.tests g.C.Clock.reads (option_map as_nanos c.args.terms.limit) c.args.terms.batch b (AreOnTime c.args.store.now) c.args.invalidator.now c.make_pass-pass.new.invalidator (stock_in c.args.store.now) (stock_in c.make_pass-pass.new.store) c.args.notifier.now c.make_pass-pass.new.notifier c.args.clock.now c.is_late.new.clock (c.loop-terms.passes + 1) true) inv.upkeep.timers.ordered
    (ran g.L.Listener.tells g.P.PredicateFn.says c.args.terms.tests c.args.terms.batch _ (AreOnTime c.args.store.now) (AreOnTime c.loop-terms.store) (upkept-on_time c.args.store.now c.loop-terms.store inv.upkeep.timers inv.moving.by.steps inv.moving.by.led) _ _ _ _ _ _ _ _ _ _ pass.removed pass.has_more pass.scan_has_more inv.moving c.make_pass-pass.ensures.pass g.C.Clock.reads (option_map as_nanos c.args.terms.limit) c.start-started.result c.args.clock.now c.is_late.new.clock (c.loop-terms.passes + 1) true true (sym on.0) (omega arith)
    (clocked-check g.C.Clock.reads (option_map as_nanos c.args.terms.limit) c.start-started.result c.args.clock.now c.loop-terms.clock c.is_late.new.clock c.loop-terms.passes true inv.clocked c.if-is_late.ensures)
    (λ _. (refl, on.1)) (λ early. absurd (true≢false early)))

pub loop-terms-smaller : goal.loop-terms-smaller
loop-terms-smaller g c =
    let inv = c.loop-terms.invariant in let less = moving-less g.L.Listener.tells g.P.PredicateFn.says c.args.terms.tests c.args.terms.batch _ (AreOnTime c.args.store.now) (AreOnTime c.loop-terms.store) (upkept-on_time c.args.store.now c.loop-terms.store inv.upkeep.timers inv.moving.by.steps inv.moving.by.led) _ _ _ _ _ _ _ _ _ _ _ _ _ c.loop-terms.invariant.moving c.make_pass-pass.ensures.pass (is_due _ _ (sym c.goes_on.ensures ∙ c.if-not-goes_on.false)).1 in omega arith

pub loop-terms-preserved : goal.loop-terms-preserved
loop-terms-preserved g c =
    let inv = c.loop-terms.invariant in
    let on = is_due _ _ (sym c.goes_on.ensures ∙ c.if-not-goes_on.false) in
    record {
      moving =
          subst (λ (b : Bool). IsMoving g.L.Listener.tells g.P.PredicateFn.says c.args.terms.tests c.args.terms.batch b (AreOnTime c.args.store.now) c.args.invalidator.now c.make_pass-pass.new.invalidator (stock_in c.args.store.now) (stock_in c.make_pass-pass.new.store) c.args.notifier.now c.make_pass-pass.new.notifier (c.loop-terms.passes + 1)) (sym c.make_pass-pass.ensures.kept.upkeep.timers.ordered)
          (moving-on g.L.Listener.tells g.P.PredicateFn.says c.args.terms.tests c.args.terms.batch _ (AreOnTime c.args.store.now) (AreOnTime c.loop-terms.store) (upkept-on_time c.args.store.now c.loop-terms.store inv.upkeep.timers inv.moving.by.steps inv.moving.by.led) _ _ _ _ _ _ _ _ _ _ _ _ _ inv.moving c.make_pass-pass.ensures.pass on.1 on.0);
      clocked = clocked-check g.C.Clock.reads (option_map as_nanos c.args.terms.limit) c.start-started.result c.args.clock.now c.loop-terms.clock c.is_late.new.clock c.loop-terms.passes false inv.clocked c.if-is_late.ensures;
      upkeep = upkeep-on c.args.store.now c.loop-terms.store c.make_pass-pass.new.store inv.upkeep c.make_pass-pass.ensures.kept.upkeep;
    }

pub returns-then-not-goes_on-clause-kept : goal.returns-then-not-goes_on-clause-kept
returns-then-not-goes_on-clause-kept g c = upkept-on _ c.args.store.now c.loop-terms.store c.make_pass-pass.new.store c.loop-terms.invariant.upkeep c.make_pass-pass.ensures.kept

pub returns-then-is_late-clause-kept : goal.returns-then-is_late-clause-kept
returns-then-is_late-clause-kept g c = upkept-on _ c.args.store.now c.loop-terms.store c.make_pass-pass.new.store c.loop-terms.invariant.upkeep c.make_pass-pass.ensures.kept
