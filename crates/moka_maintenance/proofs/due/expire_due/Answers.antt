use Rattle.std.proofs.Common.{◌≡◌, ℕ, ◌+◌, subst, arith, ap, sym, ◌∙◌}
use Rattle.std.specs.FinMap as finite
use Rattle.moka_store.specs.Store.{Kept}
use Rattle.moka_store.proofs.Gets.{get-removed}
use Rattle.moka_maintenance.specs.Steps.{stock_in}
use Rattle.moka_maintenance.specs.Sweep.{ExpiresDue}
use Rattle.moka_maintenance.specs.Timers.{HasNoneDue}
use Rattle.moka_maintenance.specs.Upkeep.{Upkeep}
use Rattle.moka_maintenance.proofs.Expiring.{expires-none, expires-on, expires-few, upkeep-due, fewer-due}
use Rattle.moka_maintenance.proofs.Upkeep.{upkeep-none, upkeep-on}
use Rattle.moka_maintenance.proofs.due.expire_due.Goals as goal

pub loop-handle-init : goal.loop-handle-init
loop-handle-init g c = record {
  expired = expires-none g.L.Listener.tells c.args.tests (stock_in c.args.store.now) c.args.notifier.now;
  upkeep = upkeep-none c.args.store.now;
}

pub expire-requires-clause-untimed : goal.expire-requires-clause-untimed
expire-requires-clause-untimed g c = ap (λ (k : Kept g.row.K.Denot g.row.V.Denot g.row.S.Denot). finite.get k.timers c.in-Some.handle.number) c.in-Some.ensures.step ∙ get-removed c.loop-handle.store.timers c.in-Some.handle.number

pub overflow_add-removed : goal.overflow_add-removed
overflow_add-removed g c =
    let step = c.in-Some.ensures.step in
    let before = stock_in c.loop-handle.store in
    let all = expires-on g.L.Listener.tells c.args.tests (stock_in c.args.store.now) before (stock_in c.expire.new.store) c.args.notifier.now c.loop-handle.notifier c.expire.new.notifier c.loop-handle.removed 1 c.loop-handle.invariant.expired (rw (← ap stock_in step) c.if-expire.ensures.expired) in
    let few = expires-few g.L.Listener.tells c.args.tests (stock_in c.args.store.now) (stock_in c.expire.new.store) c.args.notifier.now c.expire.new.notifier (c.loop-handle.removed + 1) all in
    let count = c.member_count-members.ensures.value in
    let bound = c.member_count-members.ensures.few in
    omega arith

pub loop-handle-smaller-then-expire : goal.loop-handle-smaller-then-expire
loop-handle-smaller-then-expire g c =
    let due = c.in-Some.ensures.due in
    fewer-due c.args.tests.now.0 c.in-Some.handle.number c.loop-handle.store c.expire.new.store (rw c.in-Some.ensures.step at c.if-expire.ensures.reset) due.0 due.1 due.2

pub loop-handle-smaller : goal.loop-handle-smaller
loop-handle-smaller g c =
    let due = c.in-Some.ensures.due in
    fewer-due c.args.tests.now.0 c.in-Some.handle.number c.loop-handle.store c.expire.new.store (rw c.in-Some.ensures.step at c.if-expire.ensures.reset) due.0 due.1 due.2

pub loop-handle-preserved-then-expire : goal.loop-handle-preserved-then-expire
loop-handle-preserved-then-expire g c =
    let inv = c.loop-handle.invariant in
    let step = c.in-Some.ensures.step in
    let old = c.loop-handle.store in
    let new = c.expire.new.store in
    record {
      expired = expires-on g.L.Listener.tells c.args.tests (stock_in c.args.store.now) (stock_in old) (stock_in new) c.args.notifier.now c.loop-handle.notifier c.expire.new.notifier c.loop-handle.removed 1 inv.expired (rw (← ap stock_in step) c.if-expire.ensures.expired);
      upkeep = upkeep-on c.args.store.now old new inv.upkeep (upkeep-due c.args.tests.now.0 c.in-Some.handle.number old new (rw step at c.if-expire.ensures.reset));
    }

pub loop-handle-preserved : goal.loop-handle-preserved
loop-handle-preserved g c =
    let inv = c.loop-handle.invariant in
    let step = c.in-Some.ensures.step in
    let old = c.loop-handle.store in
    let new = c.expire.new.store in
    let same : c.loop-handle.removed + 0 ≡ c.loop-handle.removed = omega arith in
    record {
      expired = subst (λ (k : ℕ). ExpiresDue g.L.Listener.tells c.args.tests (stock_in c.args.store.now) (stock_in new) c.args.notifier.now c.expire.new.notifier k) same (expires-on g.L.Listener.tells c.args.tests (stock_in c.args.store.now) (stock_in old) (stock_in new) c.args.notifier.now c.loop-handle.notifier c.expire.new.notifier c.loop-handle.removed 0 inv.expired (rw (← ap stock_in step) c.if-expire.ensures.expired));
      upkeep = upkeep-on c.args.store.now old new inv.upkeep (upkeep-due c.args.tests.now.0 c.in-Some.handle.number old new (rw step at c.if-expire.ensures.reset));
    }

pub returns-clause-expired : goal.returns-clause-expired
returns-clause-expired g c =
    subst (λ (k : Kept g.row.K.Denot g.row.V.Denot g.row.S.Denot). ExpiresDue g.L.Listener.tells c.args.tests (stock_in c.args.store.now) (stock_in k) c.args.notifier.now c.loop-handle.notifier c.loop-handle.removed) (sym c.in_default.ensures.unchanged)
    c.loop-handle.invariant.expired

pub returns-clause-kept : goal.returns-clause-kept
returns-clause-kept g c =
    let same = sym c.in_default.ensures.unchanged in
    record {
      upkeep = subst (λ (k : Kept g.row.K.Denot g.row.V.Denot g.row.S.Denot). Upkeep c.args.store.now k) same c.loop-handle.invariant.upkeep;
      none = subst (λ (k : Kept g.row.K.Denot g.row.V.Denot g.row.S.Denot). HasNoneDue c.args.tests.now.0 k) same c.in_default.ensures.none;
    }
