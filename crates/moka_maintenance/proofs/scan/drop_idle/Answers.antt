use Rattle.std.proofs.Common.{◌≡◌, ◌+◌, ◌-◌, ℕ, subst, sym, arith}
use Rattle.moka_maintenance.specs.Steps.{contents_in}
use Rattle.moka_maintenance.proofs.Dropping.{Dropping, dropping-none, dropping-used, dropping-idle, dropping-done}
use Rattle.moka_maintenance.proofs.scan.drop_idle.Goals as goal

pub loop-left-init : goal.loop-left-init
loop-left-init g c = dropping-none g.P.PredicateFn.says (contents_in c.args.store.now) c.args.invalidator.now c.len-left.result c.len-left.ensures

pub loop-left-preserved-then-not-covers_some : goal.loop-left-preserved-then-not-covers_some
loop-left-preserved-then-not-covers_some g c =
    let ps = c.args.invalidator.now in
    let at = c.loop-left.left - 1 in
    let more : c.loop-left.left ≡ at + 1 = (let some = c.loop-left-test.true in omega arith) in
    let now = subst (λ (k : ℕ). Dropping g.P.PredicateFn.says (contents_in c.args.store.now) ps c.loop-left.invalidator k) more c.loop-left.invariant in
    subst (λ qs. Dropping g.P.PredicateFn.says (contents_in c.args.store.now) ps qs at) (sym c.remove-dropped.ensures.rest)
    (dropping-idle g.P.PredicateFn.says (contents_in c.args.store.now) ps c.loop-left.invalidator at now c.if-not-covers_some.ensures)

pub loop-left-preserved : goal.loop-left-preserved
loop-left-preserved g c =
    let ps = c.args.invalidator.now in
    let at = c.loop-left.left - 1 in
    let more : c.loop-left.left ≡ at + 1 = (let some = c.loop-left-test.true in omega arith) in
    let now = subst (λ (k : ℕ). Dropping g.P.PredicateFn.says (contents_in c.args.store.now) ps c.loop-left.invalidator k) more c.loop-left.invariant in
    dropping-used g.P.PredicateFn.says (contents_in c.args.store.now) ps c.loop-left.invalidator at now c.if-not-covers_some.ensures

pub returns : goal.returns
returns g c =
    let none : c.loop-left.left ≡ 0 = (let over = c.loop-left-test.false in omega arith) in
    dropping-done g.P.PredicateFn.says (contents_in c.args.store.now) c.args.invalidator.now c.loop-left.invalidator
    (subst (λ (k : ℕ). Dropping g.P.PredicateFn.says (contents_in c.args.store.now) c.args.invalidator.now c.loop-left.invalidator k) none c.loop-left.invariant)
