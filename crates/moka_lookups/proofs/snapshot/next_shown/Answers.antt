use Rattle.std.proofs.Common.{refl, sym, inl, inr, ap, ◌∙◌, arith, length, []}
use Rattle.std.specs.FinMap.{get}
use Rattle.moka_lookups.specs.Snapshot.{Scene, scene_at, IsHiddenIn}
use Rattle.moka_lookups.proofs.Passing.{goes_on, stands_next, passed_gone, passed_hidden, passes_one, passes_found}
use Rattle.moka_lookups.proofs.snapshot.next_shown.Goals as goal
use Rattle.moka_lookups.proofs.snapshot.next_shown.Goals.{else-not-has_lapsed-via-then-not-has_lapsed+else-not-apply_predicates, else-not-has_lapsed-via-else-not-has_lapsed}

pub loop-at-init : goal.loop-at-init
loop-at-init g c = record { stands = c.requires.stands; passes = ([], refl, tt) }

pub loop-at-smaller-in_default-find : goal.loop-at-smaller-in_default-find
loop-at-smaller-in_default-find g c =
    let kept = c.args.store.now in
    let on = goes_on kept.access c.invariant_holds.ensures.distinct c.in-Some.handle c.loop-at.at c.in-Some.is (rw c.in-Some.is at c.loop-at.invariant.stands).1 c.next.result c.next.ensures.next c.handle_of-at.result c.handle_of-at.ensures in
    omega (arith, ap length on.2)

pub loop-at-preserved-in_default-find : goal.loop-at-preserved-in_default-find
loop-at-preserved-in_default-find g c =
    let kept = c.args.store.now in
    let scene : Scene g.row.K.Denot g.row.V.Denot g.row.X.Denot g.row.P.Denot = scene_at kept c.args.moments.now.policy.now c.args.moments.now.valid_after.now c.args.invalidator.now c.args.moments.now.now.0 c.args.at in
    let on = goes_on kept.access c.invariant_holds.ensures.distinct c.in-Some.handle c.loop-at.at c.in-Some.is (rw c.in-Some.is at c.loop-at.invariant.stands).1 c.next.result c.next.ensures.next c.handle_of-at.result c.handle_of-at.ensures in
    record {
      stands = stands_next kept c.next.result c.next.ensures.placed c.next.ensures.member c.handle_of-at.result c.handle_of-at.ensures;
      passes = passes_one g.P.PredicateFn.says scene _ _ on.0 on.2 (passed_gone g.P.PredicateFn.says scene on.0 c.in-Some.handle.number on.1 (c.in_default-find.ensures.found (rw c.in-Some.is at c.loop-at.invariant.stands).0)) c.loop-at.invariant.passes;
    }

pub returns-then-not-apply_predicates-clause-listed :
    goal.returns-then-not-apply_predicates-clause-listed
returns-then-not-apply_predicates-clause-listed g c =
    let kept = c.args.store.now in
    let scene : Scene g.row.K.Denot g.row.V.Denot g.row.X.Denot g.row.P.Denot = scene_at kept c.args.moments.now.policy.now c.args.moments.now.valid_after.now c.args.invalidator.now c.args.moments.now.now.0 c.args.at in
    let on = goes_on kept.access c.invariant_holds.ensures.distinct c.in-Some.handle c.loop-at.at c.in-Some.is (rw c.in-Some.is at c.loop-at.invariant.stands).1 c.next.result c.next.ensures.next c.handle_of-at.result c.handle_of-at.ensures in
    passes_found g.P.PredicateFn.says scene _ _ on.0 on.2 c.in-Some-find.found (ap (get kept.records) on.1 ∙ sym (c.in-Some-find.ensures.found (rw c.in-Some.is at c.loop-at.invariant.stands).0)) (sym c.has_lapsed.ensures ∙ c.if-not-has_lapsed.true, c.if-not-apply_predicates.ensures) c.loop-at.invariant.passes

pub loop-at-smaller : goal.loop-at-smaller
loop-at-smaller g c =
    let kept = c.args.store.now in
    let on = goes_on kept.access c.invariant_holds.ensures.distinct c.in-Some.handle c.loop-at.at c.in-Some.is (rw c.in-Some.is at c.loop-at.invariant.stands).1 c.next.result c.next.ensures.next c.handle_of-at.result c.handle_of-at.ensures in
    omega (arith, ap length on.2)

pub loop-at-preserved : goal.loop-at-preserved
loop-at-preserved g c =
    let kept = c.args.store.now in
    let scene : Scene g.row.K.Denot g.row.V.Denot g.row.X.Denot g.row.P.Denot = scene_at kept c.args.moments.now.policy.now c.args.moments.now.valid_after.now c.args.invalidator.now c.args.moments.now.now.0 c.args.at in
    let on = goes_on kept.access c.invariant_holds.ensures.distinct c.in-Some.handle c.loop-at.at c.in-Some.is (rw c.in-Some.is at c.loop-at.invariant.stands).1 c.next.result c.next.ensures.next c.handle_of-at.result c.handle_of-at.ensures in
    let hidden : IsHiddenIn g.P.PredicateFn.says scene c.in-Some-find.found = elim c.else-not-has_lapsed.branch [
      | else-not-has_lapsed-via-then-not-has_lapsed+else-not-apply_predicates w ↦ inr w.if-not-apply_predicates.ensures
      | else-not-has_lapsed-via-else-not-has_lapsed w ↦ inl (sym c.has_lapsed.ensures ∙ w.if-not-has_lapsed.false)
    ] in
    record {
      stands = stands_next kept c.next.result c.next.ensures.placed c.next.ensures.member c.handle_of-at.result c.handle_of-at.ensures;
      passes = passes_one g.P.PredicateFn.says scene _ _ on.0 on.2 (passed_hidden g.P.PredicateFn.says scene on.0 c.in-Some.handle.number on.1 c.in-Some-find.found (c.in-Some-find.ensures.found (rw c.in-Some.is at c.loop-at.invariant.stands).0) hidden) c.loop-at.invariant.passes;
    }
