use Rattle.std.proofs.Common.{arith, ◌∙◌, get_or, nat_eq, refl, subst, sym}
use Rattle.std.specs.HashMap.{get}
use Rattle.moka_hit_ratio.specs.Optimum.{IsNextRead}
use Rattle.moka_hit_ratio.proofs.NextReads.{last-before, read-none, read-first, read-again}
use Rattle.moka_hit_ratio.proofs.optimum.next_reads.Goals as goal
use Rattle.moka_hit_ratio.proofs.optimum.next_reads.Goals.{in-Some, in_default}

pub loop-place-init : goal.loop-place-init
loop-place-init c = rw (c.in_ok-nexts.ensures.items) (read-none c.args.keys.now (get nat_eq c.new-last.result) (λ key. rw (c.new-last.ensures.empty) refl))

pub index_mut-requires : goal.index_mut-requires
index_mut-requires c =
    let before = last-before c.args.keys.now c.loop-place.nexts.items c.loop-place.place (get nat_eq c.loop-place.last) c.loop-place.invariant c.in-Some.before (sym c.in_ok-before.ensures.old ∙ c.in-Some.is) in
    omega (arith, before, c.loop-place.invariant.long, c.in_ok-push.ensures.len)

pub loop-place-preserved : goal.loop-place-preserved
loop-place-preserved c = elim c.match-branch-4.branch [
  | in-Some w ↦
      rw (w.nexts-is, c.in_ok-push.ensures.items)
      (read-again c.args.keys.now c.loop-place.nexts.items c.loop-place.place (get nat_eq c.loop-place.last) c.loop-place.invariant (get nat_eq c.insert.new.self) c.in_ok-before.ensures.updates.0 w.in-Some.before (sym c.in_ok-before.ensures.old ∙ w.in-Some.is))
  | in_default w ↦
      rw (w.nexts-is, c.in_ok-push.ensures.items)
      (read-first c.args.keys.now c.loop-place.nexts.items c.loop-place.place (get nat_eq c.loop-place.last) c.loop-place.invariant (get nat_eq c.insert.new.self) c.in_ok-before.ensures.updates.0 (sym c.in_ok-before.ensures.old ∙ w.in_default.is))
]

pub returns-clause-length : goal.returns-clause-length
returns-clause-length c = omega (arith, c.loop-place.invariant.long, c.loop-place-test.false, c.loop-place.auto.place-end)

pub returns-clause-next : goal.returns-clause-next
returns-clause-next c =
    let all = sym c.loop-place.invariant.long ∙ returns-clause-length c in
    λ place less. subst (λ many. IsNextRead c.args.keys.now many place (get_or c.loop-place.nexts.items place 0)) all (c.loop-place.invariant.next place (omega (arith, less, all)))
