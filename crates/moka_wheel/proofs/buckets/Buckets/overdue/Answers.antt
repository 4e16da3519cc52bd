use Rattle.std.proofs.Common.{◌≡◌, ◌+◌, length, arith, sym, ap, subst}
use Rattle.std.proofs.lemmas.List.{get_or_read}
use Rattle.moka_wheel.specs.Nodes.{Node, blank}
use Rattle.moka_wheel.proofs.Walk.{Walk, walk-start, walk-step, walk-home, walk-end}
use Rattle.moka_wheel.proofs.buckets.Buckets.overdue.Goals as goal

pub loop-init : goal.loop-init
loop-init c =
    let ns = c.args.self.now.nodes.items in
    let r = ap (λ (n : Node). n.behind) (get_or_read ns 2048 c.index.result.now (omega (arith, c.requires.links.sized)) c.index.ensures blank) in
    subst (λ s. Walk ns c.args.now s 0) (sym r) (walk-start ns _ _ c.args.now c.requires)

pub returns-then-slot-eq-DUE-clause-none : goal.returns-then-slot-eq-DUE-clause-none
returns-then-slot-eq-DUE-clause-none c i t e = walk-home _ _ _ _ _ _ i c.requires c.loop.invariant c.if-slot-eq-DUE.true t e

pub loop-preserved : goal.loop-preserved
loop-preserved c =
    let ns = c.args.self.now.nodes.items in
    let r1 = ap (λ (n : Node). n.value.at) (get_or_read ns c.loop.slot c.index-in-loop.result.now c.loop.invariant.within c.index-in-loop.ensures blank) in
    let r2 = ap (λ (n : Node). n.behind) (get_or_read ns c.loop.slot c.index-in-loop-2.result.now c.loop.invariant.within c.index-in-loop-2.ensures blank) in
    subst (λ s. Walk ns c.args.now s (c.loop.counter + 1)) (sym r2) (walk-step ns _ _ c.args.now c.loop.slot c.loop.counter c.requires c.loop.invariant c.if-slot-eq-DUE.false (omega (arith, r1)))

pub returns-clause-none : goal.returns-clause-none
returns-clause-none c i t e =
    let ns = c.args.self.now.nodes.items in
    let whole : c.loop.counter ≡ length ns = omega arith in
    let walk = subst (λ n. Walk ns c.args.now c.loop.slot n) whole c.loop.invariant in
    walk-home _ _ _ _ _ _ i c.requires c.loop.invariant (walk-end _ _ _ _ _ c.requires walk) t e
