use Rattle.std.proofs.Common.{◌≡◌, arith, sym, ap, ◌∙◌, refl, subst, Option, Some, None, IfNone}
use Rattle.std.proofs.lemmas.List.{get_or_read}
use Rattle.moka_wheel.specs.Nodes.{Node, blank, behinds}
use Rattle.moka_wheel.proofs.Frames.{keeps-trans}
use Rattle.moka_wheel.proofs.Sound.{all-later, any-later, behind-read}
use Rattle.moka_wheel.proofs.buckets.Buckets.due.Goals as goal

if-none : {A : Type 0} (o : Option A) (P Q : Type 0) → (P → Q) → IfNone o P → IfNone o Q
if-none None P Q f p = f p
if-none (Some x) P Q f p = p

pub returns-then-now-self-clause-none : goal.returns-then-now-self-clause-none
returns-then-now-self-clause-none c =
    if-none c.overdue.result _ _ (λ none i t. any-later _ _ _ c.args.now i c.requires t c.if-now-self.true (λ e. none i t e)) c.overdue.ensures.none

pub loop-self-preserved : goal.loop-self-preserved
loop-self-preserved c = record {
  placed = c.step.ensures.placed;
  keeps = keeps-trans _ c.loop-self.self.nodes.items _ c.loop-self.invariant.keeps c.step.ensures.keeps;
  capacity = c.step.ensures.capacity ∙ c.loop-self.invariant.capacity;
  forward = omega (arith, c.loop-self.invariant.forward, c.if-not-step.ensures.moved refl);
  late = c.step.ensures.at_most;
}

pub returns-then-not-step-clause-none : goal.returns-then-not-step-clause-none
returns-then-not-step-clause-none c i t =
    let ns = c.loop-self.self.nodes.items in
    let r = ap (λ (n : Node). n.behind) (get_or_read ns 2048 c.index.result.now (omega (arith, c.loop-self.invariant.placed.links.sized)) c.index.ensures blank) in
    let own = sym r ∙ c.loop-self-test.true in
    let own_now = subst (λ xs. behinds xs 2048 ≡ 2048) (sym (c.if-not-step.ensures.kept refl)) own in
    omega (arith, all-later _ _ _ i c.step.ensures.placed own_now t, c.if-not-step.ensures.end refl)

pub returns-clause-some : goal.returns-clause-some
returns-clause-some c =
    (behind-read _ _ _ 2048 2048 c.index.result.now c.index-2.result.now c.loop-self.invariant.placed (omega arith) c.index.ensures c.index-2.ensures c.loop-self-test.false).0

pub returns-clause-due : goal.returns-clause-due
returns-clause-due c =
    let f = behind-read _ _ _ 2048 2048 c.index.result.now c.index-2.result.now c.loop-self.invariant.placed (omega arith) c.index.ensures c.index-2.ensures c.loop-self-test.false in
    omega (arith, c.loop-self.invariant.placed.due _ f.0 f.1, c.loop-self.invariant.late)
