use Rattle.std.proofs.Common.{length, arith, sym, ap, ◌∙◌}
use Rattle.std.proofs.lemmas.List.{get_or_read}
use Rattle.moka_wheel.specs.Nodes.{Node, blank}
use Rattle.moka_wheel.proofs.Frames.{keeps-trans}
use Rattle.moka_wheel.proofs.Sound.{empty-placed}
use Rattle.moka_wheel.proofs.Turns.{first-read, moved, fewer}
use Rattle.moka_wheel.proofs.buckets.Buckets.spread.Goals as goal

pub detach-requires : goal.detach-requires
detach-requires c =
    let f = first-read _ _ _ c.args.bucket _ _ c.loop-self.invariant.placed c.requires.within c.index.ensures c.index-in-loop-self.ensures c.loop-self-test.true in
    record { slot = omega (arith, f.leaves.timer.within); before = omega (arith, f.leaves.before_in); behind = omega (arith, f.leaves.behind_in) }

pub place-requires : goal.place-requires
place-requires c =
    let f = first-read _ _ _ c.args.bucket _ _ c.loop-self.invariant.placed c.requires.within c.index.ensures c.index-in-loop-self.ensures c.loop-self-test.true in
    let size = ap length c.detach.ensures.nodes in
    record {
      slot = omega (arith, f.leaves.slot_in, size);
      heads = omega (arith, f.leaves.heads, size);
      links = λ h low. rw c.detach.ensures.nodes (omega (arith, f.leaves.last_in h low, size));
    }

pub loop-self-smaller : goal.loop-self-smaller
loop-self-smaller c =
    let f = first-read _ _ _ c.args.bucket _ _ c.loop-self.invariant.placed c.requires.within c.index.ensures c.index-in-loop-self.ensures c.loop-self-test.true in
    rw (c.place.ensures.nodes, c.detach.ensures.nodes) (fewer _ _ _ c.args.bucket c.index-in-loop-self.result.now.behind c.place.result c.loop-self.invariant.placed c.requires.within f (rw c.detach.ensures.nodes at c.place.ensures.home))

pub loop-self-preserved : goal.loop-self-preserved
loop-self-preserved c =
    let f = first-read _ _ _ c.args.bucket _ _ c.loop-self.invariant.placed c.requires.within c.index.ensures c.index-in-loop-self.ensures c.loop-self-test.true in
    let m = moved _ _ c.place.new.self.occupied _ c.args.bucket c.index-in-loop-self.result.now.behind c.place.result f.leaves (rw c.detach.ensures.nodes at c.place.ensures.home) c.place.ensures.marked c.place.ensures.others in
    record {
      placed = rw (c.place.ensures.nodes, c.detach.ensures.nodes, c.place.ensures.moment) m.placed;
      keeps = rw (c.place.ensures.nodes, c.detach.ensures.nodes) (keeps-trans _ c.loop-self.self.nodes.items _ c.loop-self.invariant.keeps m.keeps);
      moment = c.place.ensures.moment ∙ c.loop-self.invariant.moment;
      capacity = c.place.ensures.capacity ∙ c.detach.ensures.capacity ∙ c.loop-self.invariant.capacity;
    }

pub returns-clause-placed : goal.returns-clause-placed
returns-clause-placed c =
    let ns = c.loop-self.self.nodes.items in
    let sized = c.loop-self.invariant.placed.links.sized in
    let r1 = ap (λ (n : Node). n.behind) (get_or_read ns c.args.bucket c.index.result.now (omega (arith, sized)) c.index.ensures blank) in
    empty-placed ns c.loop-self.self.occupied c.unmark.new.occupied c.loop-self.self.moment c.args.bucket c.loop-self.invariant.placed c.requires.within (sym r1 ∙ c.loop-self-test.false) c.unmark.ensures.here c.unmark.ensures.others
