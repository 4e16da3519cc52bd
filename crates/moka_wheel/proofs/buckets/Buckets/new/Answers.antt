use Rattle.std.proofs.Common.{arith}
use Rattle.moka_wheel.proofs.Heads.{heads-placed, more-heads, zeros}
use Rattle.moka_wheel.proofs.buckets.Buckets.new.Goals as goal

pub returns-clause-placed : goal.returns-clause-placed
returns-clause-placed c = heads-placed c.loop-head.nodes.items _ 0 (omega (arith, c.loop-head.invariant.made)) (λ i l. c.loop-head.invariant.heads i (omega arith)) (zeros 32)

pub loop-head-preserved : goal.loop-head-preserved
loop-head-preserved c =
    let ns = c.loop-head.nodes.items in
    let was = c.loop-head.invariant in
    record {
      made = omega (arith, was.made, c.push_reserved.ensures.len);
      heads = rw c.push_reserved.ensures.items (more-heads ns c.loop-head.head (omega (arith, was.made)) was.heads);
      room = omega (arith, was.room, c.push_reserved.ensures.capacity);
    }
