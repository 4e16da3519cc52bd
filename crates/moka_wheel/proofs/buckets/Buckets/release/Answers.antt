use Rattle.std.proofs.Common.{arith}
use Rattle.moka_wheel.proofs.Writes.{taken}
use Rattle.moka_wheel.proofs.buckets.Buckets.release.Goals as goal

pub detach-requires : goal.detach-requires
detach-requires c =
    let t = c.requires.timer in
    let links = c.requires.placed.links in
    record { slot = omega (arith, t.within); before = omega (arith, (links.back c.args.slot t.within t.held).within); behind = omega (arith, (links.on c.args.slot t.within t.held).within) }

pub returns-clause-placed : goal.returns-clause-placed
returns-clause-placed c =
    let read = rw c.detach.ensures.nodes at c.index_mut.ensures.value in
    rw c.detach.ensures.nodes (taken _ _ _ c.args.slot c.args.free c.index_mut.result.now c.requires.placed c.requires.timer read).placed

pub returns-clause-takes : goal.returns-clause-takes
returns-clause-takes c =
    let read = rw c.detach.ensures.nodes at c.index_mut.ensures.value in
    rw c.detach.ensures.nodes (taken _ _ _ c.args.slot c.args.free c.index_mut.result.now c.requires.placed c.requires.timer read).takes
