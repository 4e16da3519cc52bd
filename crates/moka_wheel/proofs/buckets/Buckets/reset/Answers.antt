use Rattle.std.proofs.Common.{arith, ap, length, length-set, refl}
use Rattle.moka_wheel.specs.Nodes.{Node, detached}
use Rattle.moka_wheel.proofs.Turns.{last-within}
use Rattle.moka_wheel.proofs.Writes.{unlisted, timed}
use Rattle.moka_wheel.proofs.buckets.Buckets.reset.Goals as goal

pub detach-requires : goal.detach-requires
detach-requires c =
    let t = c.requires.timer in
    let links = c.requires.placed.links in
    record { slot = omega (arith, t.within); before = omega (arith, (links.back c.args.slot t.within t.held).within); behind = omega (arith, (links.on c.args.slot t.within t.held).within) }

pub place-requires-clause-links : goal.place-requires-clause-links
place-requires-clause-links c h low =
    let ds = detached c.args.self.now.nodes.items c.args.slot in
    let n = c.index_mut.result.now in
    let v : Node = record n { value = record n.value { at = c.args.at } } in
    let read = rw c.detach.ensures.nodes at c.index_mut.ensures.value in
    let free = unlisted _ _ _ c.args.slot n v c.requires.placed c.requires.timer read refl in
    rw c.detach.ensures.nodes (omega (arith, last-within _ _ _ _ h free.placed low, length-set ds c.args.slot v, ap length c.detach.ensures.nodes))

pub returns-clause-placed : goal.returns-clause-placed
returns-clause-placed c =
    let read = rw c.detach.ensures.nodes at c.index_mut.ensures.value in
    let home = rw c.detach.ensures.nodes at c.place.ensures.home in
    rw (c.place.ensures.nodes, c.detach.ensures.nodes, c.place.ensures.moment) (timed _ _ _ _ c.args.slot c.place.result c.args.at c.index_mut.result.now c.requires.placed c.requires.timer read home c.place.ensures.marked c.place.ensures.others).placed

pub returns-clause-puts : goal.returns-clause-puts
returns-clause-puts c =
    let read = rw c.detach.ensures.nodes at c.index_mut.ensures.value in
    let home = rw c.detach.ensures.nodes at c.place.ensures.home in
    rw (c.place.ensures.nodes, c.detach.ensures.nodes) (timed _ _ _ _ c.args.slot c.place.result c.args.at c.index_mut.result.now c.requires.placed c.requires.timer read home c.place.ensures.marked c.place.ensures.others).puts
