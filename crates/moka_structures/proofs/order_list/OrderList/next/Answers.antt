use Rattle.std.proofs.Common.{arith, sym}
use Rattle.moka_structures.proofs.Orders.{near, distinct-members, next}
use Rattle.moka_structures.proofs.order_list.OrderList.next.Goals as goal

pub index-requires : goal.index-requires
index-requires g c = omega (arith, (near c.self.invariant c.args.slot (rw (← c.self.view_is) at c.requires)).within)

pub returns-then-next-eq0-clause-next : goal.returns-then-next-eq0-clause-next
returns-then-next-eq0-clause-next g c =
    let there = next c.self.invariant c.args.slot (rw (← c.self.view_is) at c.requires) c.index.result.now c.index.ensures in
    rw (← c.self.view_is) (sym (there.none c.if-next-eq0.true))

pub index-requires-2 : goal.index-requires-2
index-requires-2 g c =
    let there = next c.self.invariant c.args.slot (rw (← c.self.view_is) at c.requires) c.index.result.now c.index.ensures in
    omega (arith, there.within)

pub returns-clause-next : goal.returns-clause-next
returns-clause-next g c =
    let there = next c.self.invariant c.args.slot (rw (← c.self.view_is) at c.requires) c.index.result.now c.index.ensures in
    rw (← c.self.view_is) (sym (there.some c.if-next-eq0.false c.index-2.result.now c.index-2.ensures))

pub returns-clause-found : goal.returns-clause-found
returns-clause-found g c =
    let there = next c.self.invariant c.args.slot (rw (← c.self.view_is) at c.requires) c.index.result.now c.index.ensures in
    rw (← c.self.view_is) (there.found c.if-next-eq0.false c.index-2.result.now c.index-2.ensures)

pub returns-clause-other : goal.returns-clause-other
returns-clause-other g c =
    let there = next c.self.invariant c.args.slot (rw (← c.self.view_is) at c.requires) c.index.result.now c.index.ensures in
    there.other c.if-next-eq0.false

pub returns-then-next-eq0-clause-distinct : goal.returns-then-next-eq0-clause-distinct
returns-then-next-eq0-clause-distinct g c = rw (← c.self.view_is) (distinct-members c.self.invariant)

pub returns-clause-distinct : goal.returns-clause-distinct
returns-clause-distinct g c = rw (← c.self.view_is) (distinct-members c.self.invariant)
