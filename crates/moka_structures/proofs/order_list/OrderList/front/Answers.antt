use Rattle.std.proofs.Common.{arith, sym}
use Rattle.moka_structures.proofs.Orders.{distinct-members, first}
use Rattle.moka_structures.proofs.order_list.OrderList.front.Goals as goal

pub index-requires-2 : goal.index-requires-2
index-requires-2 g c = omega (arith, (first c.self.invariant c.index.result.now c.index.ensures).within)

pub returns-clause-front : goal.returns-clause-front
returns-clause-front g c =
    let there = first c.self.invariant c.index.result.now c.index.ensures in
    rw (← c.self.view_is) (sym (there.some c.if-slot-eq0.false c.index-2.result.now c.index-2.ensures))

pub returns-clause-found : goal.returns-clause-found
returns-clause-found g c =
    let there = first c.self.invariant c.index.result.now c.index.ensures in
    rw (← c.self.view_is) (there.found c.if-slot-eq0.false c.index-2.result.now c.index-2.ensures)

pub returns-then-slot-eq0-clause-distinct : goal.returns-then-slot-eq0-clause-distinct
returns-then-slot-eq0-clause-distinct g c = rw (← c.self.view_is) (distinct-members c.self.invariant)

pub returns-clause-distinct : goal.returns-clause-distinct
returns-clause-distinct g c = rw (← c.self.view_is) (distinct-members c.self.invariant)
