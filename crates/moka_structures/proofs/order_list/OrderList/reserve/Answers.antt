use Rattle.std.proofs.lemmas.Result.{on_ok_weaker}
use Rattle.std.proofs.Common.{arith, refl}
use Rattle.moka_structures.proofs.Orders.{length-members}
use Rattle.moka_structures.proofs.order_list.OrderList.reserve.Goals as goal

pub overflow_sub-missing : goal.overflow_sub-missing
overflow_sub-missing g c =
    let i = c.self.invariant in
    omega (arith, i.total)

pub invariant_of-self : goal.invariant_of-self
invariant_of-self g c = rw c.reserve.ensures.items c.self.invariant

pub returns-clause-room : goal.returns-clause-room
returns-clause-room g c =
    let i = c.self.invariant in
    on_ok_weaker c.reserve.result (λ room. omega (arith, room, i.counted, i.total, c.len.ensures)) c.reserve.ensures.ok

pub returns-clause-succeeds : goal.returns-clause-succeeds
returns-clause-succeeds g c = λ fits. absurd (omega (arith, rw (← c.self.view_is) at fits))

pub returns-clause-enough : goal.returns-clause-enough
returns-clause-enough g c = λ fits. absurd (omega (arith, rw (← c.self.view_is) at fits))

pub returns-clause-members : goal.returns-clause-members
returns-clause-members g c = rw (c.reserve.ensures.items, ← c.self.view_is) refl

pub returns-clause-kept : goal.returns-clause-kept
returns-clause-kept g c = rw (← c.self.view_is) (omega (arith, c.reserve.ensures.capacity))

pub returns-clause-doubles : goal.returns-clause-doubles
returns-clause-doubles g c =
    let members = length-members c.self.invariant in
    on_ok_weaker c.reserve.result (λ room. rw (c.reserve.ensures.items, ← c.self.view_is) (λ _. omega (arith, room, members, c.reserve.ensures.len, c.max.ensures, c.len-2.ensures, c.capacity-2.ensures))) c.reserve.ensures.ok
