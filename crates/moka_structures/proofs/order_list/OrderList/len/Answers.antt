use Rattle.std.proofs.Common.{sym, arith}
use Rattle.moka_structures.proofs.Orders.{length-members}
use Rattle.moka_structures.proofs.order_list.OrderList.len.Goals as goal

pub returns-clause-value : goal.returns-clause-value
returns-clause-value g c = rw (← c.self.view_is) (sym (length-members c.self.invariant))

pub returns-clause-few : goal.returns-clause-few
returns-clause-few g c =
    let i = c.self.invariant in
    omega (arith, i.counted, i.total, i.bounded)
