use Rattle.std.proofs.Common.{refl}
use Rattle.moka_structures.proofs.Orders.{sole}
use Rattle.moka_structures.proofs.order_list.OrderList.new.Goals as goal

pub invariant_of-result : goal.invariant_of-result
invariant_of-result g c = rw (c.push_reserved.ensures.items, c.in_ok-nodes.ensures.items) (sole _ _ refl refl)
