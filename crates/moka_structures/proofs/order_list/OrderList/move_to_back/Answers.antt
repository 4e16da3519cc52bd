use Rattle.std.proofs.Common.{nat_eq, arith, ap, sym, ◌∙◌}
use Rattle.std.specs.Map.{lookup}
use Rattle.moka_structures.proofs.Orders.{near, value-of, before-any, behind-any, last-detached, moved, distinct-members, length-members}
use Rattle.moka_structures.proofs.Lookups.{lookup-moved}
use Rattle.moka_structures.proofs.order_list.OrderList.move_to_back.Goals as goal

pub relink-requires-clause-slot : goal.relink-requires-clause-slot
relink-requires-clause-slot g c = omega (arith, (near c.self.invariant c.args.slot (rw (← c.self.view_is) at c.requires)).within)

pub relink-requires-clause-before : goal.relink-requires-clause-before
relink-requires-clause-before g c past = omega (arith, before-any c.self.invariant c.args.slot (rw (← c.self.view_is) at c.requires) past)

pub relink-requires-clause-behind : goal.relink-requires-clause-behind
relink-requires-clause-behind g c past = omega (arith, behind-any c.self.invariant c.args.slot (rw (← c.self.view_is) at c.requires) past)

pub relink-requires-clause-last : goal.relink-requires-clause-last
relink-requires-clause-last g c past = omega (arith, last-detached c.self.invariant c.args.slot (rw (← c.self.view_is) at c.requires) past)

pub invariant_of-self : goal.invariant_of-self
invariant_of-self g c =
    let found = value-of c.self.invariant c.args.slot (rw (← c.self.view_is) at c.requires) in
    rw (c.relink.ensures.nodes c.self.inside.blank) (moved c.self.invariant c.args.slot _ found).order

pub returns-clause-members : goal.returns-clause-members
returns-clause-members g c value found =
    rw (c.relink.ensures.nodes c.self.inside.blank, ← c.self.view_is) (moved c.self.invariant c.args.slot value (rw (← c.self.view_is) at found)).members_are

pub returns-clause-lookups : goal.returns-clause-lookups
returns-clause-lookups g c k =
    let found = value-of c.self.invariant c.args.slot (rw (← c.self.view_is) at c.requires) in
    rw (c.relink.ensures.nodes c.self.inside.blank, ← c.self.view_is)
    (ap (lookup (nat_eq k)) (moved c.self.invariant c.args.slot _ found).members_are ∙ lookup-moved _ _ _ k (distinct-members c.self.invariant) found)

pub returns-clause-len : goal.returns-clause-len
returns-clause-len g c =
    let found = value-of c.self.invariant c.args.slot (rw (← c.self.view_is) at c.requires) in
    rw (c.relink.ensures.nodes c.self.inside.blank, ← c.self.view_is)
    (length-members (moved c.self.invariant c.args.slot _ found).order ∙ sym (length-members c.self.invariant))

pub returns-clause-distinct : goal.returns-clause-distinct
returns-clause-distinct g c = rw (← c.self.view_is) (distinct-members c.self.invariant)
