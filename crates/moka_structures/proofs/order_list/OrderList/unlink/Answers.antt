use Rattle.std.proofs.Common.{Some, nat_eq, arith, sym, ap, ◌∙◌}
use Rattle.std.proofs.lemmas.List.{get_or_read}
use Rattle.std.specs.Map.{lookup}
use Rattle.moka_links.specs.declared.Node.{Node}
use Rattle.moka_structures.specs.Links.{blank}
use Rattle.moka_structures.proofs.Orders.{near, value-of, before-any, behind-any, unlinked, distinct-members, length-members, placed}
use Rattle.moka_structures.proofs.Lookups.{lookup-without}
use Rattle.moka_structures.proofs.order_list.OrderList.unlink.Goals as goal

pub release-requires-clause-slot : goal.release-requires-clause-slot
release-requires-clause-slot g c = omega (arith, (near c.self.invariant c.args.slot (rw (← c.self.view_is) at c.requires)).within)

pub release-requires-clause-before : goal.release-requires-clause-before
release-requires-clause-before g c past = omega (arith, before-any c.self.invariant c.args.slot (rw (← c.self.view_is) at c.requires) past)

pub release-requires-clause-behind : goal.release-requires-clause-behind
release-requires-clause-behind g c past = omega (arith, behind-any c.self.invariant c.args.slot (rw (← c.self.view_is) at c.requires) past)

pub index-requires : goal.index-requires
index-requires g c = omega (arith, (near c.self.invariant c.args.slot (rw (← c.self.view_is) at c.requires)).within)

pub invariant_of-self : goal.invariant_of-self
invariant_of-self g c = rw (c.release.ensures.nodes c.self.inside.blank) (unlinked c.self.invariant c.args.slot (rw (← c.self.view_is) at c.requires)).order

pub returns-clause-value : goal.returns-clause-value
returns-clause-value g c =
    let req = rw (← c.self.view_is) at c.requires in
    let read = get_or_read c.self.inside.nodes.items c.args.slot c.index.result.now (near c.self.invariant c.args.slot req).within c.index.ensures (blank c.self.inside.blank) in
    rw (← c.self.view_is) (value-of c.self.invariant c.args.slot req ∙ ap (λ (n : Node g.row.T.Denot). Some n.value) (sym read))

pub returns-clause-members : goal.returns-clause-members
returns-clause-members g c =
    rw (c.release.ensures.nodes c.self.inside.blank, ← c.self.view_is) (unlinked c.self.invariant c.args.slot (rw (← c.self.view_is) at c.requires)).members_are

pub returns-clause-distinct : goal.returns-clause-distinct
returns-clause-distinct g c = rw (← c.self.view_is) (distinct-members c.self.invariant)

pub returns-clause-lookups : goal.returns-clause-lookups
returns-clause-lookups g c k =
    ap (lookup (nat_eq k)) (returns-clause-members g c) ∙ lookup-without _ _ k (returns-clause-distinct g c)

pub returns-clause-len : goal.returns-clause-len
returns-clause-len g c =
    let o = c.self.invariant in
    let req = rw (← c.self.view_is) at c.requires in
    rw (c.release.ensures.nodes c.self.inside.blank, ← c.self.view_is)
    (omega (arith, length-members (unlinked o c.args.slot req).order, length-members o, (placed o c.args.slot req).within, o.counted))
