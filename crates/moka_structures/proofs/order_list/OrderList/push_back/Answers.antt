use Rattle.std.proofs.Common.{◌≡◌, ◌<◌, ◌^◌, [], ◌∷◌, length, nat_eq, arith, ap, ◌∙◌}
use Rattle.std.proofs.lemmas.List.{get_or_append_left, length_push}
use Rattle.std.specs.Map.{lookup}
use Rattle.moka_links.specs.declared.Node.{Node}
use Rattle.moka_structures.specs.Links.{befores, blank}
use Rattle.moka_structures.specs.OrderList.{Order}
use Rattle.moka_structures.proofs.Orders.{reused, appended, free-fresh, free-positive, new-fresh, fits, last-any, length-members, distinct-members}
use Rattle.moka_structures.proofs.Lookups.{lookup-pushed}
use Rattle.moka_structures.proofs.order_list.OrderList.push_back.Goals as goal

-- ---- a free node

pub reuse-self-inside-requires-clause-last : goal.reuse-self-inside-requires-clause-last
reuse-self-inside-requires-clause-last g c past = omega (arith, last-any c.self.invariant past)

pub invariant_of-self : goal.invariant_of-self
invariant_of-self g c =
    rw (c.reuse-self-inside.ensures.nodes c.self.inside.blank, c.reuse-self-inside.ensures.next c.self.inside.blank) (reused c.self.invariant c.args.value (omega arith)).order

pub returns-then-self-len-clause-fresh : goal.returns-then-self-len-clause-fresh
returns-then-self-len-clause-fresh g c = rw (← c.self.view_is) (free-fresh c.self.invariant (omega arith))

pub returns-then-self-len-clause-positive : goal.returns-then-self-len-clause-positive
returns-then-self-len-clause-positive g c = free-positive c.self.invariant (omega arith)

pub returns-then-self-len-clause-members : goal.returns-then-self-len-clause-members
returns-then-self-len-clause-members g c =
    rw (c.reuse-self-inside.ensures.nodes c.self.inside.blank, ← c.self.view_is) (reused c.self.invariant c.args.value (omega arith)).members_are

pub returns-then-self-len-clause-len : goal.returns-then-self-len-clause-len
returns-then-self-len-clause-len g c = ap length (returns-then-self-len-clause-members g c) ∙ length_push _ _

pub returns-then-self-len-clause-few : goal.returns-then-self-len-clause-few
returns-then-self-len-clause-few g c =
    let i = c.self.invariant in
    omega (arith, returns-then-self-len-clause-len g c, ap (λ (o : Order g.row.T.Denot). length o.members) c.self.view_is, length-members i, i.counted, i.total, i.bounded)

pub returns-then-self-len-clause-lookups : goal.returns-then-self-len-clause-lookups
returns-then-self-len-clause-lookups g c k =
    ap (lookup (nat_eq k)) (returns-then-self-len-clause-members g c) ∙ lookup-pushed _ _ _ k (returns-then-self-len-clause-fresh g c)

pub returns-then-self-len-clause-distinct : goal.returns-then-self-len-clause-distinct
returns-then-self-len-clause-distinct g c = rw (← c.self.view_is) (distinct-members c.self.invariant)

-- ---- a new node

pub push_reserved-requires : goal.push_reserved-requires
push_reserved-requires g c =
    let req = rw (← c.self.view_is) at c.requires in
    omega (arith, req, length-members c.self.invariant)

pub append-requires-clause-last : goal.append-requires-clause-last
append-requires-clause-last g c past =
    let ns = c.self.inside.nodes.items in
    let v : Node g.row.T.Denot = record { value = c.args.value; before = 0; behind = 0 } in
    let same : befores past c.push_reserved.new.self.items 0 ≡ befores past ns 0 =
    ap (λ ns. befores past ns 0) c.push_reserved.ensures.items ∙ ap (λ n. n.before) (get_or_append_left ns (v ∷ []) (blank past) 0 (omega (arith, fits c.self.invariant))) in
    omega (arith, same, last-any c.self.invariant past)

pub invariant_of-self-2 : goal.invariant_of-self-2
invariant_of-self-2 g c =
    let req = rw (← c.self.view_is) at c.requires in
    let small : length c.self.inside.nodes.items < 2 ^ 32 = omega arith in
    let slot : c.len-slot.result ≡ length c.self.inside.nodes.items = omega arith in
    rw (c.append.ensures.nodes c.self.inside.blank, c.push_reserved.ensures.items, slot) (appended c.self.invariant _ small).order

pub returns-clause-fresh : goal.returns-clause-fresh
returns-clause-fresh g c =
    let slot : c.len-slot.result ≡ length c.self.inside.nodes.items = omega arith in
    rw (slot, ← c.self.view_is) (new-fresh c.self.invariant)

pub returns-clause-positive : goal.returns-clause-positive
returns-clause-positive g c = omega (arith, fits c.self.invariant)

pub returns-clause-members : goal.returns-clause-members
returns-clause-members g c =
    let req = rw (← c.self.view_is) at c.requires in
    let small : length c.self.inside.nodes.items < 2 ^ 32 = omega arith in
    let slot : c.len-slot.result ≡ length c.self.inside.nodes.items = omega arith in
    rw (c.append.ensures.nodes c.self.inside.blank, c.push_reserved.ensures.items, slot, ← c.self.view_is) (appended c.self.invariant _ small).members_are

pub returns-clause-len : goal.returns-clause-len
returns-clause-len g c = ap length (returns-clause-members g c) ∙ length_push _ _

pub returns-clause-few : goal.returns-clause-few
returns-clause-few g c =
    let i = c.self.invariant in
    let req = rw (← c.self.view_is) at c.requires in
    let small : length c.self.inside.nodes.items < 2 ^ 32 = omega arith in
    omega (arith, returns-clause-len g c, ap (λ (o : Order g.row.T.Denot). length o.members) c.self.view_is, length-members i, small, fits i)

pub returns-clause-lookups : goal.returns-clause-lookups
returns-clause-lookups g c k = ap (lookup (nat_eq k)) (returns-clause-members g c) ∙ lookup-pushed _ _ _ k (returns-clause-fresh g c)

pub returns-clause-distinct : goal.returns-clause-distinct
returns-clause-distinct g c = rw (← c.self.view_is) (distinct-members c.self.invariant)
