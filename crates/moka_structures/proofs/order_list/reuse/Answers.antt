use Rattle.std.proofs.Common.{arith, length, length-set, rules, set, slice_index_or, ap, ◌≡◌, ◌<◌, ◌∙◌}
use Rattle.std.proofs.lemmas.List.{get_or_default, with_items_is}
use Rattle.moka_links.specs.declared.Node.{Node}
use Rattle.moka_links.proofs.Nodes.{set-keeps}
use Rattle.moka_structures.specs.Links.{at, attached, befores, blank, with_value}
use Rattle.moka_structures.proofs.order_list.reuse.Goals as goal

pub attach-requires-clause-slot : goal.attach-requires-clause-slot
attach-requires-clause-slot g c = rw length-set (omega arith)

pub attach-requires-clause-head : goal.attach-requires-clause-head
attach-requires-clause-head g c = rw length-set (omega arith)

pub attach-requires-clause-last : goal.attach-requires-clause-last
attach-requires-clause-last g c past =
    let ns = c.as_mut_slice-nodes.result.now in
    let same : length ns ≡ c.args.nodes.now.len = search rules in
    let inside : c.args.slot < length ns = omega (arith, same) in
    let read = get_or_default ns c.args.slot c.index-nodes-slot-2.result (blank past) inside in
    let old = slice_index_or ns c.args.slot c.index-nodes-slot-2.result in
    let v : Node g.row.T.Denot = record { value = c.args.value; before = old.before; behind = old.behind } in
    let keeps = set-keeps past (λ (n : Node g.row.T.Denot). n.before) ns c.args.slot v 0 inside (ap (λ (n : Node g.row.T.Denot). n.before) read) in
    let there = ap (λ ns. befores past ns 0) c.as_mut_slice-nodes.ensures.value in
    omega (arith, c.requires.last past, same, there, keeps, length-set ns c.args.slot v)

pub returns-clause-next : goal.returns-clause-next
returns-clause-next g c past =
    let ns = c.as_mut_slice-nodes.result.now in
    let same : length ns ≡ c.args.nodes.now.len = search rules in
    let read = get_or_default ns c.args.slot c.index-nodes-slot.result (blank past) (omega (arith, same)) in
    ap (λ (n : Node g.row.T.Denot). n.behind) (read ∙ ap (λ ns. at past ns c.args.slot) c.as_mut_slice-nodes.ensures.value)

pub returns-clause-nodes : goal.returns-clause-nodes
returns-clause-nodes g c past =
    let ns = c.as_mut_slice-nodes.result.now in
    let same : length ns ≡ c.args.nodes.now.len = search rules in
    let full : length c.attach.new.nodes ≡ c.args.nodes.now.len = search rules in
    let read = get_or_default ns c.args.slot c.index-nodes-slot-2.result (blank past) (omega (arith, same)) in
    let written = ap (λ (n : Node g.row.T.Denot). set ns c.args.slot (record n { value = c.args.value })) read in
    with_items_is c.args.nodes.now c.attach.new.nodes full
    ∙ c.attach.ensures.nodes past
    ∙ ap (λ ns. attached past ns c.args.slot) (written ∙ ap (λ ns. with_value past ns c.args.slot c.args.value) c.as_mut_slice-nodes.ensures.value)
