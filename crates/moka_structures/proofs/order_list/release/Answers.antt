use Rattle.std.proofs.Common.{length, length-set, rules, set, ap, arith, ◌≡◌, ◌<◌, ◌∙◌}
use Rattle.std.proofs.lemmas.List.{get_or_default, with_items_is}
use Rattle.moka_links.specs.declared.Node.{Node}
use Rattle.moka_structures.specs.Links.{blank, detached, with_behind}
use Rattle.moka_structures.proofs.order_list.release.Goals as goal

pub returns-clause-nodes : goal.returns-clause-nodes
returns-clause-nodes g c past =
    let ns = c.detach.new.nodes in
    let is = c.detach.ensures.nodes past ∙ ap (λ ns. detached past ns c.args.slot) c.as_mut_slice-nodes.ensures.value in
    let same : length ns ≡ c.args.nodes.now.len = search rules in
    let inside : c.args.slot < length ns = omega (arith, same) in
    let read = get_or_default ns c.args.slot c.index-nodes-slot.result (blank past) inside in
    let written = ap (λ (n : Node g.row.T.Denot). set ns c.args.slot (record n { behind = c.args.free })) read in
    with_items_is c.args.nodes.now _ (length-set ns c.args.slot _ ∙ same)
    ∙ written
    ∙ ap (λ ns. with_behind past ns c.args.slot c.args.free) is
