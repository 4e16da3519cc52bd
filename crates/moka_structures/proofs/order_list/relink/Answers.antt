use Rattle.std.proofs.Common.{arith, length, rules, ap, ◌≡◌, ◌∙◌}
use Rattle.std.proofs.lemmas.List.{with_items_is}
use Rattle.moka_structures.specs.Links.{attached, befores, detached}
use Rattle.moka_structures.proofs.order_list.relink.Goals as goal

pub returns-clause-nodes : goal.returns-clause-nodes
returns-clause-nodes g c past =
    let same : length c.attach.new.nodes ≡ c.args.nodes.now.len = search rules in
    with_items_is c.args.nodes.now c.attach.new.nodes same
    ∙ c.attach.ensures.nodes past
    ∙ ap (λ ns. attached past ns c.args.slot) (c.detach.ensures.nodes past)
    ∙ ap (λ ns. attached past (detached past ns c.args.slot) c.args.slot) c.as_mut_slice-table.ensures.value

pub attach-requires-clause-last : goal.attach-requires-clause-last
attach-requires-clause-last g c past =
    let same : length c.detach.new.nodes ≡ c.args.nodes.now.len = search rules in
    let there = ap (λ ns. befores past ns 0) (c.detach.ensures.nodes past ∙ ap (λ ns. detached past ns c.args.slot) c.as_mut_slice-table.ensures.value) in
    omega (arith, c.requires.last past, same, there)
