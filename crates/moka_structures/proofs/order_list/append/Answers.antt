use Rattle.std.proofs.Common.{length, rules, ap, ◌≡◌, ◌∙◌}
use Rattle.std.proofs.lemmas.List.{with_items_is}
use Rattle.moka_structures.specs.Links.{attached}
use Rattle.moka_structures.proofs.order_list.append.Goals as goal

pub returns-clause-nodes : goal.returns-clause-nodes
returns-clause-nodes g c past =
    let same : length c.attach.new.nodes ≡ c.args.nodes.now.len = search rules in
    with_items_is c.args.nodes.now c.attach.new.nodes same
    ∙ c.attach.ensures.nodes past
    ∙ ap (λ ns. attached past ns c.args.slot) c.as_mut_slice.ensures.value
