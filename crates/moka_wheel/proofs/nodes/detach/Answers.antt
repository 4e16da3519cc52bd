use Rattle.std.proofs.Common.{length, slice_index_or, slice_set, length-set, rules, arith, ap, ◌≡◌, ◌<◌, ◌∙◌}
use Rattle.std.proofs.lemmas.List.{get_or_default, with_items_is}
use Rattle.moka_links.specs.Links as links
use Rattle.moka_wheel.specs.Nodes.{Node, at, blank, nothing, with_bucket}
use Rattle.moka_wheel.proofs.nodes.detach.Goals as goal

pub detach-requires-clause-before : goal.detach-requires-clause-before
detach-requires-clause-before c past =
    let ns = c.args.nodes.now.items in
    let inside : c.args.slot < length ns = omega (arith, c.requires.slot) in
    rw c.as_mut_slice-nodes.ensures.value
    (omega (arith, c.requires.before, ap (λ (n : Node). n.before) (get_or_default ns c.args.slot (links.blank past) blank inside)))

pub detach-requires-clause-behind : goal.detach-requires-clause-behind
detach-requires-clause-behind c past =
    let ns = c.args.nodes.now.items in
    let inside : c.args.slot < length ns = omega (arith, c.requires.slot) in
    rw c.as_mut_slice-nodes.ensures.value
    (omega (arith, c.requires.behind, ap (λ (n : Node). n.behind) (get_or_default ns c.args.slot (links.blank past) blank inside)))

pub returns-clause-nodes : goal.returns-clause-nodes
returns-clause-nodes c =
    let slot = c.args.slot in
    let ms = c.detach.new.nodes in
    let zeros : Node = record { value = record { number = 0; at = 0; bucket = 0 }; before = 0; behind = 0 } in
    let same : length ms ≡ c.args.nodes.now.len = search rules in
    let read : slice_index_or ms slot zeros ≡ at ms slot = get_or_default ms slot zeros blank (omega (arith, same, c.requires.slot)) in
    with_items_is c.args.nodes.now _ (length-set ms slot _ ∙ same)
    ∙ ap (λ (n : Node). slice_set ms slot (record n { value = record n.value { bucket = 2049 } })) read
    ∙ ap (λ ns. with_bucket ns slot 2049) (c.detach.ensures.nodes nothing ∙ ap (λ ns. links.detached nothing ns slot) c.as_mut_slice-nodes.ensures.value)
