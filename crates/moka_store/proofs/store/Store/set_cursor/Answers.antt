use Rattle.std.proofs.Common.{refl, ap, ◌∙◌}
use Rattle.std.specs.Option.{option_map, option_and_then}
use Rattle.moka_records.specs.Records.{is_listed}
use Rattle.moka_store.proofs.Steps.{placed}
use Rattle.moka_store.proofs.Written.{cursor-none, cursor-at}
use Rattle.moka_store.specs.Rows.{written_in, written_of}
use Rattle.moka_store.proofs.store.Store.set_cursor.Goals as goal

pub returns-in_default : goal.returns-in_default
returns-in_default g c =
    rw (c.set_cursor.ensures.step, cursor-none c.self.inside.table.rows c.self.inside.written.nodes, c.in_default.is, ← c.self.view_is) refl

pub returns : goal.returns
returns g c =
    let placed_is = rw c.in-Some.is at c.requires.placed in
    let listed_is = rw c.in-Some.is at c.requires.listed in
    let w = placed _ _ _ _ c.self.invariant.tied _ _ (rw (← c.self.view_is) at placed_is) in
    let node = c.written_node-node.ensures ∙ ap (λ o. option_map (λ slot. (slot, c.in-Some.handle.place)) (option_and_then written_in o)) w.at_is in
    let listed = ap (λ n. is_listed n (written_of c.self.inside.table.rows c.self.inside.written.nodes)) w.number_is ∙ (rw (← c.self.view_is) at listed_is) in
    let at = cursor-at c.self.inside.table.rows c.self.inside.written.nodes c.self.invariant.written.listed c.self.invariant.tied.numbered _ w.row w.at_is _ node listed in
    rw (c.set_cursor-2.ensures.step, at, w.number_is, c.in-Some.is, ← c.self.view_is) refl
