use Rattle.std.proofs.Common.{◌≡◌, Some, refl, sym, ap, ◌∙◌}
use Rattle.std.specs.Option.{option_map}
use Rattle.moka_store.proofs.Nodes.{get-map}
use Rattle.moka_store.proofs.Steps.{node-member}
use Rattle.moka_store.specs.Rows.{member_at}
use Rattle.moka_records.specs.declared.records.Member.{Member}
use Rattle.moka_store.proofs.store.Store.front.Goals as goal

pub member_at-requires : goal.member_at-requires
member_at-requires g c =
    rw ((node-member _ _ _ _ c.self.invariant.tied _ _ c.in_ok-place.ensures.found).at_is) refl

pub returns : goal.returns
returns g c =
    let n = node-member _ _ _ _ c.self.invariant.tied _ _ c.in_ok-place.ensures.found in
    let same = c.member_at.ensures.member _ n.at_is in
    let number : c.member_at.result.0.number ≡ n.row.number = ap (λ (m : Member). m.number) same in
    record {
      placed = rw (number, c.member_at.ensures.place, ← c.self.view_is) n.place_is;
      member = rw (number, ← c.self.view_is) n.counted_is;
      front = ap Some (same ∙ sym n.member_is) ∙ ap (option_map (member_at c.self.inside.table.rows)) c.in_ok-place.ensures.front ∙ sym (get-map (member_at c.self.inside.table.rows) c.self.inside.access.members) ∙ rw (← c.self.view_is) refl;
    }
