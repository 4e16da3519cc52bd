use Rattle.std.proofs.Common.{◌≡◌, Some, refl, sym, ap, ◌∙◌}
use Rattle.std.specs.Option.{option_map}
use Rattle.moka_store.proofs.Ties.{after-row}
use Rattle.moka_store.proofs.Steps.{node-member, member-there, member-row, member-node}
use Rattle.moka_store.specs.Rows.{member_at}
use Rattle.moka_records.specs.declared.records.Member.{Member}
use Rattle.moka_store.proofs.store.Store.next.Goals as goal

pub unreachable-requires : goal.unreachable-requires
unreachable-requires g c =
    member-there _ _ _ _ c.self.invariant.tied _ _ (rw (← c.self.view_is) at c.requires.placed) (rw (← c.self.view_is) at c.requires.member) (sym c.membership.ensures.membership ∙ c.in_default.is)

pub next-requires : goal.next-requires
next-requires g c = member-node _ _ _ _ c.self.invariant.tied _ _ (rw (← c.self.view_is) at c.requires.placed) _ (sym c.membership.ensures.membership ∙ c.in-Some.is)

pub returns-in_err-place-clause-next : goal.returns-in_err-place-clause-next
returns-in_err-place-clause-next g c =
    let w = member-row _ _ _ _ c.self.invariant.tied _ _ (rw (← c.self.view_is) at c.requires.placed) _ (sym c.membership.ensures.membership ∙ c.in-Some.is) in
    let after = after-row _ _ _ _ c.self.invariant.tied _ w.row w.at_is c.in-Some.membership w.membership_is in
    rw (c.from_residual.ensures, ← c.self.view_is, ← w.number_is, after) (ap (option_map (member_at c.self.inside.table.rows)) c.in_err-place.ensures.next)

pub member_at-requires : goal.member_at-requires
member_at-requires g c = rw ((node-member _ _ _ _ c.self.invariant.tied _ _ c.in_ok-place.ensures.found).at_is) refl

pub returns : goal.returns
returns g c =
    let w = member-row _ _ _ _ c.self.invariant.tied _ _ (rw (← c.self.view_is) at c.requires.placed) _ (sym c.membership.ensures.membership ∙ c.in-Some.is) in
    let n = node-member _ _ _ _ c.self.invariant.tied _ _ c.in_ok-place.ensures.found in
    let same = c.member_at.ensures.member _ n.at_is in
    let number : c.member_at.result.0.number ≡ n.row.number = ap (λ (m : Member). m.number) same in
    let after = after-row _ _ _ _ c.self.invariant.tied _ w.row w.at_is c.in-Some.membership w.membership_is in
    record {
      placed = rw (number, c.member_at.ensures.place, ← c.self.view_is) n.place_is;
      member = rw (number, ← c.self.view_is) n.counted_is;
      next = ap Some (same ∙ sym n.member_is) ∙ ap (option_map (member_at c.self.inside.table.rows)) c.in_ok-place.ensures.next ∙ sym after ∙ rw (w.number_is, ← c.self.view_is) refl;
    }
