use Rattle.std.proofs.Common.{Some, None, refl, sym, ap, ◌∙◌}
use Rattle.std.specs.Option.{option_and_then}
use Rattle.moka_store.proofs.Orders.{slot-there, written-place, written-handle}
use Rattle.moka_store.proofs.Steps.{placed}
use Rattle.moka_store.proofs.Written.{number-next}
use Rattle.moka_store.specs.Rows.{written_in}
use Rattle.moka_store.proofs.store.Store.next_written.Goals as goal

pub next-requires : goal.next-requires
next-requires g c =
    let w = placed _ _ _ _ c.self.invariant.tied _ _ (rw (← c.self.view_is) at c.requires.placed) in
    let is = sym (c.written_slot-slot.ensures ∙ ap (option_and_then written_in) w.at_is) in
    slot-there c.self.inside.table.rows c.self.inside.written c.self.invariant.written _ w.row w.at_is _ is

pub returns-in_err-place-clause-next : goal.returns-in_err-place-clause-next
returns-in_err-place-clause-next g c =
    let w = placed _ _ _ _ c.self.invariant.tied _ _ (rw (← c.self.view_is) at c.requires.placed) in
    let is = sym (c.written_slot-slot.ensures ∙ ap (option_and_then written_in) w.at_is) in
    rw (c.from_residual.ensures, ← c.self.view_is, ← w.number_is) (number-next c.self.inside.table.rows c.self.inside.written.nodes c.self.invariant.written.listed c.self.invariant.tied.numbered _ w.row w.at_is _ is None c.in_err-place.ensures.next c.in_err-place.ensures.absent)

pub handle_at-requires : goal.handle_at-requires
handle_at-requires g c = rw ((written-place _ _ _ _ c.self.invariant.tied c.self.inside.written c.self.invariant.written _ _ c.in_ok-place.ensures.found).at_is) refl

pub returns : goal.returns
returns g c =
    let w = placed _ _ _ _ c.self.invariant.tied _ _ (rw (← c.self.view_is) at c.requires.placed) in
    let is = sym (c.written_slot-slot.ensures ∙ ap (option_and_then written_in) w.at_is) in
    let n = written-place _ _ _ _ c.self.invariant.tied c.self.inside.written c.self.invariant.written _ _ c.in_ok-place.ensures.found in
    record {
      ordered = rw (← c.self.view_is) (written-handle _ _ _ _ c.self.invariant.tied _ c.self.inside.timers _ _ _ c.self.inside.written c.self.invariant.written _ _ c.in_ok-place.ensures.found c.handle_at.result c.handle_at.ensures.place c.handle_at.ensures.number);
      next = ap Some (c.handle_at.ensures.number _ n.at_is ∙ sym n.number_is)
          ∙ number-next c.self.inside.table.rows c.self.inside.written.nodes c.self.invariant.written.listed c.self.invariant.tied.numbered _ w.row w.at_is _ is _ c.in_ok-place.ensures.next c.in_ok-place.ensures.absent
          ∙ rw (w.number_is, ← c.self.view_is) refl;
    }
