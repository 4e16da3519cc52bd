use Rattle.std.proofs.Common.{Some, refl, sym, ap, ◌∙◌}
use Rattle.moka_store.proofs.Orders.{written-place, written-handle}
use Rattle.moka_store.proofs.Written.{cursor-none, cursor-some}
use Rattle.moka_store.specs.Rows.{cursor_of}
use Rattle.moka_store.proofs.store.Store.cursor.Goals as goal

pub returns-in_err-place-clause-cursor : goal.returns-in_err-place-clause-cursor
returns-in_err-place-clause-cursor g c =
    rw (c.from_residual.ensures, ← c.self.view_is) (sym (cursor-none c.self.inside.table.rows c.self.inside.written.nodes) ∙ ap (cursor_of c.self.inside.table.rows) c.in_err-place.ensures.cursor)

pub handle_at-requires : goal.handle_at-requires
handle_at-requires g c = rw ((written-place _ _ _ _ c.self.invariant.tied c.self.inside.written c.self.invariant.written _ _ c.in_ok-place.ensures.found).at_is) refl

pub returns : goal.returns
returns g c =
    let n = written-place _ _ _ _ c.self.invariant.tied c.self.inside.written c.self.invariant.written _ _ c.in_ok-place.ensures.found in
    record {
      ordered = rw (← c.self.view_is) (written-handle _ _ _ _ c.self.invariant.tied _ c.self.inside.timers _ _ _ c.self.inside.written c.self.invariant.written _ _ c.in_ok-place.ensures.found c.handle_at.result c.handle_at.ensures.place c.handle_at.ensures.number);
      cursor = ap Some (c.handle_at.ensures.number _ n.at_is ∙ sym n.number_is) ∙ sym (cursor-some c.self.inside.table.rows c.self.inside.written.nodes _) ∙ ap (cursor_of c.self.inside.table.rows) c.in_ok-place.ensures.cursor ∙ rw (← c.self.view_is) refl;
    }
