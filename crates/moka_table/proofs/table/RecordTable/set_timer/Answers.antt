use Rattle.std.proofs.Common.{refl, sym, ◌∙◌, arith}
use Rattle.moka_table.proofs.ColdRows.{count-whole, keeps, keeps-row, beside_after, whole-step}
use Rattle.moka_table.proofs.WholeMaps.{whole-timed}
use Rattle.moka_table.proofs.table.RecordTable.set_timer.Goals as goal

pub replace_timer-requires-clause-row : goal.replace_timer-requires-clause-row
replace_timer-requires-clause-row g c = keeps-row _ _ _ (rw (← c.self.view_is) at c.requires.row)

pub invariant_of-self : goal.invariant_of-self
invariant_of-self g c =
    let s = whole-timed _ _ _ _ c.self.invariant.numbered c.args.timer (rw (← c.self.view_is) at c.requires.row) c.replace_timer.ensures.changes in
    beside_after _ _ _ _ _ _ c.self.invariant c.replace_timer.ensures.length refl (omega (arith, c.replace_timer.ensures.len, c.replace_timer.ensures.room)) s.numbered

pub returns : goal.returns
returns g c =
    let s = whole-timed _ _ _ _ c.self.invariant.numbered c.args.timer (rw (← c.self.view_is) at c.requires.row) c.replace_timer.ensures.changes in
    record {
      old = rw (← c.self.view_is) (c.replace_timer.ensures.old ∙ sym (keeps _ _ _ (λ row. row.timer) (λ row. row.timer) (λ cold row. refl)));
      slot = c.replace_timer.ensures.slot;
      changes = rw (← c.self.view_is) (whole-step c.self.inside.rows.rows c.self.inside.cold.items c.args.place c.replace_timer.new.self.rows (λ row. record row { timer = c.args.timer }) (λ row. record row { timer = c.args.timer }) (λ cold row. refl) c.replace_timer.ensures.changes);
      records = rw (← c.self.view_is) s.records_is;
      counted = rw (← c.self.view_is) s.counted_is;
      places = rw (← c.self.view_is) s.places_is;
      len = rw (← c.self.view_is) (count-whole _ _ ∙ c.replace_timer.ensures.len ∙ sym (count-whole c.self.inside.rows.rows c.self.inside.cold.items));
      room = rw (← c.self.view_is) (omega (arith, c.replace_timer.ensures.len));
    }
