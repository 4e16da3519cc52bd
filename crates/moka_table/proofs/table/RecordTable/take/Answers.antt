use Rattle.std.proofs.Common.{None, Some, refl, sym, ap, ◌∙◌, arith}
use Rattle.moka_records.specs.RecordParts.{joined}
use Rattle.moka_table.proofs.ColdRows.{count-whole, keeps-stored, stored-lent, whole-step, beside_after}
use Rattle.moka_table.proofs.WholeMaps.{whole-taken}
use Rattle.moka_table.proofs.table.RecordTable.take.Goals as goal

pub take_stored-number-requires : goal.take_stored-number-requires
take_stored-number-requires g c = keeps-stored _ _ _ (rw (← c.self.view_is) at c.requires)

pub invariant_of-self : goal.invariant_of-self
invariant_of-self g c =
    let s = whole-taken _ _ _ _ c.self.invariant.numbered (rw (← c.self.view_is) at c.requires) c.take_stored-number.ensures.changes in
    beside_after _ _ _ _ _ _ c.self.invariant c.take_stored-number.ensures.length refl (omega (arith, c.take_stored-number.ensures.len, c.take_stored-number.ensures.room)) s.numbered

pub returns : goal.returns
returns g c =
    let s = whole-taken _ _ _ _ c.self.invariant.numbered (rw (← c.self.view_is) at c.requires) c.take_stored-number.ensures.changes in
    let lent = stored-lent c.self.inside.rows c.self.inside.cold.items _ _ c.args.place c.self.invariant c.take_stored-number.result.1 c.index.result.now c.take_stored-number.ensures.taken c.index.ensures in
    record {
      taken = rw (← c.self.view_is) (lent ∙ ap Some (ap (λ n. joined n c.take_stored-number.result.1 c.index.result.now) (sym c.take_stored-number.ensures.number) ∙ sym c.join.ensures));
      changes = rw (← c.self.view_is) (whole-step c.self.inside.rows.rows c.self.inside.cold.items c.args.place c.take_stored-number.new.self.rows (λ row. record row { stored = None }) (λ row. record row { stored = None }) (λ cold row. refl) c.take_stored-number.ensures.changes);
      records = rw (← c.self.view_is) s.records_is;
      counted = rw (← c.self.view_is) s.counted_is;
      places = rw (← c.self.view_is) s.places_is;
      len = rw (← c.self.view_is) (count-whole _ _ ∙ c.take_stored-number.ensures.len ∙ sym (count-whole c.self.inside.rows.rows c.self.inside.cold.items));
      room = rw (← c.self.view_is) (omega (arith, c.take_stored-number.ensures.len));
    }
