use Rattle.std.proofs.Common.{refl, ap, arith, is_some, None}
use Rattle.moka_table.proofs.ColdRows.{count-whole, few, keeps-row, front-changes, beside_after}
use Rattle.moka_table.proofs.TableCalls.{shows-forgotten}
use Rattle.moka_table.proofs.table.RecordTable.forget.Goals as goal

pub remove-requires : goal.remove-requires
remove-requires g c = keeps-row _ _ _ (ap is_some (rw (← c.self.view_is) at c.requires))

pub invariant_of-self : goal.invariant_of-self
invariant_of-self g c =
    let w = rw (← c.self.view_is) at c.requires in
    let s = shows-forgotten _ _ _ c.self.invariant.numbered _ w refl refl (front-changes c.self.inside.rows.rows c.self.inside.cold.items c.args.place c.remove.new.self.rows None c.remove.ensures.changes) in
    beside_after _ _ _ _ _ _ c.self.invariant c.remove.ensures.length refl (omega (arith, c.remove.ensures.len, c.remove.ensures.room)) s.numbered

pub returns : goal.returns
returns g c =
    let changes = front-changes c.self.inside.rows.rows c.self.inside.cold.items c.args.place c.remove.new.self.rows None c.remove.ensures.changes in
    let s = shows-forgotten _ _ _ c.self.invariant.numbered _ (rw (← c.self.view_is) at c.requires) refl refl changes in
    let was = count-whole c.self.inside.rows.rows c.self.inside.cold.items in
    let now = count-whole c.remove.new.self.rows c.self.inside.cold.items in
    record {
      changes = rw (← c.self.view_is) changes;
      records = rw (← c.self.view_is) s.records_is;
      counted = rw (← c.self.view_is) s.counted_is;
      places = rw (← c.self.view_is) s.places_is;
      len = rw (← c.self.view_is) (omega (arith, was, now, c.remove.ensures.len));
      room = rw (← c.self.view_is) (omega (arith, c.remove.ensures.len, few _ _ _ _ c.self.invariant));
    }
