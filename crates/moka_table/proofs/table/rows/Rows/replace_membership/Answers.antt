use Rattle.std.proofs.Common.{map, ap, ◌∙◌, arith, refl}
use Rattle.std.specs.Option.{option_and_then}
use Rattle.slab.specs.Entry.{value_of}
use Rattle.moka_table.specs.RecordTable.{row_at}
use Rattle.moka_table.proofs.TableMaps.{some_is}
use Rattle.moka_table.proofs.RowCalls.{read_there, rewritten, row_within}
use Rattle.moka_table.proofs.table.rows.Rows.replace_membership.Goals as goal

pub index_mut-slot-requires : goal.index_mut-slot-requires
index_mut-slot-requires g c =
    let row = some_is (row_at (map value_of c.self.inside.slots.items) c.args.place) (rw (← c.self.view_is) at c.requires.row) in
    omega (arith, row_within c.self.inside.slots.items c.args.place row.0 row.1)

pub set_membership-requires-clause-row : goal.set_membership-requires-clause-row
set_membership-requires-clause-row g c =
    let row = some_is (row_at (map value_of c.self.inside.slots.items) c.args.place) (rw (← c.self.view_is) at c.requires.row) in
    rw (read_there c.self.inside.slots.items c.args.place _ _ row.1 c.index_mut-slot.ensures.value) refl

pub invariant_of-self : goal.invariant_of-self
invariant_of-self g c =
    let row = some_is _ (rw (← c.self.view_is) at c.requires.row) in
    (rewritten _ _ _ _ _ _ _ _ c.self.invariant row.1 c.index_mut-slot.ensures.value (c.set_membership.ensures row.0)).sound

pub returns : goal.returns
returns g c =
    let row = some_is _ (rw (← c.self.view_is) at c.requires.row) in
    let read = read_there c.self.inside.slots.items c.args.place _ _ row.1 c.index_mut-slot.ensures.value in
    let s = rewritten _ _ _ _ _ _ _ _ c.self.invariant row.1 c.index_mut-slot.ensures.value (c.set_membership.ensures row.0) in
    record {
      old = rw (← c.self.view_is, row.1) (c.membership-old.ensures.membership ∙ ap (λ e. option_and_then (λ row. row.membership) (value_of e)) read);
      changes = rw (← c.self.view_is) (λ row there. (rewritten _ _ _ _ _ _ _ _ c.self.invariant there c.index_mut-slot.ensures.value (c.set_membership.ensures row)).changes);
      length = rw (← c.self.view_is) s.length;
      len = rw (← c.self.view_is) s.count;
      room = rw (← c.self.view_is) refl;
    }
