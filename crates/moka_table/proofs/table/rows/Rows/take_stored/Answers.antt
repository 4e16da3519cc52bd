use Rattle.std.proofs.Common.{ap, sym, ◌∙◌, arith, refl}
use Rattle.std.specs.Option.{option_and_then}
use Rattle.slab.specs.Entry.{value_of}
use Rattle.moka_table.proofs.TableCalls.{stored_row}
use Rattle.moka_table.proofs.RowCalls.{read_there, rewritten, row_within}
use Rattle.moka_table.proofs.table.rows.Rows.take_stored.Goals as goal

pub index_mut-requires : goal.index_mut-requires
index_mut-requires g c =
    let row = stored_row _ c.args.place (rw (← c.self.view_is) at c.requires) in
    omega (arith, row_within c.self.inside.slots.items c.args.place row.0 row.2)

pub take-requires : goal.take-requires
take-requires g c =
    let row = stored_row _ c.args.place (rw (← c.self.view_is) at c.requires) in
    let read = read_there c.self.inside.slots.items c.args.place _ _ row.2 c.index_mut.ensures.value in
    rw (read, row.3) refl

pub invariant_of-self : goal.invariant_of-self
invariant_of-self g c =
    let row = stored_row _ c.args.place (rw (← c.self.view_is) at c.requires) in
    (rewritten _ _ _ _ _ _ _ _ c.self.invariant row.2 c.index_mut.ensures.value (c.take.ensures.left row.0)).sound

pub returns : goal.returns
returns g c =
    let row = stored_row _ c.args.place (rw (← c.self.view_is) at c.requires) in
    let read = read_there c.self.inside.slots.items c.args.place _ _ row.2 c.index_mut.ensures.value in
    let s = rewritten _ _ _ _ _ _ _ _ c.self.invariant row.2 c.index_mut.ensures.value (c.take.ensures.left row.0) in
    record {
      number = rw (← c.self.view_is, row.2) (sym (c.take.ensures.number row.0 read));
      taken = rw (← c.self.view_is, row.2) (sym (ap (λ e. option_and_then (λ row. row.stored) (value_of e)) read) ∙ c.take.ensures.taken);
      changes = rw (← c.self.view_is) (λ row there. (rewritten _ _ _ _ _ _ _ _ c.self.invariant there c.index_mut.ensures.value (c.take.ensures.left row)).changes);
      length = rw (← c.self.view_is) s.length;
      len = rw (← c.self.view_is) s.count;
      room = rw (← c.self.view_is) refl;
    }
