use Rattle.std.proofs.Common.{arith, refl}
use Rattle.moka_table.proofs.TableCalls.{stored_row}
use Rattle.moka_table.proofs.RowCalls.{read_there, rewritten, row_within}
use Rattle.moka_table.proofs.table.rows.Rows.replace_value.Goals as goal

pub index_mut-requires : goal.index_mut-requires
index_mut-requires g c =
    let row = stored_row _ c.args.place (rw (← c.self.view_is) at c.requires) in
    omega (arith, row_within c.self.inside.slots.items c.args.place row.0 row.2)

pub invariant_of-self : goal.invariant_of-self
invariant_of-self g c =
    let row = stored_row _ c.args.place (rw (← c.self.view_is) at c.requires) in
    (rewritten _ _ _ _ _ _ _ _ c.self.invariant row.2 c.index_mut.ensures.value (λ read. c.replace_value.ensures.new row.0 row.1 read row.3)).sound

pub replace_value-requires : goal.replace_value-requires
replace_value-requires g c =
    let row = stored_row _ c.args.place (rw (← c.self.view_is) at c.requires) in
    let read = read_there c.self.inside.slots.items c.args.place _ _ row.2 c.index_mut.ensures.value in
    rw (read, row.3) refl

pub returns : goal.returns
returns g c =
    let row = stored_row _ c.args.place (rw (← c.self.view_is) at c.requires) in
    let read = read_there c.self.inside.slots.items c.args.place _ _ row.2 c.index_mut.ensures.value in
    record {
      value = λ f is. c.replace_value.ensures.value row.0 f read (rw (← c.self.view_is, row.2) at is);
      rows = λ f is.
          let own = rw (← c.self.view_is, row.2) at is in
          rw (← c.self.view_is, row.2) (rewritten _ _ _ _ _ _ _ _ c.self.invariant row.2 c.index_mut.ensures.value (λ read. c.replace_value.ensures.new row.0 f read own)).rows;
      room = rw (← c.self.view_is) refl;
    }
