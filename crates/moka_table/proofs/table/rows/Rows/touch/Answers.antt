use Rattle.moka_table.specs.RecordTable.{row_at}
use Rattle.slab.specs.Entry.{value_of}
use Rattle.std.proofs.Common.{refl, arith, ◌≡◌, map, Some, ap, sym, ◌∙◌}
use Rattle.moka_table.proofs.TableCalls.{stored_row}
use Rattle.moka_table.proofs.RowCalls.{read_there, rewritten, row_within}
use Rattle.moka_table.proofs.table.rows.Rows.touch.Goals as goal

pub index_mut-requires : goal.index_mut-requires
index_mut-requires g c =
    let row = stored_row _ c.args.place (rw (← c.self.view_is) at c.requires.stored) in
    omega (arith, row_within c.self.inside.slots.items c.args.place row.0 row.2)

pub touch-requires : goal.touch-requires
touch-requires g c =
    let own = stored_row _ c.args.place (rw (← c.self.view_is) at c.requires.stored) in
    let read = read_there c.self.inside.slots.items c.args.place _ _ own.2 c.index_mut.ensures.value in
    record {
      stored = rw (read, own.3) refl;
      kept = λ same row f is stored.
          let there : row_at (map value_of c.self.inside.slots.items) c.args.place ≡ Some row = own.2 ∙ ap value_of (sym read ∙ is) in
          (rw (← c.self.view_is) at c.requires.kept) same f (rw there stored);
    }

pub invariant_of-self : goal.invariant_of-self
invariant_of-self g c =
    let row = stored_row _ c.args.place (rw (← c.self.view_is) at c.requires.stored) in
    (rewritten _ _ _ _ _ _ _ _ c.self.invariant row.2 c.index_mut.ensures.value (λ read. c.touch.ensures row.0 row.1 read row.3)).sound

pub returns : goal.returns
returns g c = record {
  rows = λ f is.
      let row = stored_row _ c.args.place (rw (← c.self.view_is) at c.requires.stored) in
      let own = rw (← c.self.view_is, row.2) at is in
      rw (← c.self.view_is, row.2) (rewritten _ _ _ _ _ _ _ _ c.self.invariant row.2 c.index_mut.ensures.value (λ read. c.touch.ensures row.0 f read own)).rows;
  room = rw (← c.self.view_is) refl;
}
