use Rattle.std.proofs.Common.{sym, ap, ◌∙◌}
use Rattle.std.specs.FinMap as finite
use Rattle.std.specs.Option.{option_and_then}
use Rattle.moka_table.specs.RecordTable.{Row, records_of}
use Rattle.moka_table.proofs.TableCalls.{get-records, placed_row}
use Rattle.moka_records.specs.declared.records.Record.{Record}
use Rattle.moka_store.proofs.Places.{stored-own}
use Rattle.moka_store.proofs.store.Store.record_at.Goals as goal

pub returns : goal.returns
returns g c =
    let rows = c.self.inside.table.rows in
    let tied = c.self.invariant.tied in
    record {
      found = rw (← c.self.view_is) (λ n there.
          (let w = placed_row rows tied.numbered c.args.place n there in
          c.record.ensures ∙ ap (option_and_then (λ (row : Row (Record g.row.K.Denot g.row.V.Denot)). row.stored)) w.1 ∙ sym (get-records rows tied.numbered c.args.place w.0 w.1) ∙ ap (finite.get (records_of rows)) w.2));
      stored = rw (← c.self.view_is) (stored-own g.K.PartialEq.eq rows _ _ tied c.args.place c.record.result c.record.ensures);
    }
