use Rattle.moka_table.proofs.RowCalls.{row_lent}
use Rattle.moka_table.proofs.table.rows.Rows.at.Goals as goal

pub returns : goal.returns
returns g c =
    rw (← c.self.view_is) (row_lent c.self.inside.slots.items c.args.place c.get.result (rw c.deref.ensures.value at c.get.ensures.lookup))
