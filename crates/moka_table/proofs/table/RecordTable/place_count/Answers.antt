use Rattle.std.proofs.Common.{arith}
use Rattle.moka_table.proofs.ColdRows.{length-whole}
use Rattle.moka_table.proofs.table.RecordTable.place_count.Goals as goal

pub returns : goal.returns
returns g c =
    let many = length-whole c.self.inside.rows.rows c.self.inside.cold.items in
    rw (← c.self.view_is) (omega (arith, many, c.len.ensures, c.self.invariant.beside))
