use Rattle.std.proofs.Common.{arith}
use Rattle.moka_table.proofs.ColdRows.{count-whole, length-whole, few}
use Rattle.moka_table.proofs.table.RecordTable.capacity.Goals as goal

pub returns : goal.returns
returns g c =
    let counted = count-whole c.self.inside.rows.rows c.self.inside.cold.items in
    let many = length-whole c.self.inside.rows.rows c.self.inside.cold.items in
    record {
      value = rw (← c.self.view_is) (omega (arith, counted, few _ _ _ _ c.self.invariant));
      places = rw (← c.self.view_is) (omega (arith, many, c.self.invariant.beside, c.self.invariant.places));
    }
