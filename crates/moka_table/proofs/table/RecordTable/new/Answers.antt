use Rattle.std.proofs.Common.{ap, arith}
use Rattle.moka_table.specs.RecordTable.{Table}
use Rattle.moka_table.proofs.ColdRows.{whole-empty, beside-empty}
use Rattle.moka_table.proofs.TableCalls.{shows-empty}
use Rattle.moka_table.proofs.table.RecordTable.new.Goals as goal

pub invariant_of-result : goal.invariant_of-result
invariant_of-result g c = beside-empty {K = g.row.K.Denot} {V = g.row.V.Denot} c.new.result c.new-2.result.items _ c.new.ensures (omega arith)

pub returns : goal.returns
returns g c =
    let none = whole-empty _ _ (ap (λ (t : Table _). t.rows) c.new.ensures) in
    let s = shows-empty _ none in
    record { rows = none; records = s.records_is; counted = s.counted_is; places = s.places_is; room = omega arith }
