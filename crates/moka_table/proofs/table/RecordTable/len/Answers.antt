use Rattle.std.proofs.Common.{sym, ◌∙◌}
use Rattle.moka_table.proofs.ColdRows.{count-whole}
use Rattle.moka_table.proofs.table.RecordTable.len.Goals as goal

pub returns-clause-value : goal.returns-clause-value
returns-clause-value g c = rw (← c.self.view_is) (c.len.ensures.value ∙ sym (count-whole _ _))
