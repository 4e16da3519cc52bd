use Rattle.std.proofs.Common.{sym, ap, ◌∙◌}
use Rattle.std.specs.Option.{option_map}
use Rattle.moka_table.specs.RecordTable.{Row}
use Rattle.moka_table.proofs.ColdRows.{number-whole}
use Rattle.moka_table.proofs.table.RecordTable.number.Goals as goal

pub returns-in_err-at : goal.returns-in_err-at
returns-in_err-at g c = rw (c.from_residual.ensures, ← c.self.view_is) (ap (option_map (λ (row : Row _). row.number)) c.in_err-at.ensures ∙ sym (number-whole _ _ _))

pub returns : goal.returns
returns g c = rw (← c.self.view_is) (c.number.ensures ∙ ap (option_map (λ (row : Row _). row.number)) c.in_ok-at.ensures ∙ sym (number-whole _ _ _))
