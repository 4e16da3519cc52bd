use Rattle.std.proofs.Common.{refl, sym, ap, ◌∙◌}
use Rattle.std.specs.Option.{option_and_then}
use Rattle.moka_table.specs.RecordTable.{Row}
use Rattle.moka_table.proofs.ColdRows.{keeps}
use Rattle.moka_table.proofs.table.RecordTable.timer.Goals as goal

pub returns-in_err-at-clause-timer : goal.returns-in_err-at-clause-timer
returns-in_err-at-clause-timer g c = rw (c.from_residual.ensures, ← c.self.view_is) (ap (option_and_then (λ (row : Row _). row.timer)) c.in_err-at.ensures ∙ sym (keeps _ _ _ (λ row. row.timer) (λ row. row.timer) (λ cold row. refl)))

pub returns-clause-timer : goal.returns-clause-timer
returns-clause-timer g c = rw (← c.self.view_is) (c.timer.ensures.timer ∙ ap (option_and_then (λ (row : Row _). row.timer)) c.in_ok-at.ensures ∙ sym (keeps _ _ _ (λ row. row.timer) (λ row. row.timer) (λ cold row. refl)))
