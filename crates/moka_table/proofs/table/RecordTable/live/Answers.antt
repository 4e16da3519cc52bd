use Rattle.std.proofs.Common.{ℕ, Option, Some, None, sym, ap, ◌∙◌, ◌≡◌}
use Rattle.std.specs.Option.{option_map, option_map_or, option_and_then}
use Rattle.moka_records.specs.RecordParts.{joined}
use Rattle.moka_table.specs.RecordTable.{Row, number_at, stored_at}
use Rattle.moka_table.specs.Rows.{cold_at}
use Rattle.moka_table.proofs.ColdRows.{stored-whole, number_at-whole, stored-lent}
use Rattle.moka_table.proofs.table.RecordTable.live.Goals as goal

number-read : {R : Type 0} (o : Option (Row R)) (n : ℕ) → option_map (λ row. row.number) o ≡ Some n → n ≡ option_map_or (λ row. row.number) o 0
number-read None n is = cc
number-read (Some row) n is = cc

pub returns-in_err-at-clause-stored : goal.returns-in_err-at-clause-stored
returns-in_err-at-clause-stored g c =
    rw (c.from_residual.ensures, ← c.self.view_is) (ap (λ o. option_map (λ f. joined (option_map_or (λ row. row.number) o 0) f (cold_at c.self.inside.cold.items c.args.place)) (option_and_then (λ row. row.stored) o)) c.in_err-at.ensures ∙ sym (stored-whole c.self.inside.rows.rows c.self.inside.cold.items c.args.place))

pub returns-in_err-number-clause-stored : goal.returns-in_err-number-clause-stored
returns-in_err-number-clause-stored g c =
    let none : stored_at c.self.inside.rows.rows c.args.place ≡ None = sym (c.in_err-number.ensures.stored ∙ ap (option_and_then (λ row. row.stored)) c.in_ok-at.ensures) in
    rw (c.from_residual-in_err-number.ensures, ← c.self.view_is) (sym (stored-whole c.self.inside.rows.rows c.self.inside.cold.items c.args.place ∙ ap (option_map (λ f. joined (number_at c.self.inside.rows.rows c.args.place) f (cold_at c.self.inside.cold.items c.args.place))) none))

pub returns-clause-number : goal.returns-clause-number
returns-clause-number g c =
    let number = number-read _ c.in_ok-number.number (ap (option_map (λ (row : Row _). row.number)) (sym c.in_ok-at.ensures) ∙ c.in_ok-number.ensures.number) in
    rw (← c.self.view_is) (number ∙ sym (number_at-whole _ _ _))

pub returns-clause-stored : goal.returns-clause-stored
returns-clause-stored g c =
    let front : Rattle.moka_records.specs.declared.record_ref.Front.Front g.row.K.Denot g.row.V.Denot = record { hot = c.in_ok-number.front.hot.now; expiring = c.in_ok-number.front.expiring } in
    let number = number-read _ c.in_ok-number.number (ap (option_map (λ (row : Row _). row.number)) (sym c.in_ok-at.ensures) ∙ c.in_ok-number.ensures.number) in
    let lent = stored-lent c.self.inside.rows c.self.inside.cold.items _ _ c.args.place c.self.invariant front c.index.result.now (sym (c.in_ok-number.ensures.stored ∙ ap (option_and_then (λ row. row.stored)) c.in_ok-at.ensures)) c.index.ensures in
    rw (← c.self.view_is) (ap Some (c.new-found.ensures ∙ ap (λ n. joined n front c.index.result.now) number) ∙ sym lent)
