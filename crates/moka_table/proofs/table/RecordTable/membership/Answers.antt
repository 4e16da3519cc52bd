use Rattle.std.proofs.Common.{arith, Some, None, sym, ap, ◌∙◌, ◌≡◌, is_some}
use Rattle.std.specs.Option.{option_map, option_and_then}
use Rattle.moka_table.specs.RecordTable.{membership_at}
use Rattle.moka_table.specs.Rows.{cold_at}
use Rattle.moka_table.specs.Slots.{counted_as}
use Rattle.moka_table.proofs.ColdRows.{membership-whole, counted-read, place_within}
use Rattle.moka_table.proofs.TableCalls.{member_row}
use Rattle.moka_table.proofs.table.RecordTable.membership.Goals as goal

pub returns-in_err-at-clause-membership : goal.returns-in_err-at-clause-membership
returns-in_err-at-clause-membership g c =
    rw (c.from_residual.ensures, ← c.self.view_is) (ap (λ o. option_map (counted_as (cold_at c.self.inside.cold.items c.args.place).counted) (option_and_then (λ row. row.membership) o)) c.in_err-at.ensures ∙ sym (membership-whole c.self.inside.rows.rows c.self.inside.cold.items c.args.place))

pub returns-in_err-found-clause-membership : goal.returns-in_err-found-clause-membership
returns-in_err-found-clause-membership g c =
    let none : membership_at c.self.inside.rows.rows c.args.place ≡ None = sym (c.in_err-found.ensures.membership ∙ ap (option_and_then (λ row. row.membership)) c.in_ok-at.ensures) in
    rw (c.from_residual-in_err-found.ensures, ← c.self.view_is) (sym (membership-whole c.self.inside.rows.rows c.self.inside.cold.items c.args.place ∙ ap (option_map (counted_as (cold_at c.self.inside.cold.items c.args.place).counted)) none))

pub returns-clause-membership : goal.returns-clause-membership
returns-clause-membership g c =
    let is : membership_at c.self.inside.rows.rows c.args.place ≡ Some c.in_ok-found.found = sym (c.in_ok-found.ensures.membership ∙ ap (option_and_then (λ row. row.membership)) c.in_ok-at.ensures) in
    let w = member_row c.self.inside.rows.rows c.args.place (ap is_some is) in
    let within = place_within c.self.inside.rows c.self.inside.cold.items _ _ c.self.invariant c.args.place w.0 w.2 in
    let own = counted-read c.self.inside.cold.items c.args.place c.index.result.now within c.index.ensures in
    let lent = membership-whole c.self.inside.rows.rows c.self.inside.cold.items c.args.place ∙ ap (option_map (counted_as (cold_at c.self.inside.cold.items c.args.place).counted)) is in
    rw (← c.self.view_is) (c.counted_as.ensures ∙ ap (λ n. Some (counted_as n c.in_ok-found.found)) own ∙ sym lent)

pub returns-clause-slots : goal.returns-clause-slots
returns-clause-slots g c = rw c.counted_as.ensures (record { access = c.in_ok-found.ensures.slots.access; written = c.in_ok-found.ensures.slots.written })

pub index-requires : goal.index-requires
index-requires g c =
    let is : membership_at c.self.inside.rows.rows c.args.place ≡ Some c.in_ok-found.found = sym (c.in_ok-found.ensures.membership ∙ ap (option_and_then (λ row. row.membership)) c.in_ok-at.ensures) in
    let w = member_row c.self.inside.rows.rows c.args.place (ap is_some is) in
    omega (arith, place_within c.self.inside.rows c.self.inside.cold.items _ _ c.self.invariant c.args.place w.0 w.2)

pub returns-in_err-at-clause-slots : goal.returns-in_err-at-clause-slots
returns-in_err-at-clause-slots g c = rw c.from_residual.ensures tt

pub returns-in_err-found-clause-slots : goal.returns-in_err-found-clause-slots
returns-in_err-found-clause-slots g c = rw c.from_residual-in_err-found.ensures tt
