use Rattle.std.proofs.Common.{sym, refl}
use Rattle.moka_structures.proofs.Tickets.{member-out, least-ticket, none-out, some-lowest}
use Rattle.moka_structures.proofs.ticket_table.TicketTable.oldest.Goals as goal

pub returns-in-Some-clause-least : goal.returns-in-Some-clause-least
returns-in-Some-clause-least g c =
    let o = c.self.inside.order.members in
    let m = c.self.inside.waiting in
    let t = c.self.invariant in
    let ticket = c.in-Some.ticket in
    rw (← c.self.view_is) (member-out o m t c.in-Some.field-0-0 ticket c.in-Some.ensures.found, least-ticket o m t c.in-Some.field-0-0 ticket (sym c.in-Some.ensures.front))

pub returns-in-Some-clause-none : goal.returns-in-Some-clause-none
returns-in-Some-clause-none g c = some-lowest _ c.in-Some.ticket (returns-in-Some-clause-least g c).0

pub returns-in-None-clause-none : goal.returns-in-None-clause-none
returns-in-None-clause-none g c =
    let e = none-out c.self.inside.order.members c.self.inside.waiting c.self.invariant (c.in-None.ensures.none.0 refl) in
    rw (← c.self.view_is) (λ _. e, λ _. refl)
