use Rattle.moka_structures.proofs.Tickets.{items-same}
use Rattle.moka_structures.proofs.ticket_table.TicketTable.reserve.Goals as goal

pub returns-clause-items : goal.returns-clause-items
returns-clause-items g c = rw (← c.self.view_is) (items-same c.self.inside.waiting c.reserve-2.new.self c.reserve-2.ensures.entries.2)
