use Rattle.std.proofs.Common.{sym, ◌∙◌}
use Rattle.moka_structures.proofs.Tickets.{len-entries}
use Rattle.moka_structures.proofs.ticket_table.TicketTable.len.Goals as goal

pub returns-clause-value : goal.returns-clause-value
returns-clause-value g c = rw (← c.self.view_is) (c.len.ensures.len ∙ sym (len-entries c.self.inside.waiting.entries c.len.ensures.unique))
