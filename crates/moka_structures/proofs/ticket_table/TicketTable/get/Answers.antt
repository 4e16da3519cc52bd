use Rattle.std.proofs.Common.{sym, ap, ◌∙◌}
use Rattle.std.specs.Option.{option_map}
use Rattle.moka_structures.proofs.Tickets.{get-items}
use Rattle.moka_structures.proofs.ticket_table.TicketTable.get.Goals as goal

pub returns-in-Some : goal.returns-in-Some
returns-in-Some g c = rw (← c.self.view_is) (ap (option_map (λ w. w.item)) c.in-Some.ensures.value ∙ sym (get-items c.self.inside.waiting c.args.ticket))

pub returns-in-None : goal.returns-in-None
returns-in-None g c = rw (← c.self.view_is) (ap (option_map (λ w. w.item)) c.in-None.ensures.value ∙ sym (get-items c.self.inside.waiting c.args.ticket))
