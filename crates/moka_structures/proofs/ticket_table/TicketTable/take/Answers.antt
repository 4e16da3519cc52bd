use Rattle.std.proofs.Common.{sym, ap, ◌∙◌, refl}
use Rattle.std.specs.Option.{option_map}
use Rattle.moka_structures.proofs.Tickets.{tied-taken, items-taken, get-items}
use Rattle.moka_structures.proofs.ticket_table.TicketTable.take.Goals as goal

pub unlink-ticket-requires : goal.unlink-ticket-requires
unlink-ticket-requires g c =
    let node = c.self.invariant.linked.to_place c.in-Some.waiting.slot c.args.ticket (ap (option_map (λ w. w.slot)) (sym c.in-Some.ensures.value)) in
    rw node refl

pub invariant_of-self : goal.invariant_of-self
invariant_of-self g c =
    let e = c.unlink-ticket.ensures in
    tied-taken _ _ _ _ c.self.invariant _ c.args.ticket _ refl (sym c.in-Some.ensures.value) e.members e.lookups c.remove.ensures.updates.0

pub returns-in-Some-clause-item : goal.returns-in-Some-clause-item
returns-in-Some-clause-item g c = rw (← c.self.view_is) (ap (option_map (λ w. w.item)) c.in-Some.ensures.value ∙ sym (get-items c.self.inside.waiting c.args.ticket))

pub returns-in-Some-clause-items : goal.returns-in-Some-clause-items
returns-in-Some-clause-items g c = rw (← c.self.view_is) (items-taken c.self.inside.waiting c.remove.new.self c.args.ticket c.remove.ensures.updates.0)

pub returns-in-None-clause-item : goal.returns-in-None-clause-item
returns-in-None-clause-item g c = rw (← c.self.view_is) (ap (option_map (λ w. w.item)) c.in-None.ensures.value ∙ sym (get-items c.self.inside.waiting c.args.ticket))

pub returns-in-None-clause-items : goal.returns-in-None-clause-items
returns-in-None-clause-items g c = rw (← c.self.view_is) (items-taken c.self.inside.waiting c.remove.new.self c.args.ticket c.remove.ensures.updates.0)
