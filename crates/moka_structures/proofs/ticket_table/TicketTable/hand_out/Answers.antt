use Rattle.std.proofs.Common.{ℕ, ◌<◌, IsSome, refl}
use Rattle.std.specs.FinMap as map
use Rattle.moka_structures.specs.TicketTable.{items_of}
use Rattle.moka_structures.proofs.Tickets.{tied-handed, items-put}
use Rattle.moka_structures.proofs.ticket_table.TicketTable.hand_out.Goals as goal

pub invariant_of-self : goal.invariant_of-self
invariant_of-self g c =
    let newest : (q : ℕ) → IsSome (map.get (items_of c.self.inside.waiting) q) → q < c.args.ticket = rw (← c.self.view_is) at c.requires.newest in
    let e = c.push_back-slot.ensures in
    tied-handed _ _ _ _ c.self.invariant _ c.args.ticket _ refl e.distinct newest e.fresh e.members e.lookups c.in-Ok.ensures.updates.0

pub returns-clause-items : goal.returns-clause-items
returns-clause-items g c = rw (← c.self.view_is) (items-put c.self.inside.waiting c.insert.new.self c.args.ticket _ c.in-Ok.ensures.updates.0)
