use Rattle.moka_structures.proofs.Kept.{among, put-table, put-kept}
use Rattle.moka_structures.proofs.Tickets.{newest-fresh}
use Rattle.moka_structures.proofs.older.Older.hand_out.Goals as goal

pub hand_out-requires-clause-newest : goal.hand_out-requires-clause-newest
hand_out-requires-clause-newest g c q some =
    let o = c.self.inside in
    let newest = rw (← c.self.view_is) at c.requires.newest in
    newest q (among o.kept.items o.table.items c.self.invariant q (rw c.reserve.ensures.items at some))

-- ---- into the table

pub invariant_of-self : goal.invariant_of-self
invariant_of-self g c =
    let o = c.self.inside in
    let fresh = newest-fresh _ c.args.ticket (rw (← c.self.view_is) at c.requires.newest) in
    rw (c.hand_out.ensures.items, c.reserve.ensures.items) (put-table o.kept.items o.table.items c.self.invariant c.args.ticket c.args.item fresh).0

pub returns-then-is_ok-clause-items : goal.returns-then-is_ok-clause-items
returns-then-is_ok-clause-items g c =
    let o = c.self.inside in
    let fresh = newest-fresh _ c.args.ticket (rw (← c.self.view_is) at c.requires.newest) in
    rw (c.hand_out.ensures.items, c.reserve.ensures.items, ← c.self.view_is) (put-table o.kept.items o.table.items c.self.invariant c.args.ticket c.args.item fresh).1

-- ---- into the list

pub invariant_of-self-2 : goal.invariant_of-self-2
invariant_of-self-2 g c =
    let o = c.self.inside in
    let fresh = newest-fresh _ c.args.ticket (rw (← c.self.view_is) at c.requires.newest) in
    rw (c.push_reserved.ensures.items, c.reserve.ensures.items) (put-kept o.kept.items o.table.items c.self.invariant (record { ticket = c.args.ticket; item = c.args.item }) fresh).0

pub returns-clause-items : goal.returns-clause-items
returns-clause-items g c =
    let o = c.self.inside in
    let fresh = newest-fresh _ c.args.ticket (rw (← c.self.view_is) at c.requires.newest) in
    rw (c.push_reserved.ensures.items, c.reserve.ensures.items, ← c.self.view_is) (put-kept o.kept.items o.table.items c.self.invariant (record { ticket = c.args.ticket; item = c.args.item }) fresh).1
