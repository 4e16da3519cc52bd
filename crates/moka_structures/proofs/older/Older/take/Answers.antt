use Rattle.std.proofs.Common.{sym, ◌∙◌}
use Rattle.moka_structures.proofs.Kept.{get-table, get-kept, none-kept, apart-taken, take-table, take-kept}
use Rattle.moka_structures.proofs.Newest.{taken-none}
use Rattle.moka_structures.proofs.older.Older.take.Goals as goal

-- ---- from the table

pub invariant_of-self : goal.invariant_of-self
invariant_of-self g c =
    rw c.take.ensures.items (apart-taken c.self.inside.kept.items c.self.inside.table.items c.self.invariant c.args.ticket)

pub returns-in-Some-clause-item : goal.returns-in-Some-clause-item
returns-in-Some-clause-item g c =
    let o = c.self.inside in
    rw (← c.self.view_is) (sym (get-table o.kept.items o.table.items c.self.invariant c.args.ticket c.in-Some.item (sym c.in-Some.ensures.item)))

pub returns-in-Some-clause-items : goal.returns-in-Some-clause-items
returns-in-Some-clause-items g c =
    let o = c.self.inside in
    let none = none-kept o.kept.items o.table.items c.self.invariant c.args.ticket c.in-Some.item (sym c.in-Some.ensures.item) in
    rw (c.take.ensures.items, ← c.self.view_is) (take-table o.kept.items o.table.items c.args.ticket none)

-- ---- from the list

pub invariant_of-self-in-None : goal.invariant_of-self-in-None
invariant_of-self-in-None g c =
    let o = c.self.inside in
    let none = sym c.in-None.ensures.item in
    rw (c.take_kept.ensures.items, c.take.ensures.items, taken-none o.table.items c.args.ticket none) (take-kept o.kept.items o.table.items c.self.invariant c.args.ticket none).0

pub returns-in-None-clause-item : goal.returns-in-None-clause-item
returns-in-None-clause-item g c =
    let o = c.self.inside in
    rw (← c.self.view_is) (c.take_kept.ensures.item ∙ sym (get-kept o.kept.items o.table.items c.self.invariant c.args.ticket (sym c.in-None.ensures.item)))

pub returns-in-None-clause-items : goal.returns-in-None-clause-items
returns-in-None-clause-items g c =
    let o = c.self.inside in
    let none = sym c.in-None.ensures.item in
    rw (c.take_kept.ensures.items, c.take.ensures.items, taken-none o.table.items c.args.ticket none, ← c.self.view_is) (take-kept o.kept.items o.table.items c.self.invariant c.args.ticket none).1
