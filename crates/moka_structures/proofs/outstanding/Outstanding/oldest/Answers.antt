use Rattle.std.proofs.Common.{sym, ◌∙◌, refl}
use Rattle.moka_structures.specs.Newest.{with_newest}
use Rattle.moka_structures.proofs.Newest.{joined-none, least-older, least-newest}
use Rattle.moka_structures.proofs.Tickets.{first-key, no-first, some-lowest}
use Rattle.moka_structures.proofs.outstanding.Outstanding.oldest.Goals as goal

pub returns-in-Some-clause-least : goal.returns-in-Some-clause-least
returns-in-Some-clause-least g c =
    rw (← c.self.view_is) (least-older c.self.inside.newest c.self.inside.older.items c.in-Some.ticket c.self.invariant c.in-Some.ensures.least)

pub returns-in-Some-clause-first : goal.returns-in-Some-clause-first
returns-in-Some-clause-first g c = sym (first-key _ c.in-Some.ticket (returns-in-Some-clause-least g c))

pub returns-in-Some-clause-none : goal.returns-in-Some-clause-none
returns-in-Some-clause-none g c = some-lowest _ c.in-Some.ticket (returns-in-Some-clause-least g c).0

pub returns-in-Some-newest-clause-least : goal.returns-in-Some-newest-clause-least
returns-in-Some-newest-clause-least g c =
    rw (← c.self.view_is) (least-newest c.self.inside.newest c.self.inside.older.items c.in-Some-newest.newest c.in-Some-newest.is (c.in_default.ensures.none.0 refl))

pub returns-in-Some-newest-clause-first : goal.returns-in-Some-newest-clause-first
returns-in-Some-newest-clause-first g c = sym (first-key _ c.in-Some-newest.newest.ticket (returns-in-Some-newest-clause-least g c))

pub returns-in-Some-newest-clause-none : goal.returns-in-Some-newest-clause-none
returns-in-Some-newest-clause-none g c = some-lowest _ c.in-Some-newest.newest.ticket (returns-in-Some-newest-clause-least g c).0

pub returns-in-None-clause-first : goal.returns-in-None-clause-first
returns-in-None-clause-first g c =
    let o = c.self.inside in
    rw (← c.self.view_is) (sym (no-first (with_newest o.newest o.older.items) (sym (joined-none o.newest o.older.items c.in-None.is) ∙ c.in_default.ensures.none.0 refl)))
