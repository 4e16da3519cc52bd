use Rattle.std.proofs.Common.{sym, ◌∙◌}
use Rattle.moka_structures.proofs.Newest.{IsOther, other-some, other-none, get-newest, get-other, remove-newest, remove-other, older-without, gets-taken, left-taken, len-taken}
use Rattle.moka_structures.proofs.outstanding.Outstanding.take.Goals.{in_default-via-in-Some+else-newest-ticket, in_default-via-in_default}
use Rattle.moka_structures.proofs.outstanding.Outstanding.take.Goals as goal

-- ---- the newest

pub returns-in-Some-clause-item : goal.returns-in-Some-clause-item
returns-in-Some-clause-item g c =
    rw (← c.self.view_is) (sym (get-newest c.self.inside.newest c.self.inside.older.items c.in-Some.newest c.in-Some.is c.args.ticket c.if-newest-ticket.true))

pub returns-in-Some-clause-items : goal.returns-in-Some-clause-items
returns-in-Some-clause-items g c =
    rw (← c.self.view_is) (remove-newest c.self.inside.newest c.self.inside.older.items c.in-Some.newest c.in-Some.is c.self.invariant c.args.ticket c.if-newest-ticket.true)

pub returns-in-Some-clause-gets : goal.returns-in-Some-clause-gets
returns-in-Some-clause-gets g c = gets-taken _ _ c.args.ticket (returns-in-Some-clause-items g c)

pub returns-in-Some-clause-left : goal.returns-in-Some-clause-left
returns-in-Some-clause-left g c = left-taken _ _ c.args.ticket (returns-in-Some-clause-items g c)

pub returns-in-Some-clause-len : goal.returns-in-Some-clause-len
returns-in-Some-clause-len g c = len-taken _ _ c.args.ticket (returns-in-Some-clause-items g c) _ (returns-in-Some-clause-item g c)

-- ---- another

pub invariant_of-self-in_default : goal.invariant_of-self-in_default
invariant_of-self-in_default g c = older-without c.self.inside.newest c.self.inside.older.items c.take.new.self.items c.args.ticket c.take.ensures.items c.self.invariant

pub returns-in_default-clause-item : goal.returns-in_default-clause-item
returns-in_default-clause-item g c =
    let other = elim c.in_default.branch as (λ _. IsOther c.self.inside.newest c.args.ticket) [
      | in_default-via-in-Some+else-newest-ticket w ↦ other-some c.self.inside.newest w.in-Some.newest c.args.ticket w.in-Some.is w.if-newest-ticket.false
      | in_default-via-in_default w ↦ other-none c.self.inside.newest c.args.ticket w.in_default.is
    ] in
    rw (← c.self.view_is) (c.take.ensures.item ∙ sym (get-other c.self.inside.newest c.self.inside.older.items c.args.ticket other))

pub returns-in_default-clause-items : goal.returns-in_default-clause-items
returns-in_default-clause-items g c =
    let other = elim c.in_default.branch as (λ _. IsOther c.self.inside.newest c.args.ticket) [
      | in_default-via-in-Some+else-newest-ticket w ↦ other-some c.self.inside.newest w.in-Some.newest c.args.ticket w.in-Some.is w.if-newest-ticket.false
      | in_default-via-in_default w ↦ other-none c.self.inside.newest c.args.ticket w.in_default.is
    ] in
    rw (← c.self.view_is) (remove-other c.self.inside.newest c.self.inside.older.items c.take.new.self.items c.args.ticket other c.take.ensures.items)

pub returns-in_default-clause-gets : goal.returns-in_default-clause-gets
returns-in_default-clause-gets g c = gets-taken _ _ c.args.ticket (returns-in_default-clause-items g c)

pub returns-in_default-clause-left : goal.returns-in_default-clause-left
returns-in_default-clause-left g c = left-taken _ _ c.args.ticket (returns-in_default-clause-items g c)

pub returns-in_default-clause-len : goal.returns-in_default-clause-len
returns-in_default-clause-len g c = len-taken _ _ c.args.ticket (returns-in_default-clause-items g c) _ (returns-in_default-clause-item g c)
