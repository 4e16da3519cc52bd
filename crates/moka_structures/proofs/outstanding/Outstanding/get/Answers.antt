use Rattle.std.proofs.Common.{sym, ◌∙◌}
use Rattle.moka_structures.proofs.Newest.{IsOther, other-some, other-none, get-newest, get-other}
use Rattle.moka_structures.proofs.outstanding.Outstanding.get.Goals.{in_default-via-in-Some+else-newest-ticket, in_default-via-in_default}
use Rattle.moka_structures.proofs.outstanding.Outstanding.get.Goals as goal

pub returns-in-Some : goal.returns-in-Some
returns-in-Some g c = rw (← c.self.view_is) (sym (get-newest c.self.inside.newest c.self.inside.older.items c.in-Some.newest c.in-Some.is c.args.ticket c.if-newest-ticket.true))

pub returns-in_default : goal.returns-in_default
returns-in_default g c =
    let other = elim c.in_default.branch as (λ _. IsOther c.self.inside.newest c.args.ticket) [
      | in_default-via-in-Some+else-newest-ticket w ↦ other-some c.self.inside.newest w.in-Some.newest c.args.ticket w.in-Some.is w.if-newest-ticket.false
      | in_default-via-in_default w ↦ other-none c.self.inside.newest c.args.ticket w.in_default.is
    ] in
    rw (← c.self.view_is) (c.get.ensures ∙ sym (get-other c.self.inside.newest c.self.inside.older.items c.args.ticket other))
