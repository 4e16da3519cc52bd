use Rattle.std.proofs.Common.{sym}
use Rattle.moka_lookups.proofs.inserts.plan_for.Goals as goal

pub returns-in_default : goal.returns-in_default
returns-in_default g c = (sym c.in_default.ensures.value, c.expires_at_creation.ensures)

pub returns : goal.returns
returns g c = (c.in-Some.found, c.in-Some.ensures.handle, c.in-Some.ensures.found, sym c.in-Some.ensures.value, c.expires_at_update-expires.ensures, c.cause_of_replacement-cause.ensures)
