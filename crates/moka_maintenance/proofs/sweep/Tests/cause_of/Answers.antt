use Rattle.std.proofs.Common.{refl}
use Rattle.moka_maintenance.proofs.sweep.Tests.cause_of.Goals as goal

pub returns-in-Surplus : goal.returns-in-Surplus
returns-in-Surplus g c = λ d n next. (let at = rw c.in-Surplus.is at next in rw c.in-Surplus.is (at, refl))
