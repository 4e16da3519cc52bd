use Rattle.std.proofs.Common.{refl}
use Rattle.moka_maintenance.proofs.passes.start.Goals as goal

pub returns-in-Some : goal.returns-in-Some
returns-in-Some g c = rw c.in-Some.is (_, refl, assumption)

pub returns-in-None : goal.returns-in-None
returns-in-None g c = rw c.in-None.is (refl, refl)
