use Rattle.std.proofs.Common.{refl}
use Rattle.moka_engine.proofs.RemoveSteps.{whole-removed}
use Rattle.moka_engine.proofs.base_cache.BaseCache.remove_hashed.Goals as goal

pub invariant_of-self : goal.invariant_of-self
invariant_of-self g c = whole-removed g.met.K.Eq.laws c.self.inside.inner c.remove-record.new.self c.self.invariant refl c.in_ok-handle.handle.number c.remove-record.result.0 c.remove-record.ensures.taken c.remove-record.ensures.step
