use Rattle.std.proofs.Common.{rules, refl}
use Rattle.moka_engine.proofs.base_cache.BaseCache.set_max_capacity.Goals as goal

pub returns-clause-step : goal.returns-clause-step
returns-clause-step g c = (search rules, rw (← c.self.view_is) refl)
