use Rattle.std.proofs.Common.{refl, false}
use Rattle.moka_engine.proofs.base_cache.BaseCache.get_with_hash_and_ignore_if.Goals as goal

pub returns-in-Some-clause-step : goal.returns-in-Some-clause-step
returns-in-Some-clause-step g c = rw c.in-Some.is c.get_hashed.ensures.step

pub returns-in-None-clause-step : goal.returns-in-None-clause-step
returns-in-None-clause-step g c = rw c.in-None.is (false, (refl, refl), c.get_with_hash.ensures.step)
