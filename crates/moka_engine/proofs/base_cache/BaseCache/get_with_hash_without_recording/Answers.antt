use Rattle.moka_engine.proofs.base_cache.BaseCache.get_with_hash_without_recording.Goals as goal

pub returns-in-Some-clause-step : goal.returns-in-Some-clause-step
returns-in-Some-clause-step g c = rw c.in-Some.is c.do_get_without_recording.ensures.step
