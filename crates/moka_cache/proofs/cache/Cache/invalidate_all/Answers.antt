use Rattle.moka_cache.proofs.cache.Cache.invalidate_all.Goals as goal

pub returns-clause-step : goal.returns-clause-step
returns-clause-step g c = rw (← c.self.view_is) c.invalidate_all.ensures.step
