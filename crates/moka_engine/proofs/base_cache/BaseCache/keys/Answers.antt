use Rattle.std.proofs.Common.{rules, Some}
use Rattle.moka_engine.proofs.base_cache.BaseCache.keys.Goals as goal

pub returns-in-Ok-clause-ok : goal.returns-in-Ok-clause-ok
returns-in-Ok-clause-ok g c = (let listed = c.in-Ok.ensures in (Some listed.0, search rules, listed.2))
