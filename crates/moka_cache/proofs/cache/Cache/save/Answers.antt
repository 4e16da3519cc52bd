use Rattle.std.proofs.Common.{rules}
use Rattle.moka_cache.proofs.cache.Cache.save.Goals as goal

pub returns-clause-members : goal.returns-clause-members
returns-clause-members g c = search rules
