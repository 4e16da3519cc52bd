use Rattle.moka_cache.proofs.Asking.{removed_told}
use Rattle.moka_cache.proofs.cache.Cache.remove.Goals as goal

pub returns-clause-succeeds : goal.returns-clause-succeeds
returns-clause-succeeds g c = λ granted. rw c.removed.ensures (removed_told c.take.result (c.take.ensures.notified granted))
