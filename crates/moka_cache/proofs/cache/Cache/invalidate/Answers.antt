use Rattle.moka_cache.proofs.Asking.{invalidated_told}
use Rattle.moka_cache.proofs.cache.Cache.invalidate.Goals as goal

pub returns-clause-succeeds : goal.returns-clause-succeeds
returns-clause-succeeds g c = λ granted. rw c.invalidated.ensures (invalidated_told c.take.result (c.take.ensures.notified granted))
