use Rattle.std.proofs.Common.{length}
use Rattle.moka_cache.proofs.each.+invalidate_each.Given as goal

abbrev pub decreases-invalidate_each : goal.decreases-invalidate_each
decreases-invalidate_each g l = length l.caches.now
