use Rattle.std.proofs.Common.{length}
use Rattle.moka_cache.proofs.each.+run_each.Given as goal

abbrev pub decreases-run_each : goal.decreases-run_each
decreases-run_each g l = length l.caches.now
