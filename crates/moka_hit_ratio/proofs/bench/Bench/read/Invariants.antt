-- The capacities stay, and the caches so far were read through.
use Rattle.std.proofs.Common.{◌≡◌, map, nat_le}
use Rattle.moka_hit_ratio.specs.Through.{AreRead}
use Rattle.moka_hit_ratio.proofs.Reached.{AreReached}
use Rattle.moka_hit_ratio.proofs.bench.Bench.read.Given as goal

abbrev pub invariant-loop-caches : goal.invariant-loop-caches
invariant-loop-caches l = (map (λ c. c.row.capacity) l.caches-items ≡ map (λ c. c.row.capacity) l.fn.self.caches.items)
    × AreReached (AreRead l.fn.key (nat_le l.fn.self.warm l.fn.self.reads)) l.caches-index l.fn.self.caches.items l.caches-items
