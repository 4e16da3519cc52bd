-- Caches were made for each capacity so far.
use Rattle.std.proofs.Common.{◌≡◌, map, take, vec_len}
use Rattle.moka_hit_ratio.proofs.bench.Caches.of_each.Given as goal

abbrev pub invariant-loop-capacity : goal.invariant-loop-capacity
invariant-loop-capacity l = (vec_len l.all ≡ l.capacity-index)
    × (map (λ c. c.row.capacity) l.all.items ≡ take l.capacity-index l.fn.capacities)
