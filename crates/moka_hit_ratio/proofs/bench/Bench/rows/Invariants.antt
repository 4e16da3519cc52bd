-- A row was made for each capacity so far.
use Rattle.std.proofs.Common.{◌≡◌, map, take, vec_len}
use Rattle.moka_hit_ratio.proofs.bench.Bench.rows.Given as goal

abbrev pub invariant-loop-caches : goal.invariant-loop-caches
invariant-loop-caches l = (vec_len l.rows ≡ l.caches-index)
    × (map (λ row. row.capacity) l.rows.items ≡ map (λ c. c.row.capacity) (take l.caches-index l.fn.self.caches.items))
