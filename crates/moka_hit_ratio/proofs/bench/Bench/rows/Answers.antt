use Rattle.std.proofs.Common.{◌≡◌, ◌∙◌, ap, arith, map, sym}
use Rattle.moka_hit_ratio.proofs.Capacities.{map_next}
use Rattle.moka_hit_ratio.proofs.bench.Bench.rows.Goals as goal
use Rattle.moka_hit_ratio.proofs.bench.Bench.rows.Goals.{in-Some-nexts+in_ok-count, in_default}

pub loop-caches-preserved : goal.loop-caches-preserved
loop-caches-preserved c =
    let same : c.match-nexts.row.capacity ≡ c.caches-item.result.row.capacity = elim c.match-nexts.branch [
      | in-Some-nexts+in_ok-count w ↦ ap (λ row. row.capacity) w.row-is
      | in_default w ↦ ap (λ row. row.capacity) w.row-is
    ] in (
      omega (arith, c.loop-caches.invariant.0, c.in_ok-push.ensures.len),
      ap (map (λ row. row.capacity)) c.in_ok-push.ensures.items ∙ map_next (λ caches. caches.row.capacity) (λ row. row.capacity) c.args.self.now.caches.items c.loop-caches.rows.items c.loop-caches.caches-index c.match-nexts.row c.caches-item.result (omega (arith, c.loop-caches-test.true)) c.loop-caches.invariant.1 (rw (sym c.deref-caches-items.ensures.value) (same ∙ ap (λ caches. caches.row.capacity) c.caches-item.is)),
    )
