use Rattle.std.proofs.Common.{◌≡◌, ◌∙◌, ap, arith, map}
use Rattle.moka_hit_ratio.proofs.Capacities.{made_next}
use Rattle.moka_hit_ratio.proofs.bench.Caches.of_each.Goals as goal

pub loop-capacity-preserved : goal.loop-capacity-preserved
loop-capacity-preserved c = (
  omega (arith, c.loop-capacity.invariant.0, c.in_ok-push.ensures.len),
  ap (map (λ caches. caches.row.capacity)) c.in_ok-push.ensures.items ∙ made_next (λ caches. caches.row.capacity) c.args.capacities.now c.loop-capacity.all.items c.loop-capacity.capacity-index c.in_ok-new.field-0 _ (omega (arith, c.loop-capacity-test.true)) c.loop-capacity.invariant.1 c.in_ok-new.ensures.row.0,
)
