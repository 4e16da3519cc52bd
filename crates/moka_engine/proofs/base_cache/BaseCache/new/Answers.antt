use Rattle.std.proofs.Common.{ap, sym}
use Rattle.moka_inner.specs.declared.inner.Layout.{Layout}
use Rattle.moka_engine.proofs.Stocked.{stocked-new}
use Rattle.moka_engine.proofs.NewSteps.{cache-new}
use Rattle.moka_engine.proofs.base_cache.BaseCache.new.Goals as goal

pub invariant_of-result : goal.invariant_of-result
invariant_of-result g c = record {
  cache =
      cache-new g.K.PartialEq.eq c.new-notifier.result c.in-Ok.inner c.layout_of-layout.result.ordered c.layout_of-layout.result.timed c.args.first_ticket c.in-Ok.ensures.empty c.new-2.result c.new-2.ensures
      c.new-housekeeper.result c.is_enabled.result c.args.housekeeper_config c.args.now.0
      c.new-housekeeper.ensures c.is_enabled.ensures
      c.args.max_capacity c.args.eviction_policy c.args.expiration_policy c.args.weigher c.args.invalidator_enabled;
  store = stocked-new g.X.Expiry.read _ c.in-Ok.inner c.layout_of-layout.result.ordered c.layout_of-layout.result.timed c.args.first_ticket c.in-Ok.ensures.empty (ap (λ (l : Layout). l.ordered) c.layout_of-layout.ensures) (ap (λ (l : Layout). l.timed) c.layout_of-layout.ensures);
}

pub returns-clause-room : goal.returns-clause-room
returns-clause-room g c = rw (ap (λ (l : Layout). l.initial_capacity) (sym c.layout_of-layout.ensures)) c.in-Ok.ensures.room
