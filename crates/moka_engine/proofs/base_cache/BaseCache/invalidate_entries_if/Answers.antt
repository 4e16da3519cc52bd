use Rattle.std.proofs.Common.{refl}
use Rattle.moka_engine.proofs.Registering.{registers, unsupported, cache-registered}
use Rattle.moka_engine.proofs.base_cache.BaseCache.invalidate_entries_if.Goals as goal

pub returns-then-not-self : goal.returns-then-not-self
returns-then-not-self g c = unsupported g.L.Listener.tells g.I.IdSource.gives c.self.view_is c.args.predicate c.args.now c.args.ids.now c.args.ids.now c.if-not-self.true refl

pub invariant_of-self : goal.invariant_of-self
invariant_of-self g c = record { cache = cache-registered c.self.invariant.cache c.if-not-self.false c.register_predicate.new.self; store = c.self.invariant.store }

pub returns : goal.returns
returns g c = registers g.L.Listener.tells g.I.IdSource.gives c.self.view_is c.args.predicate c.args.now c.args.ids.now c.register_predicate.new.ids c.if-not-self.false c.register_predicate.result c.register_predicate.new.self c.register_predicate.ensures
