use Rattle.std.proofs.Common.{refl, ap}
use Rattle.moka_types.specs.declared.error.InsertError.TheVariants.{NumbersUsedUp}
use Rattle.moka_engine.proofs.EngineSteps.{without_room, still_set, whole-roomier}
use Rattle.moka_engine.proofs.InsertSteps.{whole-updated, whole-inserted, update_refused, update_returns, new_refused, new_returns}
use Rattle.moka_engine.proofs.base_cache.BaseCache.insert_hashed.Goals as goal

pub invariant_of-self-in-Err-reserve_operation : goal.invariant_of-self-in-Err-reserve_operation
invariant_of-self-in-Err-reserve_operation g c = whole-roomier c.self.inside.inner c.reserve_operation.new.self c.self.invariant refl (ap without_room c.in-Err-reserve_operation.ensures.rest)

pub returns-in-Err-reserve_operation : goal.returns-in-Err-reserve_operation
returns-in-Err-reserve_operation g c =
    update_refused g.X.Expiry.created g.X.Expiry.updated g.W.Weigher.weighs g.L.Listener.tells g.K.PartialEq.eq c.self.view_is c.self.inside.inner refl c.reserve_operation.new.self (ap without_room c.in-Err-reserve_operation.ensures.rest)
    c.args.key c.args.hashes.hash c.args.value c.args.now c.in-Update.ensures.0 (rw c.store.ensures at c.in-Update.ensures.3) c.in-Err-reserve_operation.error c.in-Err-reserve_operation.ensures.used_up

pub invariant_of-self-in-Update : goal.invariant_of-self-in-Update
invariant_of-self-in-Update g c =
    let there = rw c.store.ensures at c.in-Update.ensures.2 in
    let rest = c.in_default-reserve_operation.ensures.rest in
    whole-updated g.X.Expiry.created c.self.inside.inner c.reserve_operation.new.self c.update-old.new.self c.self.invariant refl (ap without_room rest) c.args.key c.args.hashes.hash
    (record { value = c.args.value; now = c.args.now; expires = c.in-Update.expires; weight = c.weigh-weight.result })
    g.X.Expiry.updated c.notify.new.self (still_set g.L.Listener.tells c.self.inside.notifier c.notify.new.self _ c.notify.ensures) c.in-Update.handle.number c.in-Update.ensures.0 there (rw c.store.ensures at c.in-Update.ensures.3) c.in-Update.ensures.4
    (c.update-old.ensures.step c.in-Update.ensures.0 (rw rest there))

pub returns-in_default-reserve_operation : goal.returns-in_default-reserve_operation
returns-in_default-reserve_operation g c =
    let there = rw c.store.ensures at c.in-Update.ensures.2 in
    let rest = c.in_default-reserve_operation.ensures.rest in
    update_returns g.X.Expiry.created g.X.Expiry.updated g.W.Weigher.weighs g.L.Listener.tells g.K.PartialEq.eq c.self.view_is c.self.inside.inner refl c.reserve_operation.new.self (ap without_room rest)
    c.args.key c.args.hashes.hash c.args.value c.args.now c.self.invariant.cache c.notify.new.self c.update-old.new.self c.in-Update.handle.number c.in-Update.ensures.0 there (rw c.store.ensures at c.in-Update.ensures.3) c.weigh-weight.result c.weigh-weight.ensures
    (λ p. c.in_default-reserve_operation.not-Err NumbersUsedUp (c.reserve_operation.ensures.used_up.1 p)) c.update-old.result.1 c.update-old.ensures.ticket c.in-Update.expires c.in-Update.ensures.4
    (c.update-old.ensures.step c.in-Update.ensures.0 (rw rest there)) c.update-old.result.0 (c.update-old.ensures.value c.in-Update.ensures.0 (rw rest there)) c.in-Update.cause c.in-Update.ensures.5 c.notify.ensures

pub invariant_of-self : goal.invariant_of-self
invariant_of-self g c = whole-roomier c.self.inside.inner c.reserve_record.new.self c.self.invariant refl (ap without_room c.in-Err.ensures.rest)

pub returns-in-Err : goal.returns-in-Err
returns-in-Err g c =
    new_refused g.X.Expiry.created g.X.Expiry.updated g.W.Weigher.weighs g.L.Listener.tells g.K.PartialEq.eq c.self.view_is c.self.inside.inner refl c.reserve_record.new.self (ap without_room c.in-Err.ensures.rest)
    c.args.key c.args.hashes.hash c.args.value c.args.now (rw c.store.ensures at c.in-New.ensures.0) c.in-Err.error c.in-Err.ensures.used_up

pub invariant_of-self-in-New : goal.invariant_of-self-in-New
invariant_of-self-in-New g c =
    whole-inserted g.X.Expiry.created c.self.inside.inner c.reserve_record.new.self c.insert.new.self c.self.invariant refl (ap without_room c.in_default.ensures.rest) c.args.key c.args.hashes.hash
    (record { value = c.args.value; now = c.args.now; expires = c.in-New.expires; weight = c.weigh-weight.result })
    g.met.K.Eq.laws (rw (← c.self.view_is) at c.requires.enabled) (rw c.store.ensures at c.in-New.ensures.0) c.in-New.ensures.1 c.insert.ensures.step

pub returns-in_default : goal.returns-in_default
returns-in_default g c =
    new_returns g.X.Expiry.created g.X.Expiry.updated g.W.Weigher.weighs g.L.Listener.tells g.K.PartialEq.eq c.self.view_is c.self.inside.inner refl c.reserve_record.new.self (ap without_room c.in_default.ensures.rest)
    c.args.key c.args.hashes.hash c.args.value c.args.now (rw c.store.ensures at c.in-New.ensures.0) c.insert.new.self c.weigh-weight.result c.weigh-weight.ensures
    (λ p. c.in_default.not-Err NumbersUsedUp (c.reserve_record.ensures.used_up.1 p)) c.insert.result c.insert.ensures.ticket c.in-New.expires c.in-New.ensures.1 c.insert.ensures.step
