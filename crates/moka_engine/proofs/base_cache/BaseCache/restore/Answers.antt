use Rattle.std.proofs.Common.{ℕ, refl, sym, ap, ◌∙◌}
use Rattle.moka_records.proofs.Options.{none_by_test}
use Rattle.moka_types.specs.declared.error.InsertError.TheVariants.{NumbersUsedUp}
use Rattle.moka_records.specs.Hashing.{key_hash}
use Rattle.moka_records.specs.Records.{record_of_key}
use Rattle.moka_engine.proofs.EngineSteps.{without_room, whole-roomier}
use Rattle.moka_engine.proofs.RestoreSteps.{whole-restored, not_put_back, put_back}
use Rattle.moka_engine.proofs.base_cache.BaseCache.restore.Goals as goal

pub invariant_of-self : goal.invariant_of-self
invariant_of-self g c = whole-roomier c.self.inside.inner c.reserve_record.new.self c.self.invariant refl (ap without_room c.in-Err.ensures.rest)

pub invariant_of-self-2 : goal.invariant_of-self-2
invariant_of-self-2 g c =
    let inner = c.self.inside.inner in
    let absent = none_by_test (record_of_key g.K.PartialEq.eq inner.kept.records c.args.item.key) (sym (rw c.store-store.ensures at c.has_key.ensures) ∙ c.if-has_key.false) in
    let supported = sym c.is_unsupported.ensures ∙ c.if-is_unsupported.false in
    whole-restored g.met.K.Eq.laws inner c.reserve_record.new.self c.restore.new.self c.self.invariant refl (ap without_room c.in_default.ensures.rest) (rw (← c.self.view_is) at c.requires.enabled) c.args.item c.hash-hash.result c.weigh-weight.result absent supported c.restore.ensures.step

pub returns-then-has_key-clause-step : goal.returns-then-has_key-clause-step
returns-then-has_key-clause-step g c = rw (← c.self.view_is) (refl, sym (rw c.store-store.ensures at c.has_key.ensures) ∙ c.if-has_key.true, refl)

pub returns-then-is_unsupported-clause-step : goal.returns-then-is_unsupported-clause-step
returns-then-is_unsupported-clause-step g c =
    let absent = none_by_test (record_of_key g.K.PartialEq.eq c.self.inside.inner.kept.records c.args.item.key) (sym (rw c.store-store.ensures at c.has_key.ensures) ∙ c.if-has_key.false) in
    rw (← c.self.view_is) (refl, (absent, sym c.is_unsupported.ensures ∙ c.if-is_unsupported.true), refl)

pub returns-in-Err-clause-step : goal.returns-in-Err-clause-step
returns-in-Err-clause-step g c =
    let inner = c.self.inside.inner in
    let absent = none_by_test (record_of_key g.K.PartialEq.eq inner.kept.records c.args.item.key) (sym (rw c.store-store.ensures at c.has_key.ensures) ∙ c.if-has_key.false) in
    let supported = sym c.is_unsupported.ensures ∙ c.if-is_unsupported.false in
    let hash_by : g.row.S.Denot → ℕ = λ h. key_hash g.S.BuildHasher g.S.Hasher.Hasher h (g.K.Hash.hash_input c.args.item.key) in
    rw c.from-error.ensures (not_put_back g.W.Weigher.weighs g.K.PartialEq.eq c.self.view_is inner c.reserve_record.new.self refl (ap without_room c.in-Err.ensures.rest) c.args.item hash_by absent supported c.in-Err.refused c.in-Err.ensures.used_up)

pub returns-clause-step : goal.returns-clause-step
returns-clause-step g c =
    let inner = c.self.inside.inner in
    let absent = none_by_test (record_of_key g.K.PartialEq.eq inner.kept.records c.args.item.key) (sym (rw c.store-store.ensures at c.has_key.ensures) ∙ c.if-has_key.false) in
    let supported = sym c.is_unsupported.ensures ∙ c.if-is_unsupported.false in
    let hash_by : g.row.S.Denot → ℕ = λ h. key_hash g.S.BuildHasher g.S.Hasher.Hasher h (g.K.Hash.hash_input c.args.item.key) in
    put_back g.W.Weigher.weighs g.K.PartialEq.eq c.self.view_is inner c.reserve_record.new.self refl (ap without_room c.in_default.ensures.rest) c.args.item hash_by absent supported c.hash-hash.result c.weigh-weight.result (rw c.store-store.ensures at c.hash-hash.ensures) c.weigh-weight.ensures
    (λ p. c.in_default.not-Err NumbersUsedUp (c.reserve_record.ensures.used_up.1 p)) c.restore.new.self c.restore.result c.restore.ensures.ticket c.restore.ensures.step
