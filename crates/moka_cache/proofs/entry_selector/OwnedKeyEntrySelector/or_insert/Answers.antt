use Rattle.std.proofs.Common.{◌≡◌, ◌∙◌, ℕ, refl, subst, sym, Some, None, Result, Ok, Err, IfOk, true≢false}
use Rattle.std.proofs.lemmas.Option.{same_Some}
use Rattle.moka_types.specs.declared.error.OutOfMemory.{OutOfMemory}
use Rattle.moka_records.specs.Hashing.{key_hash}
use Rattle.moka_parts.specs.Counters.{after_look_up}
use Rattle.moka_calls.specs.Given.{Sees}
use Rattle.moka_cache.proofs.Asking.{seen_found}
use Rattle.moka_cache.proofs.Getting.{got_nothing, got_refused, got_value}
use Rattle.moka_cache.proofs.Entries.{put_and_handed_out}
use Rattle.moka_cache.proofs.entry_selector.OwnedKeyEntrySelector.or_insert.Goals as goal

pub returns-in-Ok-Some-clause-step : goal.returns-in-Ok-Some-clause-step
returns-in-Ok-Some-clause-step g c =
    let hash_by : g.row.S.Denot → ℕ = λ h. key_hash g.S.BuildHasher g.S.Hasher.Hasher h (g.K.Hash.hash_input c.args.self.key) in
    let there = got_value g.V.Clone.is_clone _ c.args.self.key hash_by c.args.now c.args.self.cache.now c.get_hashed.new.self c.args.clock.now c.get_hashed.new.clock (λ (a : Result g.row.V.Denot (Unit {0})). IfOk a (λ v. v ≡ c.args.value)) _ c.in-Ok-Some.value c.in-Ok-Some.field-0-is c.in-Ok-Some.ensures.made c.in-Ok-Some.ensures.counted c.in-Ok-Some.ensures.sees in
    rw c.found.ensures (None, Ok there.0, (λ v e. absurd (cc)), there.1.1, (refl, refl, refl), there.1.2, there.1.3, there.1.4.0, tt)

pub returns-in-Err-clause-step : goal.returns-in-Err-clause-step
returns-in-Err-clause-step g c =
    let hash_by : g.row.S.Denot → ℕ = λ h. key_hash g.S.BuildHasher g.S.Hasher.Hasher h (g.K.Hash.hash_input c.args.self.key) in
    let refused = got_refused g.V.Clone.is_clone _ c.args.self.key hash_by c.args.now c.args.self.cache.now c.get_hashed.new.self c.args.clock.now c.get_hashed.new.clock (λ (a : Result g.row.V.Denot (Unit {0})). IfOk a (λ v. v ≡ c.args.value)) c.in-Err.field-0 c.in-Err.ensures.made c.in-Err.ensures.counted c.in-Err.ensures.unchanged.0 in
    (None, Err None, (λ v e. absurd (cc)), refl, tt, refused.2, refused.3, tt, (refl, refl))

pub returns-clause-step : goal.returns-clause-step
returns-clause-step g c =
    let hash_by : g.row.S.Denot → ℕ = λ h. key_hash g.S.BuildHasher g.S.Hasher.Hasher h (g.K.Hash.hash_input c.args.self.key) in
    let counted = subst (λ o. c.get_hashed.new.self.stats ≡ after_look_up {E = OutOfMemory} (Ok o) c.args.self.cache.now.stats) c.in-Ok-None.field-0-is c.in-Ok-None.ensures.counted in
    let missed = got_nothing g.V.Clone.is_clone _ c.args.self.key (hash_by c.args.self.cache.now.engine.hasher) c.args.now c.args.self.cache.now.engine c.get_hashed.new.self.engine c.args.clock.now c.get_hashed.new.clock _ c.in-Ok-None.field-0-is c.in-Ok-None.ensures.made in
    let none = subst (Sees g.K.PartialEq.eq g.P.PredicateFn.says g.V.Clone.is_clone c.args.self.cache.now.engine.state c.args.self.key c.args.now.0) c.in-Ok-None.field-0-is c.in-Ok-None.ensures.sees in
    let put = put_and_handed_out g.V.Clone.is_clone _ c.args.self.key hash_by c.args.now c.args.self.cache.now.engine c.get_hashed.new.self.engine c.args.clock.now c.get_hashed.new.clock missed none c.args.value c.insert_entry.new.self.engine c.insert_entry.new.clock c.insert_entry.result c.insert_entry.ensures.made in
    (Some c.args.value, put.0, (λ v e. sym (same_Some c.args.value v e)), put.1, c.insert_entry.ensures.entry, put.2, c.insert_entry.ensures.counted ∙ counted, put.3, c.insert_entry.ensures.back)

pub returns-in-Err-clause-succeeds : goal.returns-in-Err-clause-succeeds
returns-in-Err-clause-succeeds g c = λ shown granted. absurd (true≢false (sym (c.in-Err.ensures.succeeds granted)))

pub returns-clause-succeeds : goal.returns-clause-succeeds
returns-clause-succeeds g c = λ shown granted.
    let none = subst (Sees g.K.PartialEq.eq g.P.PredicateFn.says g.V.Clone.is_clone c.args.self.cache.now.engine.state c.args.self.key c.args.now.0) c.in-Ok-None.field-0-is c.in-Ok-None.ensures.sees in
    absurd (true≢false (sym (seen_found g.K.PartialEq.eq g.P.PredicateFn.says g.V.Clone.is_clone c.args.self.cache.now.engine.state c.args.self.key c.args.now.0 (Ok None) none shown)))

pub returns-in-Err-clause-disabled : goal.returns-in-Err-clause-disabled
returns-in-Err-clause-disabled g c = λ off. let impossible : Err c.in-Err.field-0 ≡ Ok None = (c.in-Err.ensures.disabled off).0 in absurd (cc)

pub returns-clause-disabled : goal.returns-clause-disabled
returns-clause-disabled g c = λ off. c.insert_entry.ensures.disabled (c.in-Ok-None.ensures.disabled off).1
