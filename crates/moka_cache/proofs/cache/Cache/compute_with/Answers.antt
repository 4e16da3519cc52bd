use Rattle.std.proofs.Common.{◌≡◌, false, ◌∙◌, ap, refl, sym, subst, ℕ, Option, Some, None, Ok, Err, true≢false}
use Rattle.std.specs.Prelude.{IfSome, Result, is_some}
use Rattle.moka_types.specs.declared.error.OutOfMemory.{OutOfMemory}
use Rattle.moka_records.specs.Hashing.{key_hash}
use Rattle.moka_records.proofs.Options.{none_by_test}
use Rattle.moka_calls.specs.declared.compute.CompResult.TheVariants.{StillNone, Unchanged}
use Rattle.moka_calls.specs.Compute.{Computed, HandsOutComputedPut, HandsOutLeft, Left, LeftNone, Puts, Takes}
use Rattle.moka_calls.specs.Synchronous.{GetsValue}
use Rattle.moka_cache.proofs.Computing.{computed_put, computed_take, heard, put_not_told, refused_put, refused_take, was_seen}
use Rattle.moka_cache.proofs.Settings.{kept_by_get}
use Rattle.moka_cache.proofs.cache.Cache.compute_with.Goals as goal

same_takes : {K V : Type 0} (a b : Option (V × Result (Unit {0}) OutOfMemory)) → ◌≡◌ {A = Option (Computed K V)} (Some (Takes a)) (Some (Takes b)) → a ≡ b
same_takes a b e = cc

seen_none : {V : Type 0} (seen : Option V) → ◌≡◌ {A = Result (Option V) OutOfMemory} (Ok seen) (Ok None) → seen ≡ None
seen_none seen e = cc

pub returns-in_default-clause-step : goal.returns-in_default-clause-step
returns-in_default-clause-step g c =
    let hash_by : g.row.S.Denot → ℕ = λ h. key_hash g.S.BuildHasher g.S.Hasher.Hasher h (g.K.Hash.hash_input c.args.key) in
    let got = c.in_default.ensures.made in
    (got.0, Err c.in_default.field-0, got.1, None, tt, refl, heard g.K.Clone.is_clone g.V.Clone.is_clone _ (GetsValue c.args.key (hash_by c.args.self.now.engine.hasher) c.args.now got.0) c.args.self.now.engine c.get_hashed.new.self.engine c.args.clock.now c.get_hashed.new.clock got.2, c.in_default.ensures.counted, tt, (λ taken e. absurd (cc)))

pub returns-in-Put-clause-step : goal.returns-in-Put-clause-step
returns-in-Put-clause-step g c =
    let hash_by : g.row.S.Denot → ℕ = λ h. key_hash g.S.BuildHasher g.S.Hasher.Hasher h (g.K.Hash.hash_input c.args.key) in
    let got = c.in-Ok.ensures.made in
    let put = c.put_computed.ensures.made in (
      got.0,
      Ok c.in-Ok.seen,
      got.1,
      Some (Puts c.in-Put.value put.0),
      (c.as_ref.result, c.as_ref.ensures.value, c.in-Put.ensures),
      subst (λ b. HandsOutComputedPut g.K.Clone.is_clone g.V.Clone.is_clone c.args.key b put.0 c.put_computed.result) c.is_some-is_there.ensures put.1,
      computed_put g.K.Clone.is_clone g.V.Clone.is_clone _ c.args.key hash_by c.args.now c.args.self.now.engine c.get_hashed.new.self.engine c.put_computed.new.self.engine c.args.clock.now c.get_hashed.new.clock c.put_computed.new.clock got.0 got.2 c.in-Put.value put.0 put.2,
      c.put_computed.ensures.counted ∙ c.in-Ok.ensures.counted,
      c.in-Ok.ensures.sees,
      (λ taken e. absurd (cc)),
    )

pub returns-in-Some-clause-step : goal.returns-in-Some-clause-step
returns-in-Some-clause-step g c =
    let hash_by : g.row.S.Denot → ℕ = λ h. key_hash g.S.BuildHasher g.S.Hasher.Hasher h (g.K.Hash.hash_input c.args.key) in
    let got = c.in-Ok.ensures.made in
    rw c.found.ensures (got.0, Ok c.in-Ok.seen, got.1, Some Left, (c.as_ref.result, c.as_ref.ensures.value, c.in-Nop.ensures), subst (λ o. HandsOutLeft g.K.Clone.is_clone g.V.Clone.is_clone c.args.key o (Ok (Unchanged (record { key = c.args.key; value = c.in-Some.value; is_fresh = false; is_old_value_replaced = false })))) (sym c.in-Some.is) (refl, (refl, refl, refl)), heard g.K.Clone.is_clone g.V.Clone.is_clone _ (GetsValue c.args.key (hash_by c.args.self.now.engine.hasher) c.args.now got.0) c.args.self.now.engine c.get_hashed.new.self.engine c.args.clock.now c.get_hashed.new.clock got.2, c.in-Ok.ensures.counted, c.in-Ok.ensures.sees, (λ taken e. absurd (cc)))

pub returns-in-Nop-clause-step : goal.returns-in-Nop-clause-step
returns-in-Nop-clause-step g c =
    let hash_by : g.row.S.Denot → ℕ = λ h. key_hash g.S.BuildHasher g.S.Hasher.Hasher h (g.K.Hash.hash_input c.args.key) in
    let got = c.in-Ok.ensures.made in
    (got.0, Ok c.in-Ok.seen, got.1, Some Left, (c.as_ref.result, c.as_ref.ensures.value, c.in-Nop.ensures), subst (λ o. HandsOutLeft g.K.Clone.is_clone g.V.Clone.is_clone c.args.key o (Ok (StillNone c.args.key))) (sym c.in-None.is) refl, heard g.K.Clone.is_clone g.V.Clone.is_clone _ (GetsValue c.args.key (hash_by c.args.self.now.engine.hasher) c.args.now got.0) c.args.self.now.engine c.get_hashed.new.self.engine c.args.clock.now c.get_hashed.new.clock got.2, c.in-Ok.ensures.counted, c.in-Ok.ensures.sees, (λ taken e. absurd (cc)))

pub returns-then-is_there-clause-step : goal.returns-then-is_there-clause-step
returns-then-is_there-clause-step g c =
    let hash_by : g.row.S.Denot → ℕ = λ h. key_hash g.S.BuildHasher g.S.Hasher.Hasher h (g.K.Hash.hash_input c.args.key) in
    let got = c.in-Ok.ensures.made in
    let took = c.remove_computed.ensures.made in (
      got.0,
      Ok c.in-Ok.seen,
      got.1,
      Some (Takes took.0),
      (c.as_ref.result, c.as_ref.ensures.value, c.in-Remove.ensures),
      (sym c.is_some-is_there.ensures ∙ c.if-is_there.true, took.1),
      computed_take g.K.Clone.is_clone g.V.Clone.is_clone _ c.args.key hash_by c.args.now c.args.self.now.engine c.get_hashed.new.self.engine c.remove_computed.new.self.engine c.args.clock.now c.get_hashed.new.clock c.remove_computed.new.clock got.0 got.2 took.0 took.2,
      c.remove_computed.ensures.counted ∙ c.in-Ok.ensures.counted,
      c.in-Ok.ensures.sees,
      (λ taken is. (
        c.remove_computed.ensures.gone,
        subst (λ t. IfSome t (λ t. IfSome c.in-Ok.seen (g.V.Clone.is_clone t.0))) (same_takes took.0 taken is)
            (was_seen g.K.PartialEq.eq g.P.PredicateFn.says g.V.Clone.is_clone c.args.self.now.engine.state c.get_hashed.new.self.engine.state.records c.args.key c.args.now.0 c.in-Ok.seen took.0 c.in-Ok.ensures.sees c.in-Ok.ensures.stays took.3),
      )),
    )

pub returns-clause-step : goal.returns-clause-step
returns-clause-step g c =
    let hash_by : g.row.S.Denot → ℕ = λ h. key_hash g.S.BuildHasher g.S.Hasher.Hasher h (g.K.Hash.hash_input c.args.key) in
    let got = c.in-Ok.ensures.made in
    (got.0, Ok c.in-Ok.seen, got.1, Some LeftNone, (c.as_ref.result, c.as_ref.ensures.value, c.in-Remove.ensures), (none_by_test c.in-Ok.seen (sym c.is_some-is_there.ensures ∙ c.if-is_there.false), refl), heard g.K.Clone.is_clone g.V.Clone.is_clone _ (GetsValue c.args.key (hash_by c.args.self.now.engine.hasher) c.args.now got.0) c.args.self.now.engine c.get_hashed.new.self.engine c.args.clock.now c.get_hashed.new.clock got.2, c.in-Ok.ensures.counted, c.in-Ok.ensures.sees, (λ taken e. absurd (cc)))

pub returns-in_default-clause-looks_up : goal.returns-in_default-clause-looks_up
returns-in_default-clause-looks_up g c = λ granted. absurd (true≢false (sym (c.in_default.ensures.succeeds granted)))

pub returns-in-Put-clause-looks_up : goal.returns-in-Put-clause-looks_up
returns-in-Put-clause-looks_up g c = λ _. (let put = c.put_computed.ensures.made in refused_put g.K.Clone.is_clone g.V.Clone.is_clone c.args.key c.is_some-is_there.result put.0 c.put_computed.result put.1)

pub returns-then-is_there-clause-looks_up : goal.returns-then-is_there-clause-looks_up
returns-then-is_there-clause-looks_up g c = λ _. (let took = c.remove_computed.ensures.made in refused_take g.K.Clone.is_clone g.V.Clone.is_clone c.args.key took.0 c.remove_computed.result took.1)

pub returns-in-Put-clause-notified : goal.returns-in-Put-clause-notified
returns-in-Put-clause-notified g c = λ _. (let put = c.put_computed.ensures.made in put_not_told g.K.Clone.is_clone g.V.Clone.is_clone c.args.key c.is_some-is_there.result put.0 c.put_computed.result put.1)

pub returns-then-is_there-clause-notified : goal.returns-then-is_there-clause-notified
returns-then-is_there-clause-notified g c = λ granted.
    let hash = key_hash g.S.BuildHasher g.S.Hasher.Hasher c.args.self.now.engine.hasher (g.K.Hash.hash_input c.args.key) in
    let got = c.in-Ok.ensures.made in
    let settings = kept_by_get _ c.args.self.now.engine c.get_hashed.new.self.engine c.args.clock.now c.get_hashed.new.clock c.args.key hash c.args.now got.0 got.2 in
    c.remove_computed.ensures.notified (λ listening. granted (sym (ap (λ settings. settings.listening) settings) ∙ listening))

pub f-requires : goal.f-requires
f-requires g c = c.requires.callable c.as_ref.result (rw c.as_ref.ensures.value c.in-Ok.ensures.sees)

pub returns-in_default-clause-disabled : goal.returns-in_default-clause-disabled
returns-in_default-clause-disabled g c = λ off. let impossible : Err c.in_default.field-0 ≡ Ok None = (c.in_default.ensures.disabled off).0 in absurd (cc)

pub returns-in-Put-clause-disabled : goal.returns-in-Put-clause-disabled
returns-in-Put-clause-disabled g c = λ off. c.put_computed.ensures.disabled (c.in-Ok.ensures.disabled off).1

pub returns-then-is_there-clause-disabled : goal.returns-then-is_there-clause-disabled
returns-then-is_there-clause-disabled g c = λ off.
    let none : c.in-Ok.seen ≡ None = seen_none c.in-Ok.seen (c.in-Ok.ensures.disabled off).0 in
    absurd (true≢false (sym (sym c.is_some-is_there.ensures ∙ c.if-is_there.true) ∙ ap is_some none))
