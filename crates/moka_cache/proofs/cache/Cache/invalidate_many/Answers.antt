use Rattle.std.proofs.Common.{◌∙◌, ap, arith, sym, refl, true≢false, ℕ, [], ◌∷◌, ◌++◌, append_assoc, append-nil, length, length-append, Ok, Err}
use Rattle.std.proofs.lemmas.List.{nil_from_length}
use Rattle.moka_records.specs.Hashing.{key_hash}
use Rattle.moka_calls.specs.Many.{Invalidates}
use Rattle.moka_cache.proofs.InOrder.{made_none, made_next, made_last}
use Rattle.moka_cache.proofs.Settings.{kept_by_removal}
use Rattle.moka_cache.proofs.cache.Cache.invalidate_many.Goals as goal

pub loop-key-init : goal.loop-key-init
loop-key-init g c =
    let hash_by : g.row.S.Denot → g.row.K.Denot → ℕ = λ h key. key_hash g.S.BuildHasher g.S.Hasher.Hasher h (g.K.Hash.hash_input key) in
    record {
      made = ([], refl, made_none _ (Invalidates (hash_by c.args.self.now.engine.hasher) c.args.now (Ok tt)) c.args.self.now.engine c.args.clock.now);
      settings = refl;
      counted = refl;
    }

pub loop-key-preserved : goal.loop-key-preserved
loop-key-preserved g c =
    let hash_by : g.row.S.Denot → g.row.K.Denot → ℕ = λ h key. key_hash g.S.BuildHasher g.S.Hasher.Hasher h (g.K.Hash.hash_input key) in
    let h = c.loop-key.invariant.made in
    let k = c.in-Ok.ensures.step.made in
    record {
      made = (
        h.0 ++ c.in-Some.key.now ∷ [],
        h.1 ∙ (ap (λ xs. h.0 ++ xs) c.in-Some.ensures.cases.0 ∙ sym (append_assoc h.0 (c.in-Some.key.now ∷ []) c.in-Some.after.now)),
        made_next _ hash_by (λ f. Invalidates f c.args.now (Ok tt)) c.args.self.now.engine c.loop-key.self.engine c.invalidate.new.self.engine c.args.clock.now c.loop-key.clock c.invalidate.new.clock h.0 h.2 c.in-Some.key.now (k.2.0, k.2.1, (k.0, k.1, k.2.2), k.2.3),
      );
      settings = kept_by_removal _ c.loop-key.self.engine c.invalidate.new.self.engine c.loop-key.clock c.invalidate.new.clock c.in-Some.key.now (hash_by c.loop-key.self.engine.hasher c.in-Some.key.now) c.args.now k.0 k.2 ∙ c.loop-key.invariant.settings;
      counted = c.in-Ok.ensures.step.counted ∙ c.loop-key.invariant.counted;
    }

pub returns-in-Err-clause-made : goal.returns-in-Err-clause-made
returns-in-Err-clause-made g c =
    let hash_by : g.row.S.Denot → g.row.K.Denot → ℕ = λ h key. key_hash g.S.BuildHasher g.S.Hasher.Hasher h (g.K.Hash.hash_input key) in
    let h = c.loop-key.invariant.made in
    let k = c.in-Err.ensures.step.made in
    let last = made_last _ hash_by (λ f. Invalidates f c.args.now (Ok tt)) c.args.self.now.engine c.loop-key.self.engine c.invalidate.new.self.engine c.args.clock.now c.loop-key.clock c.invalidate.new.clock h.0 h.2 (λ f. Invalidates f c.args.now (Err c.in-Err.refused) c.in-Some.key.now) (k.2.0, k.2.1, (k.0, k.1, k.2.2), k.2.3) in (
      last.0,
      last.1,
      (
        h.0,
        c.in-Some.key.now,
        c.in-Some.after.now,
        h.1 ∙ ap (λ xs. h.0 ++ xs) c.in-Some.ensures.cases.0,
        omega (arith, ap length h.1, length-append h.0 c.loop-key.rest.now),
        last.2,
      ),
      last.3,
    )

pub returns-clause-made : goal.returns-clause-made
returns-clause-made g c =
    let h = c.loop-key.invariant.made in
    let all = h.1 ∙ (ap (λ xs. h.0 ++ xs) (nil_from_length c.loop-key.rest.now c.in_default.ensures.cases) ∙ append-nil h.0) in
    rw all h.2

pub returns-in-Err-clause-succeeds : goal.returns-in-Err-clause-succeeds
returns-in-Err-clause-succeeds g c = λ granted. absurd (true≢false (sym (c.in-Err.ensures.succeeds (λ listening r there.
    let can = granted (sym (ap (λ settings. settings.listening) c.loop-key.invariant.settings) ∙ listening) in
    (can.0 r.key, can.1 r.value)))))
