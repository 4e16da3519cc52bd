use Rattle.std.proofs.Common.{◌∙◌, ap, arith, rules, sym, refl, true≢false, ℕ, [], ◌∷◌, ◌++◌, append_assoc, append-nil, length, map, inl, inr, Option, Ok, Err}
use Rattle.std.proofs.lemmas.List.{map-append, nil_from_length}
use Rattle.moka_types.specs.declared.error.OutOfMemory.{OutOfMemory}
use Rattle.moka_records.specs.Hashing.{key_hash}
use Rattle.moka_parts.specs.Counters.{after_look_up, after_look_ups}
use Rattle.moka_calls.specs.Many.{GetsItem}
use Rattle.moka_calls.specs.Synchronous.{GetsValue}
use Rattle.moka_cache.proofs.Gotten.{counts_one_more, got_item, refused_get}
use Rattle.moka_cache.proofs.InOrder.{made_none, made_next, made_last}
use Rattle.moka_calls.proofs.Made.{made_nothing}
use Rattle.moka_cache.proofs.cache.Cache.get_many.Goals as goal

pub returns-in_default-clause-made : goal.returns-in_default-clause-made
returns-in_default-clause-made g c =
    ([], [], inl (c.new-found.ensures.items, refl, refl), made_nothing _ c.args.self.now.engine c.args.clock.now)

pub loop-key-init : goal.loop-key-init
loop-key-init g c =
    let hash_by : g.row.S.Denot → g.row.K.Denot → ℕ = λ h key. key_hash g.S.BuildHasher g.S.Hasher.Hasher h (g.K.Hash.hash_input key) in
    record {
      made = ([], refl, c.in-Ok.ensures.items, made_none _ (GetsItem g.V.Clone.is_clone (hash_by c.args.self.now.engine.hasher) c.args.now) c.args.self.now.engine c.args.clock.now);
      counted = rw c.in-Ok.ensures.items refl;
      room = search rules;
    }

pub push_reserved-requires : goal.push_reserved-requires
push_reserved-requires g c = omega (arith, c.loop-key.invariant.room, ap length c.in-Some.ensures.cases.0)

pub loop-key-preserved : goal.loop-key-preserved
loop-key-preserved g c =
    let hash_by : g.row.S.Denot → g.row.K.Denot → ℕ = λ h key. key_hash g.S.BuildHasher g.S.Hasher.Hasher h (g.K.Hash.hash_input key) in
    let h = c.loop-key.invariant.made in
    let k = c.in-Ok-get.ensures.step.made in
    let item : g.row.K.Denot × Option g.row.V.Denot = (c.in-Some.key.now, c.in-Ok-get.value) in
    let got = got_item _ g.V.Clone.is_clone (hash_by c.loop-key.self.engine.hasher) c.args.now c.in-Some.key.now c.loop-key.self.engine c.get.new.self.engine c.loop-key.clock c.get.new.clock k.0 c.in-Ok-get.value k.1 k.2 in
    record {
      made = (
        h.0 ++ item ∷ [],
        h.1 ∙ (ap (λ xs. map (λ g. g.0) h.0 ++ xs) c.in-Some.ensures.cases.0 ∙ (sym (append_assoc (map (λ g. g.0) h.0) (c.in-Some.key.now ∷ []) c.in-Some.after.now) ∙ ap (λ xs. xs ++ c.in-Some.after.now) (sym (map-append (λ g. g.0) h.0 (item ∷ []))))),
        c.push_reserved.ensures.items ∙ (ap (λ xs. xs ++ c.in-Ok-get.value ∷ []) h.2 ∙ sym (map-append (λ g. g.1) h.0 (item ∷ []))),
        made_next _ hash_by (λ f. GetsItem g.V.Clone.is_clone f c.args.now) c.args.self.now.engine c.loop-key.self.engine c.get.new.self.engine c.args.clock.now c.loop-key.clock c.get.new.clock h.0 h.3 item got,
      );
      counted = c.in-Ok-get.ensures.step.counted ∙ (ap (after_look_up {E = OutOfMemory} (Ok c.in-Ok-get.value)) c.loop-key.invariant.counted ∙ (sym (counts_one_more c.loop-key.found.items c.in-Ok-get.value c.args.self.now.stats) ∙ ap (λ xs. after_look_ups xs c.args.self.now.stats) (sym c.push_reserved.ensures.items)));
      room = omega (arith, c.push_reserved.ensures.len, c.push_reserved.ensures.capacity, c.loop-key.invariant.room, ap length c.in-Some.ensures.cases.0);
    }

pub returns-in-Err-clause-made : goal.returns-in-Err-clause-made
returns-in-Err-clause-made g c =
    let hash_by : g.row.S.Denot → g.row.K.Denot → ℕ = λ h key. key_hash g.S.BuildHasher g.S.Hasher.Hasher h (g.K.Hash.hash_input key) in
    let h = c.loop-key.invariant.made in
    let k = c.in-Err.ensures.step.made in
    let refused = refused_get _ g.V.Clone.is_clone (hash_by c.loop-key.self.engine.hasher) c.args.now c.in-Some.key.now c.loop-key.self.engine c.get.new.self.engine c.loop-key.clock c.get.new.clock k.0 c.in-Err.field-0 k.1 k.2 in
    let last = made_last _ hash_by (λ f. GetsItem g.V.Clone.is_clone f c.args.now) c.args.self.now.engine c.loop-key.self.engine c.get.new.self.engine c.args.clock.now c.loop-key.clock c.get.new.clock h.0 h.3 (λ f. GetsValue c.in-Some.key.now (f c.in-Some.key.now) c.args.now (Err refused.0)) refused.1 in (
      last.0,
      last.1,
      inr (h.0, c.in-Some.key.now, c.in-Some.after.now, h.1 ∙ ap (λ xs. map (λ g. g.0) h.0 ++ xs) c.in-Some.ensures.cases.0, h.2, refused.0, last.2),
      last.3,
    )

pub returns-in-Err-clause-counted : goal.returns-in-Err-clause-counted
returns-in-Err-clause-counted g c = c.in-Err.ensures.step.counted ∙ c.loop-key.invariant.counted

pub returns-clause-made : goal.returns-clause-made
returns-clause-made g c =
    let h = c.loop-key.invariant.made in
    let none = nil_from_length c.loop-key.rest.now c.in_default-split_first.ensures.cases in
    let all = h.1 ∙ (ap (λ xs. map (λ g. g.0) h.0 ++ xs) none ∙ append-nil (map (λ g. g.0) h.0)) in
    (h.3.0, h.3.1, (h.0, all, h.2, h.3.2), h.3.3)

pub returns-clause-counted : goal.returns-clause-counted
returns-clause-counted g c = c.loop-key.invariant.counted

pub returns-in-Err-clause-looks_up : goal.returns-in-Err-clause-looks_up
returns-in-Err-clause-looks_up g c = λ granted. absurd (true≢false (sym (c.in-Err.ensures.succeeds (λ r there. granted r.value))))
