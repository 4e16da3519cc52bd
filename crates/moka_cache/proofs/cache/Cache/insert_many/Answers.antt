use Rattle.std.proofs.Common.{◌∙◌, ap, arith, sym, refl, ℕ, [], ◌∷◌, ◌++◌, append_assoc, append-nil, length-append, Err}
use Rattle.std.specs.Vec.Iter.{into_iter_items}
use Rattle.std.proofs.lemmas.List.{nil_from_length}
use Rattle.moka_records.specs.Hashing.{key_hash}
use Rattle.moka_calls.specs.Many.{InsertsItem}
use Rattle.moka_calls.specs.Synchronous.{InsertsEntry}
use Rattle.moka_cache.proofs.InOrder.{made_none, made_next, made_last, refused_item}
use Rattle.moka_cache.proofs.cache.Cache.insert_many.Goals as goal

pub loop-key-init : goal.loop-key-init
loop-key-init g c =
    let hash_by : g.row.S.Denot → g.row.K.Denot → ℕ = λ h key. key_hash g.S.BuildHasher g.S.Hasher.Hasher h (g.K.Hash.hash_input key) in
    record {
      made = ([], sym c.into_iter-rest.ensures.rest, omega (arith, c.into_iter-rest.ensures.len, c.len-total.ensures), made_none _ (InsertsItem (hash_by c.args.self.now.engine.hasher) c.args.now) c.args.self.now.engine c.args.clock.now);
      counted = refl;
    }

pub loop-key-preserved : goal.loop-key-preserved
loop-key-preserved g c =
    let hash_by : g.row.S.Denot → g.row.K.Denot → ℕ = λ h key. key_hash g.S.BuildHasher g.S.Hasher.Hasher h (g.K.Hash.hash_input key) in
    let h = c.loop-key.invariant.made in
    record {
      made = (
        h.0 ++ (c.in-Some.key, c.in-Some.value) ∷ [],
        h.1 ∙ (ap (λ xs. h.0 ++ xs) c.in-Some.ensures.items ∙ sym (append_assoc h.0 ((c.in-Some.key, c.in-Some.value) ∷ []) (into_iter_items c.next.new.self))),
        omega (arith, h.2, c.in-Some.ensures.len, length-append h.0 ((c.in-Some.key, c.in-Some.value) ∷ [])),
        made_next _ hash_by (λ f. InsertsItem f c.args.now) c.args.self.now.engine c.loop-key.self.engine c.insert.new.self.engine c.args.clock.now c.loop-key.clock c.insert.new.clock h.0 h.3 (c.in-Some.key, c.in-Some.value) c.in-Ok.ensures.made,
      );
      counted = c.in-Ok.ensures.counted ∙ c.loop-key.invariant.counted;
    }

pub returns-in-Err-clause-made : goal.returns-in-Err-clause-made
returns-in-Err-clause-made g c =
    let hash_by : g.row.S.Denot → g.row.K.Denot → ℕ = λ h key. key_hash g.S.BuildHasher g.S.Hasher.Hasher h (g.K.Hash.hash_input key) in
    let h = c.loop-key.invariant.made in
    let r = c.in-Err.refused in
    let back = c.in-Err.ensures.back in
    let own = refused_item _ r c.in-Some.key c.in-Some.value (hash_by c.loop-key.self.engine.hasher) c.args.now c.loop-key.self.engine c.insert.new.self.engine c.loop-key.clock c.insert.new.clock back.0 back.1 c.in-Err.ensures.made in
    let last = made_last _ hash_by (λ f. InsertsItem f c.args.now) c.args.self.now.engine c.loop-key.self.engine c.insert.new.self.engine c.args.clock.now c.loop-key.clock c.insert.new.clock h.0 h.3 (λ f. InsertsEntry r.key (f r.key) r.value c.args.now (Err r)) own in (
      last.0,
      last.1,
      (
        h.0,
        rw (back.0, back.1) (h.1 ∙ ap (λ xs. h.0 ++ xs) c.in-Some.ensures.items),
        omega (arith, h.2, c.in-Some.ensures.len, c.len.ensures),
        last.2,
      ),
      last.3,
    )

pub returns-clause-made : goal.returns-clause-made
returns-clause-made g c =
    let h = c.loop-key.invariant.made in
    let all = h.1 ∙ (ap (λ xs. h.0 ++ xs) (nil_from_length (into_iter_items c.loop-key.rest) (sym c.loop-key.rest.rest.ok.0 ∙ c.in_default.ensures.cases.0)) ∙ append-nil h.0) in
    rw all h.3
