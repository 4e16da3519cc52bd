use Rattle.std.proofs.Common.{◌≡◌, ℕ, ◌∙◌, refl, rules, sym, subst, Some, None, Ok, Err, true≢false}
use Rattle.std.proofs.lemmas.Result.{err_from_is_err_and}
use Rattle.moka_records.specs.Hashing.{key_hash}
use Rattle.moka_cache.proofs.Computing.{upserted}
use Rattle.moka_cache.proofs.entry_selector.OwnedKeyEntrySelector.and_upsert_with.Goals as goal

pub returns-clause-step : goal.returns-clause-step
returns-clause-step g c =
    let hash_by : g.row.S.Denot → ℕ = λ h. key_hash g.S.BuildHasher g.S.Hasher.Hasher h (g.K.Hash.hash_input c.args.self.key) in
    let got = c.in-Ok.ensures.made in
    let put = upserted g.K.Clone.is_clone g.V.Clone.is_clone _ c.args.self.key hash_by c.args.now c.args.self.cache.now.engine c.get_hashed.new.self.engine c.insert_entry.new.self.engine c.args.clock.now c.get_hashed.new.clock c.insert_entry.new.clock got.0 c.in-Ok.seen c.is_some-is_there.result c.f-value.result (Ok c.in_ok-insert_entry.field-0) got.2 c.is_some-is_there.ensures c.in_ok-insert_entry.ensures.made c.in_ok-insert_entry.ensures.entry in
    (got.0, Ok c.in-Ok.seen, got.1, Some (c.f-value.result, put.0), c.f-value.ensures, put.1, put.2, c.in_ok-insert_entry.ensures.counted ∙ c.in-Ok.ensures.counted, c.in-Ok.ensures.sees, tt)

pub returns-in_err-insert_entry-clause-step : goal.returns-in_err-insert_entry-clause-step
returns-in_err-insert_entry-clause-step g c =
    let hash_by : g.row.S.Denot → ℕ = λ h. key_hash g.S.BuildHasher g.S.Hasher.Hasher h (g.K.Hash.hash_input c.args.self.key) in
    let got = c.in-Ok.ensures.made in
    let put = upserted g.K.Clone.is_clone g.V.Clone.is_clone _ c.args.self.key hash_by c.args.now c.args.self.cache.now.engine c.get_hashed.new.self.engine c.insert_entry.new.self.engine c.args.clock.now c.get_hashed.new.clock c.insert_entry.new.clock got.0 c.in-Ok.seen c.is_some-is_there.result c.f-value.result (Err c.in_err-insert_entry.field-0.0) got.2 c.is_some-is_there.ensures c.in_err-insert_entry.ensures.made c.in_err-insert_entry.ensures.entry in
    let back = c.in_err-insert_entry.ensures.back in
    let p = err_from_is_err_and c.from_residual.result c.from_residual.ensures.1 in
    rw (p.1, p.2) (got.0, Ok c.in-Ok.seen, got.1, Some (c.f-value.result, put.0), c.f-value.ensures, put.1, put.2, c.in_err-insert_entry.ensures.counted ∙ c.in-Ok.ensures.counted, c.in-Ok.ensures.sees, (back.0, (c.in-Ok.seen, refl, subst (g.F.FnOnce.post c.args.f (c.in-Ok.seen, tt)) (sym back.1) c.f-value.ensures)))

pub returns-in_default-clause-looks_up : goal.returns-in_default-clause-looks_up
returns-in_default-clause-looks_up g c = λ granted. absurd (true≢false (sym (c.in_default.ensures.succeeds granted)))

pub f-value-requires : goal.f-value-requires
f-value-requires g c = c.requires.callable _ (search rules)

pub returns-in_default-clause-disabled : goal.returns-in_default-clause-disabled
returns-in_default-clause-disabled g c = λ off. let impossible : Err c.in_default.field-0 ≡ Ok None = (c.in_default.ensures.disabled off).0 in absurd (cc)

pub returns-in_err-insert_entry-clause-disabled : goal.returns-in_err-insert_entry-clause-disabled
returns-in_err-insert_entry-clause-disabled g c =
    let p = err_from_is_err_and c.from_residual.result c.from_residual.ensures.1 in
    rw (p.1, p.2) (λ off. c.in_err-insert_entry.ensures.disabled (c.in-Ok.ensures.disabled off).1)
