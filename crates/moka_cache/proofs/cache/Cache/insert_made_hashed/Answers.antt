use Rattle.std.proofs.Common.{refl, Ok, Err, sym, true≢false}
use Rattle.std.proofs.lemmas.Result.{err_from_is_err_and}
use Rattle.moka_types.specs.declared.error.InsertError.TheVariants as insert_error
use Rattle.moka_cache.proofs.Getting.{not_cloned, cloned, not_inserted}
use Rattle.moka_cache.proofs.cache.Cache.insert_made_hashed.Goals as goal

pub returns-in_default-clause-made : goal.returns-in_default-clause-made
returns-in_default-clause-made g c =
    (Err (record { error = insert_error.OutOfMemory; key = c.args.put.key; value = c.args.put.value }), refl, not_cloned g.V.Clone.is_clone _ c.args.put.key _ c.args.now c.args.self.now.engine c.args.self.now.engine c.args.clock.now c.args.clock.now c.args.put.value)

pub returns-clause-made : goal.returns-clause-made
returns-clause-made g c =
    (Ok c.args.put.value, c.in-Ok.ensures.cases, cloned g.V.Clone.is_clone _ c.args.put.key _ c.args.now c.args.self.now.engine c.insert_hashed.new.self.engine c.args.clock.now c.insert_hashed.new.clock c.args.put.value c.in_ok-insert_hashed.ensures.made)

pub returns-in_err-insert_hashed-clause-made : goal.returns-in_err-insert_hashed-clause-made
returns-in_err-insert_hashed-clause-made g c =
    let p = err_from_is_err_and c.from_residual.result c.from_residual.ensures.1 in
    rw (p.1, p.2) (Err c.in_err-insert_hashed.field-0.0, refl, not_inserted g.V.Clone.is_clone _ c.args.put.key _ c.args.now c.args.self.now.engine c.insert_hashed.new.self.engine c.args.clock.now c.insert_hashed.new.clock c.args.put.value c.in_err-insert_hashed.field-0.0 c.in_err-insert_hashed.ensures.made)

pub returns-in_err-insert_hashed-clause-back : goal.returns-in_err-insert_hashed-clause-back
returns-in_err-insert_hashed-clause-back g c =
    let p = err_from_is_err_and c.from_residual.result c.from_residual.ensures.1 in
    rw (p.1, p.2) c.in_err-insert_hashed.ensures.back

pub returns-in_default-clause-disabled : goal.returns-in_default-clause-disabled
returns-in_default-clause-disabled g c = λ off both. c.in_default.ensures.cases both.1

pub returns-in_err-insert_hashed-clause-disabled : goal.returns-in_err-insert_hashed-clause-disabled
returns-in_err-insert_hashed-clause-disabled g c = λ off. absurd (true≢false (sym (c.in_err-insert_hashed.ensures.disabled off)))
