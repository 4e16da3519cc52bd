use Rattle.std.proofs.Common.{refl, Err}
use Rattle.std.proofs.lemmas.Result.{err_from_is_err_and}
use Rattle.moka_types.specs.declared.error.InsertError.TheVariants as insert_error
use Rattle.moka_cache.proofs.Getting.{not_cloned}
use Rattle.moka_cache.proofs.cache.Cache.insert_entry.Goals as goal

pub returns-in_default-clause-made : goal.returns-in_default-clause-made
returns-in_default-clause-made g c =
    (Err (record { error = insert_error.OutOfMemory; key = c.args.put.key; value = c.args.put.value }), refl, not_cloned g.V.Clone.is_clone _ c.args.put.key _ c.args.now c.args.self.now.engine c.args.self.now.engine c.args.clock.now c.args.clock.now c.args.put.value)

pub returns-in_err-value-clause-made : goal.returns-in_err-value-clause-made
returns-in_err-value-clause-made g c =
    let p = err_from_is_err_and c.from_residual.result c.from_residual.ensures.1 in
    rw (p.1, p.2) c.in_err-value.ensures.made

pub returns-in_default-clause-disabled : goal.returns-in_default-clause-disabled
returns-in_default-clause-disabled g c = λ off both. c.in_default.ensures.cases both.0

pub returns-in_err-value-clause-disabled : goal.returns-in_err-value-clause-disabled
returns-in_err-value-clause-disabled g c =
    let p = err_from_is_err_and c.from_residual.result c.from_residual.ensures.1 in
    rw (p.1, p.2) (λ off both. c.in_err-value.ensures.disabled off (tt, both.1))
