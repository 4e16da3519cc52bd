use Rattle.std.proofs.Common.{rules, of_calls}
use Rattle.std.specs.Prelude.{⊤}
use Rattle.moka_records.specs.Hashing.{key_hash}
use Rattle.moka_cache.specs.Keyed.{IsOfClone, IsOfInsert}
use Rattle.moka_cache.proofs.Getting.{always_answers, refused_anyway}
use Rattle.moka_cache.proofs.cache.Cache.get_with.Goals as goal

pub returns-clause-step : goal.returns-clause-step
returns-clause-step g c =
    let got = c.try_get_with.ensures.step in
    let hash = key_hash g.S.BuildHasher g.S.Hasher.Hasher c.args.self.now.engine.hasher (g.K.Hash.hash_input c.args.key) in
    let came = always_answers g.V.Clone.is_clone _ c.args.key hash c.args.now c.args.self.now c.try_get_with.new.self c.args.clock.now c.try_get_with.new.clock _ (g.F.FnOnce.post c.args.init tt) got.0 got.1 c.always_made.result (rw c.always_made.ensures at got.2) (λ v called. search (of_calls, rules)) in
    (came.0, came.1, came.3)

pub returns-clause-looks_up : goal.returns-clause-looks_up
returns-clause-looks_up g c = λ granted. refused_anyway IsOfInsert c.always_made.result (rw c.always_made.ensures at (c.try_get_with.ensures.looks_up granted))

pub returns-clause-disabled : goal.returns-clause-disabled
returns-clause-disabled g c = λ off. refused_anyway (IsOfClone (λ _. ⊤) g.V.Clone.is_infallible) c.always_made.result (rw c.always_made.ensures at (c.try_get_with.ensures.disabled off))
