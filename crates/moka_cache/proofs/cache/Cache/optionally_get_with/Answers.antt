use Rattle.std.proofs.Common.{option_map, rules, of_calls}
use Rattle.std.specs.Prelude.{⊤}
use Rattle.std.specs.Result.{result_ok}
use Rattle.moka_records.specs.Hashing.{key_hash}
use Rattle.moka_calls.specs.Given.{if_made}
use Rattle.moka_cache.specs.Keyed.{IsOfClone, IsOfInsert}
use Rattle.moka_cache.proofs.Getting.{may_decline, refused_if_made}
use Rattle.moka_cache.proofs.cache.Cache.optionally_get_with.Goals as goal

pub returns-clause-step : goal.returns-clause-step
returns-clause-step g c =
    let got = c.try_get_with.ensures.step in
    let hash = key_hash g.S.BuildHasher g.S.Hasher.Hasher c.args.self.now.engine.hasher (g.K.Hash.hash_input c.args.key) in
    rw c.if_made.ensures (option_map result_ok got.0, if_made got.1, may_decline g.V.Clone.is_clone _ c.args.key hash c.args.now c.args.self.now c.try_get_with.new.self c.args.clock.now c.try_get_with.new.clock _ (g.F.FnOnce.post c.args.init tt) got.0 got.1 c.try_get_with.result got.2 (λ a called. search (of_calls, rules)))

pub returns-clause-looks_up : goal.returns-clause-looks_up
returns-clause-looks_up g c = λ granted. rw c.if_made.ensures (refused_if_made IsOfInsert c.try_get_with.result (c.try_get_with.ensures.looks_up granted))

pub returns-clause-disabled : goal.returns-clause-disabled
returns-clause-disabled g c = λ off. rw c.if_made.ensures (refused_if_made (IsOfClone (λ _. ⊤) g.V.Clone.is_infallible) c.try_get_with.result (c.try_get_with.ensures.disabled off))
