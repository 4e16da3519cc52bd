use Rattle.std.proofs.Common.{rules, of_calls}
use Rattle.moka_records.specs.Hashing.{key_hash}
use Rattle.moka_cache.specs.Keyed.{IsOfClone, IsOfInsert}
use Rattle.moka_cache.proofs.Getting.{refused_anyway}
use Rattle.moka_cache.proofs.Entries.{always_fresh}
use Rattle.moka_cache.proofs.entry_selector.OwnedKeyEntrySelector.or_insert_with.Goals as goal

pub returns-clause-step : goal.returns-clause-step
returns-clause-step g c =
    let got = rw c.always_made.ensures at c.or_try_insert_with.ensures.step in
    let hash = key_hash g.S.BuildHasher g.S.Hasher.Hasher c.args.self.cache.now.engine.hasher (g.K.Hash.hash_input c.args.self.key) in
    always_fresh g.K.Clone.is_clone g.V.Clone.is_clone _ c.args.self.key hash c.args.now c.args.self.cache.now c.or_try_insert_with.new.self.0 c.args.clock.now c.or_try_insert_with.new.clock _ (g.F.FnOnce.post c.args.init tt) c.always_made.result got (λ v called. search (of_calls, rules))

pub returns-clause-looks_up : goal.returns-clause-looks_up
returns-clause-looks_up g c = λ granted. refused_anyway IsOfInsert c.always_made.result (rw c.always_made.ensures at (c.or_try_insert_with.ensures.looks_up granted))

pub returns-clause-disabled : goal.returns-clause-disabled
returns-clause-disabled g c = λ off. refused_anyway (IsOfClone g.K.Clone.is_infallible g.V.Clone.is_infallible) c.always_made.result (rw c.always_made.ensures at (c.or_try_insert_with.ensures.disabled off))
