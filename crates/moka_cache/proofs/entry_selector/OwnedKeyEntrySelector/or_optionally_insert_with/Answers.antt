use Rattle.std.proofs.Common.{rules, of_calls}
use Rattle.moka_records.specs.Hashing.{key_hash}
use Rattle.moka_cache.specs.Keyed.{IsOfClone, IsOfInsert}
use Rattle.moka_cache.proofs.Getting.{refused_if_made}
use Rattle.moka_cache.proofs.Entries.{may_be_fresh}
use Rattle.moka_cache.proofs.entry_selector.OwnedKeyEntrySelector.or_optionally_insert_with.Goals as goal

pub returns-clause-step : goal.returns-clause-step
returns-clause-step g c =
    let hash = key_hash g.S.BuildHasher g.S.Hasher.Hasher c.args.self.cache.now.engine.hasher (g.K.Hash.hash_input c.args.self.key) in
    rw c.if_made.ensures (may_be_fresh g.K.Clone.is_clone g.V.Clone.is_clone _ c.args.self.key hash c.args.now c.args.self.cache.now c.or_try_insert_with.new.self.0 c.args.clock.now c.or_try_insert_with.new.clock _ (g.F.FnOnce.post c.args.init tt) c.or_try_insert_with.result c.or_try_insert_with.ensures.step (λ a called. search (of_calls, rules)))

pub returns-clause-looks_up : goal.returns-clause-looks_up
returns-clause-looks_up g c = λ granted. rw c.if_made.ensures (refused_if_made IsOfInsert c.or_try_insert_with.result (c.or_try_insert_with.ensures.looks_up granted))

pub returns-clause-disabled : goal.returns-clause-disabled
returns-clause-disabled g c = λ off. rw c.if_made.ensures (refused_if_made (IsOfClone g.K.Clone.is_infallible g.V.Clone.is_infallible) c.or_try_insert_with.result (c.or_try_insert_with.ensures.disabled off))
