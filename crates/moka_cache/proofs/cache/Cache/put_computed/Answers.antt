use Rattle.std.proofs.Common.{ℕ, ◌∙◌}
use Rattle.std.proofs.lemmas.Result.{err_from_is_err_and}
use Rattle.moka_records.specs.Hashing.{key_hash}
use Rattle.moka_calls.specs.Synchronous.{InsertsMade, Makes}
use Rattle.moka_cache.proofs.Computing.{put_inserted, put_refused, put_replaced}
use Rattle.moka_cache.proofs.cache.Cache.put_computed.Goals as goal

pub returns-in_err-entry-clause-made : goal.returns-in_err-entry-clause-made
returns-in_err-entry-clause-made g c =
    let hash_by : g.row.S.Denot → ℕ = λ h. key_hash g.S.BuildHasher g.S.Hasher.Hasher h (g.K.Hash.hash_input c.args.put.key) in
    let p = err_from_is_err_and c.from_residual.result c.from_residual.ensures.1 in
    rw (p.1, p.2) (put_refused g.K.Clone.is_clone g.V.Clone.is_clone c.args.put.key (λ own. Makes _ (InsertsMade c.args.put.key (hash_by c.args.self.now.engine.hasher) c.args.now c.args.put.value own) c.args.self.now.engine c.args.clock.now c.insert_entry.new.self.engine c.insert_entry.new.clock) c.args.is_there c.in_err-entry.field-0.0 c.in_err-entry.ensures.made)

pub returns-then-is_there-clause-made : goal.returns-then-is_there-clause-made
returns-then-is_there-clause-made g c =
    let hash_by : g.row.S.Denot → ℕ = λ h. key_hash g.S.BuildHasher g.S.Hasher.Hasher h (g.K.Hash.hash_input c.args.put.key) in
    let entry = c.in_ok-entry.ensures.entry in
    rw c.if-is_there.true (put_replaced g.K.Clone.is_clone g.V.Clone.is_clone c.args.put.key (λ own. Makes _ (InsertsMade c.args.put.key (hash_by c.args.self.now.engine.hasher) c.args.now c.args.put.value own) c.args.self.now.engine c.args.clock.now c.insert_entry.new.self.engine c.insert_entry.new.clock) c.in_ok-entry.entry c.in_ok-entry.ensures.made (entry.0, entry.1 ∙ c.if-is_there.true))

pub returns-else-is_there-clause-made : goal.returns-else-is_there-clause-made
returns-else-is_there-clause-made g c =
    let hash_by : g.row.S.Denot → ℕ = λ h. key_hash g.S.BuildHasher g.S.Hasher.Hasher h (g.K.Hash.hash_input c.args.put.key) in
    let entry = c.in_ok-entry.ensures.entry in
    rw c.if-is_there.false (put_inserted g.K.Clone.is_clone g.V.Clone.is_clone c.args.put.key (λ own. Makes _ (InsertsMade c.args.put.key (hash_by c.args.self.now.engine.hasher) c.args.now c.args.put.value own) c.args.self.now.engine c.args.clock.now c.insert_entry.new.self.engine c.insert_entry.new.clock) c.in_ok-entry.entry c.in_ok-entry.ensures.made (entry.0, entry.1 ∙ c.if-is_there.false))

pub returns-in_err-entry-clause-disabled : goal.returns-in_err-entry-clause-disabled
returns-in_err-entry-clause-disabled g c =
    let p = err_from_is_err_and c.from_residual.result c.from_residual.ensures.1 in
    rw (p.1, p.2) (λ off. c.in_err-entry.ensures.disabled off)
