use Rattle.std.proofs.Common.{◌≡◌, ℕ, rules, refl, Some, None, Ok, Err, sym, true≢false}
use Rattle.moka_records.specs.Hashing.{key_hash}
use Rattle.moka_cache.proofs.Getting.{failed, got_refused, got_value, made_and_handed_out}
use Rattle.moka_cache.proofs.entry_selector.OwnedKeyEntrySelector.or_try_insert_with.Goals as goal

pub returns-in-Ok-Some-clause-step : goal.returns-in-Ok-Some-clause-step
returns-in-Ok-Some-clause-step g c =
    let hash_by : g.row.S.Denot → ℕ = λ h. key_hash g.S.BuildHasher g.S.Hasher.Hasher h (g.K.Hash.hash_input c.args.self.key) in
    let came = got_value g.V.Clone.is_clone _ c.args.self.key hash_by c.args.now c.args.self.cache.now c.get_hashed.new.self c.args.clock.now c.get_hashed.new.clock (λ a. g.F.FnOnce.post c.args.init tt a) _ c.in-Ok-Some.value c.in-Ok-Some.field-0-is c.in-Ok-Some.ensures.made c.in-Ok-Some.ensures.counted c.in-Ok-Some.ensures.sees in
    rw c.found.ensures (None, Ok (Ok came.0), (refl, refl, refl), came.1)

pub returns-in-Err-clause-step : goal.returns-in-Err-clause-step
returns-in-Err-clause-step g c =
    let hash_by : g.row.S.Denot → ℕ = λ h. key_hash g.S.BuildHasher g.S.Hasher.Hasher h (g.K.Hash.hash_input c.args.self.key) in
    let came = got_refused g.V.Clone.is_clone _ c.args.self.key hash_by c.args.now c.args.self.cache.now c.get_hashed.new.self c.args.clock.now c.get_hashed.new.clock (λ a. g.F.FnOnce.post c.args.init tt a) c.in-Err.field-0 c.in-Err.ensures.made c.in-Err.ensures.counted c.in-Err.ensures.unchanged.0 in
    (None, Err None, tt, came)

pub returns-in-Err-init-clause-step : goal.returns-in-Err-init-clause-step
returns-in-Err-init-clause-step g c =
    let hash_by : g.row.S.Denot → ℕ = λ h. key_hash g.S.BuildHasher g.S.Hasher.Hasher h (g.K.Hash.hash_input c.args.self.key) in
    let came = failed g.V.Clone.is_clone _ c.args.self.key hash_by c.args.now c.args.self.cache.now c.get_hashed.new.self c.args.clock.now c.get_hashed.new.clock _ c.in-Ok-None.field-0-is c.in-Ok-None.ensures.made c.in-Ok-None.ensures.counted c.count_load.new.self c.count_load.ensures (λ a. g.F.FnOnce.post c.args.init tt a) c.in-Err-init.error c.in-Err-init.ensures in
    (Some (Err c.in-Err-init.error), came.0, tt, came.1)

pub returns-clause-step : goal.returns-clause-step
returns-clause-step g c =
    let hash_by : g.row.S.Denot → ℕ = λ h. key_hash g.S.BuildHasher g.S.Hasher.Hasher h (g.K.Hash.hash_input c.args.self.key) in
    let came = made_and_handed_out g.V.Clone.is_clone _ c.args.self.key hash_by c.args.now c.args.self.cache.now c.get_hashed.new.self c.args.clock.now c.get_hashed.new.clock _ c.in-Ok-None.field-0-is c.in-Ok-None.ensures.made c.in-Ok-None.ensures.counted c.count_load.new.self c.count_load.ensures c.in-Ok-None.ensures.sees (λ a. g.F.FnOnce.post c.args.init tt a) c.in-Ok.value c.in-Ok.ensures c.insert_entry.new.self c.insert_entry.new.clock c.insert_entry.ensures.counted (Ok c.in-Ok-insert_entry.entry.value) c.in-Ok-insert_entry.ensures.made tt in
    (Some (Ok c.in-Ok.value), came.0, c.in-Ok-insert_entry.ensures.entry, came.1)

pub returns-in-Err-insert_entry-clause-step : goal.returns-in-Err-insert_entry-clause-step
returns-in-Err-insert_entry-clause-step g c =
    let hash_by : g.row.S.Denot → ℕ = λ h. key_hash g.S.BuildHasher g.S.Hasher.Hasher h (g.K.Hash.hash_input c.args.self.key) in
    let came = made_and_handed_out g.V.Clone.is_clone _ c.args.self.key hash_by c.args.now c.args.self.cache.now c.get_hashed.new.self c.args.clock.now c.get_hashed.new.clock _ c.in-Ok-None.field-0-is c.in-Ok-None.ensures.made c.in-Ok-None.ensures.counted c.count_load.new.self c.count_load.ensures c.in-Ok-None.ensures.sees (λ a. g.F.FnOnce.post c.args.init tt a) c.in-Ok.value c.in-Ok.ensures c.insert_entry.new.self c.insert_entry.new.clock c.insert_entry.ensures.counted (Err c.in-Err-insert_entry.refused) c.in-Err-insert_entry.ensures.made c.in-Err-insert_entry.ensures.back in
    (Some (Ok c.in-Ok.value), came.0, tt, came.1)

pub returns-in-Err-clause-looks_up : goal.returns-in-Err-clause-looks_up
returns-in-Err-clause-looks_up g c = λ granted. absurd (true≢false (sym (c.in-Err.ensures.succeeds granted)))

pub init-requires : goal.init-requires
init-requires g c = c.requires.callable (search rules)

pub returns-in-Err-clause-disabled : goal.returns-in-Err-clause-disabled
returns-in-Err-clause-disabled g c = λ off. let impossible : Err c.in-Err.field-0 ≡ Ok None = (c.in-Err.ensures.disabled off).0 in absurd (cc)

pub returns-in-Err-insert_entry-clause-disabled : goal.returns-in-Err-insert_entry-clause-disabled
returns-in-Err-insert_entry-clause-disabled g c = λ off. c.in-Err-insert_entry.ensures.disabled (rw c.count_load.ensures (c.in-Ok-None.ensures.disabled off).1)
