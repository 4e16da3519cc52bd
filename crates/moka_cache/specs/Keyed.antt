-- What a call by key promises of a synchronous cache, whoever makes it: a caller, a cache with a clock of its own, or
-- one in segments.
use Rattle.std.specs.Prelude.{◌≡◌, ℕ, Bool, [], true, false, Option, Some, None, Result, IfOk, IfErr, IfSome, OnErr, is_some, ⊤}
use Rattle.moka_types.specs.declared.error.InsertRefused.{InsertRefused}
use Rattle.moka_types.specs.declared.error.OutOfMemory.{OutOfMemory}
use Rattle.moka_records.specs.declared.instant.Instant.{Instant}
use Rattle.moka_records.specs.declared.records.Record.{Record}
use Rattle.moka_parts.specs.Calls.{ContainsStep}
use Rattle.moka_parts.specs.Copies.{IsCopiedAnswer}
use Rattle.moka_parts.specs.Counters.{after_look_up}
use Rattle.moka_parts.specs.KeyTests.{ContainsByStep}
use Rattle.moka_records.specs.KeyTests.{record_by}
use Rattle.moka_records.specs.Records.{record_of_key}
use Rattle.moka_parts.specs.State.{Meaning, is_disabled}
use Rattle.moka_calls.specs.declared.error.GetWithRefused.{GetWithRefused}
use Rattle.moka_calls.specs.declared.error.GetWithRefused.TheVariants.{Lookup, Insert}
use Rattle.moka_calls.specs.declared.compute.ComputeRefused.{ComputeRefused}
use Rattle.moka_calls.specs.declared.compute.ComputeRefused.TheVariants as compute_refused
use Rattle.moka_calls.specs.Given.{Sees}
use Rattle.moka_calls.specs.Synchronous as own
use Rattle.moka_calls.specs.Synchronous.{Synchronous, Made, Makes, hears_clones, InsertsEntry, GetsValue, RemovesEntry}
use Rattle.moka_cache.specs.Unsent.{IsThere, ShowsWrites}

-- if a listener is set, it can be notified of this record, if there is one: no clone of its key or value is refused
abbrev pub CanNotify : {K V : Type 0} → (K → Type 0) → (V → Type 0) → Bool → Option (Record K V) → Type 0
CanNotify is_key_infallible is_infallible listening sought = listening ≡ true →
    (r : Record _ _) → sought ≡ Some r → is_key_infallible r.key × is_infallible r.value

-- the same of whatever leaves
abbrev pub CanNotifyOfAny : {K V : Type 0} → (K → Type 0) → (V → Type 0) → Bool → Type 0
CanNotifyOfAny {K} {V} is_key_infallible is_infallible listening = listening ≡ true →
    ((key : K) → is_key_infallible key) × ((value : V) → is_infallible value)

-- it was the insert that was refused, and not the look-up before it
abbrev pub IsOfInsert : {K V : Type 0} → GetWithRefused K V → Type 0
IsOfInsert (Lookup key) = ⊥
IsOfInsert (Insert refused) = ⊤

-- the same of an insert or a removal
abbrev pub IsOfChange : {K V : Type 0} → ComputeRefused K V → Type 0
IsOfChange (compute_refused.Lookup key) = ⊥
IsOfChange refused = ⊤

-- it was not the notice of a removal that was refused
abbrev pub IsNotOfNotice : {K V : Type 0} → ComputeRefused K V → Type 0
IsNotOfNotice (compute_refused.NotTold key refused) = ⊥
IsNotOfNotice refused = ⊤

-- a clone of the key or of the value that was to be put may fail
abbrev pub MayFail : {K V : Type 0} → (K → Type 0) → (V → Type 0) → InsertRefused K V → Type 0
MayFail is_key_infallible is_infallible refused = ¬ (is_key_infallible refused.key × is_infallible refused.value)

-- it was such a clone that was refused, and neither the look-up nor the insert
abbrev pub IsOfClone : {K V : Type 0} → (K → Type 0) → (V → Type 0) → GetWithRefused K V → Type 0
IsOfClone is_key_infallible is_infallible (Lookup key) = ⊥
IsOfClone is_key_infallible is_infallible (Insert refused) = MayFail is_key_infallible is_infallible refused

-- the same of a call that computes, nor the notice of a removal
abbrev pub IsOfComputedClone : {K V : Type 0} → (K → Type 0) → (V → Type 0) → ComputeRefused K V → Type 0
IsOfComputedClone is_key_infallible is_infallible (compute_refused.Insert refused) =
    MayFail is_key_infallible is_infallible refused
IsOfComputedClone is_key_infallible is_infallible refused = ⊥

-- of this key, which is hashed so, at this moment, with the clock before and after
module _ {K V S X L P W C : Type 0} (m : Meaning K V X L P W C (Unit {0})) (hash_of : S → K → ℕ) (key : K)
    (now : Instant) (clock clock_after : C) where
  -- a value is put under the key: a refused one comes back with the key, and nothing has changed; else it is the key's
  -- if the cache keeps anything, and found if nothing hides it
  pub record Inserts (value : V) (result : Result (Unit {0}) (InsertRefused K V))
      (old new : Synchronous K V S X L P W) : Type 0 where
    pub made : Makes m (InsertsEntry key (hash_of old.engine.hasher key) value now result) old.engine
        clock new.engine clock_after
    pub unchanged : OnErr result ((new.engine.state ≡ old.engine.state) × (clock_after ≡ clock))
    pub kept : IfOk result (λ _. is_disabled old.engine.state.capacity ≡ false →
        IsThere m.eq new.engine.state key value now)
    pub shown : IfOk result (λ _. is_disabled old.engine.state.capacity ≡ false → ShowsWrites old.engine.state now.0 →
        ContainsStep m.says m.eq new.engine.state key now.0 true)
    pub back : IfErr result (λ refused. (refused.key ≡ key) × (refused.value ≡ value))
    pub counted : new.stats ≡ old.stats

  -- a clone of the key's value is handed out, if the key is there and visible; if it is refused, nothing has changed
  pub record Gets (is_clone : V → V → Type 0) (result : Result (Option V) OutOfMemory)
      (old new : Synchronous K V S X L P W) : Type 0 where
    pub made : (own : Result (Option V) OutOfMemory) × IsCopiedAnswer is_clone own result
        × Makes m (GetsValue key (hash_of old.engine.hasher key) now own) old.engine clock new.engine clock_after
    pub value : IfOk result (λ found. IfSome found (λ v. (r : Record K V)
        × (record_of_key m.eq old.engine.state.records key ≡ Some r) × is_clone r.value v))
    pub sees : IfOk result (Sees m.eq m.says is_clone old.engine.state key now.0)
    pub shown : IfOk result (λ found. ContainsStep m.says m.eq old.engine.state key now.0 (is_some found))
    pub found : ContainsStep m.says m.eq old.engine.state key now.0 true → IfOk result (λ found. is_some found ≡ true)
    pub unchanged : OnErr result ((new.engine.state ≡ old.engine.state) × (clock_after ≡ clock))
    pub counted : new.stats ≡ after_look_up result old.stats

  -- the key is taken out: the listener is told of clones, and this is the answer for what was taken
  pub record Removes (is_key_clone : K → K → Type 0) (is_clone : V → V → Type 0)
      (Answers : Option (V × Result (Unit {0}) OutOfMemory) → Type 0)
      (old new : Synchronous K V S X L P W) : Type 0 where
    pub made : (taken : Option (V × Result (Unit {0}) OutOfMemory)) × Answers taken
        × Makes (record m { tells = hears_clones is_key_clone is_clone m.tells })
        (RemovesEntry key (hash_of old.engine.hasher key) now taken) old.engine clock new.engine clock_after
    pub gone : record_of_key m.eq new.engine.state.records key ≡ None
    pub counted : new.stats ≡ old.stats

  -- a get, and if it misses an insert of the value that the maker made
  abbrev pub GetsWith : (V → V → Type 0) → (V → Type 0) → Result V (GetWithRefused K V) → Synchronous K V S X L P W →
      Synchronous K V S X L P W → Type 0
  GetsWith is_clone Made result old new =
      own.GetsWith m is_clone key (hash_of old.engine.hasher key) now old clock new clock_after Made result

  -- the same, if the maker may decline
  abbrev pub GetsWithIfMade : (V → V → Type 0) → (Option V → Type 0) → Result (Option V) (GetWithRefused K V) →
      Synchronous K V S X L P W → Synchronous K V S X L P W → Type 0
  GetsWithIfMade is_clone Made result old new =
      own.GetsWithIfMade m is_clone key (hash_of old.engine.hasher key) now old clock new clock_after Made result

  -- or fail
  abbrev pub GetsWithIfNoError : {E : Type 0} → (V → V → Type 0) → (Result V E → Type 0) →
      Result (Result V E) (GetWithRefused K V) → Synchronous K V S X L P W → Synchronous K V S X L P W → Type 0
  GetsWithIfNoError is_clone Made result old new =
      own.GetsWithIfNoError m is_clone key (hash_of old.engine.hasher key) now old clock new clock_after Made result

-- of the keys that pass this test, all of which are equal and have this hash, at this moment, with the clock before and
-- after
module _ {K V S X L P W C : Type 0} (m : Meaning K V X L P W C (Unit {0})) (passes : K → Bool) (hash : ℕ)
    (now : Instant) (clock clock_after : C) where
  -- a clone of the value of the key that passes is handed out; if no key of the cache does, it is the get of any other
  -- that is not there
  pub record GetsBy (is_clone : V → V → Type 0) (result : Result (Option V) OutOfMemory)
      (old new : Synchronous K V S X L P W) : Type 0 where
    pub made : (key : K) → passes key ≡ true → (own : Result (Option V) OutOfMemory)
        × IsCopiedAnswer is_clone own result
        × Makes m (GetsValue key hash now own) old.engine clock new.engine clock_after
    pub missed : record_by passes old.engine.state.records ≡ None → (key : K)
        → record_of_key m.eq old.engine.state.records key ≡ None → (own : Result (Option V) OutOfMemory)
        × IsCopiedAnswer is_clone own result
        × Makes m (GetsValue key hash now own) old.engine clock new.engine clock_after
    pub value : IfOk result (λ found. IfSome found (λ v. (r : Record K V)
        × (record_by passes old.engine.state.records ≡ Some r) × is_clone r.value v))
    pub sees : (key : K) → passes key ≡ true → IfOk result (Sees m.eq m.says is_clone old.engine.state key now.0)
    pub shown : IfOk result (λ found. ContainsByStep m.says passes old.engine.state now.0 (is_some found))
    pub found : (key : K) → passes key ≡ true → ContainsStep m.says m.eq old.engine.state key now.0 true
        → IfOk result (λ found. is_some found ≡ true)
    pub unchanged : OnErr result ((new.engine.state ≡ old.engine.state) × (clock_after ≡ clock))
    pub hasher : new.engine.hasher ≡ old.engine.hasher
    pub counted : new.stats ≡ after_look_up result old.stats

  -- the key that passes is taken out; if no key of the cache does, no call is made
  pub record RemovesBy (is_key_clone : K → K → Type 0) (is_clone : V → V → Type 0)
      (Answers : Option (V × Result (Unit {0}) OutOfMemory) → Type 0)
      (old new : Synchronous K V S X L P W) : Type 0 where
    pub made : (key : K) → passes key ≡ true → (taken : Option (V × Result (Unit {0}) OutOfMemory)) × Answers taken
        × Makes (record m { tells = hears_clones is_key_clone is_clone m.tells })
        (RemovesEntry key hash now taken) old.engine clock new.engine clock_after
    pub none : record_by passes old.engine.state.records ≡ None → Answers None
        × Made m [] [] old.engine clock new.engine clock_after
    pub gone : (key : K) → passes key ≡ true → record_of_key m.eq new.engine.state.records key ≡ None
    pub hasher : new.engine.hasher ≡ old.engine.hasher
    pub counted : new.stats ≡ old.stats
