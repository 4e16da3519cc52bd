-- Entry calls: what they answer beside the values of the calls that they stand for.
use Rattle.std.specs.Prelude.{◌≡◌, ℕ, true, false, Option, Some, None, Result, Ok, Err, IfOk, IfSome, IfErr}
use Rattle.moka_types.specs.declared.error.InsertError.TheVariants as insert_error
use Rattle.moka_types.specs.declared.error.InsertRefused.{InsertRefused}
use Rattle.moka_records.specs.declared.instant.Instant.{Instant}
use Rattle.moka_parts.specs.State.{Meaning}
use Rattle.moka_calls.specs.declared.entry.CacheEntry.{CacheEntry}
use Rattle.moka_calls.specs.declared.error.GetWithRefused.{GetWithRefused}
use Rattle.moka_parts.specs.declared.stats.Stats.{Stats}
use Rattle.moka_parts.specs.Counters.{one_more}
use Rattle.moka_calls.specs.Given.{IsHandedOut}
use Rattle.moka_calls.specs.Synchronous.{Synchronous, Makes, GetsOrInserts, IsGotWith, IsGotWithIfMade, IsGotWithIfNoError}

-- ---- the values of what is answered

abbrev pub entry_value : {K V E : Type 0} → Result (CacheEntry K V) E → Result V E
entry_value (Ok e) = Ok e.value
entry_value (Err refused) = Err refused

abbrev pub entry_value_if_made : {K V E : Type 0} → Result (Option (CacheEntry K V)) E → Result (Option V) E
entry_value_if_made (Ok (Some e)) = Ok (Some e.value)
entry_value_if_made (Ok None) = Ok None
entry_value_if_made (Err refused) = Err refused

abbrev pub entry_value_if_no_error : {K V E F : Type 0} → Result (Result (CacheEntry K V) F) E → Result (Result V F) E
entry_value_if_no_error (Ok (Ok e)) = Ok (Ok e.value)
entry_value_if_no_error (Ok (Err failed)) = Ok (Err failed)
entry_value_if_no_error (Err refused) = Err refused

-- ---- entries

module _ {K V : Type 0} where
  -- the entry of a value that is there: the caller's own key comes back
  abbrev pub IsFound : K → CacheEntry K V → Type 0
  IsFound key e = (e.key ≡ key) × (e.is_fresh ≡ false) × (e.is_old_value_replaced ≡ false)

  -- the entry of a value that was put: the key is a clone, and the caller's own is in the cache
  abbrev pub IsFresh : (K → K → Type 0) → K → CacheEntry K V → Type 0
  IsFresh is_key_clone key e = is_key_clone key e.key × (e.is_fresh ≡ true)

  -- the entry is fresh if and only if a value was made, since none was there
  abbrev pub IsEntryOf : {A : Type 0} → (K → K → Type 0) → K → Option A → CacheEntry K V → Type 0
  IsEntryOf is_key_clone key None e = IsFound key e
  IsEntryOf is_key_clone key (Some made) e = IsFresh is_key_clone key e × (e.is_old_value_replaced ≡ false)

-- ---- an insert of a value only if the key is not there

-- what it hands out: a clone of the value, or what was refused, with key and value
abbrev pub HandsOutPut : {K V : Type 0} → (V → V → Type 0) → K → V → Result V (Option (InsertRefused K V)) →
    Result V (InsertRefused K V) → Type 0
HandsOutPut is_clone key value (Ok own) (Ok copy) = is_clone own copy
HandsOutPut is_clone key value (Err None) (Err r) =
    r ≡ record { error = insert_error.OutOfMemory; key = key; value = value }
HandsOutPut is_clone key value (Err (Some refused)) (Err r) = r ≡ refused
HandsOutPut is_clone key value own result = ⊥

-- what it counts: a hit, a miss after which the value was put, or nothing, if the look-up was refused
abbrev pub after_get_or_insert : {A B E : Type 0} → Option A → Result B E → Stats → Stats
after_get_or_insert None (Ok value) s = record s { hits = one_more s.hits }
after_get_or_insert None (Err refused) s = s
after_get_or_insert (Some put) answer s = record s { misses = one_more s.misses }

-- ---- what an entry call promises

module _ {K V S X L P W C : Type 0} (m : Meaning K V X L P W C (Unit {0})) (is_key_clone : K → K → Type 0)
    (is_clone : V → V → Type 0) (key : K) (hash : ℕ) (now : Instant) (old : Synchronous K V S X L P W) (clock : C)
    (new : Synchronous K V S X L P W) (clock_after : C) where
  -- a get, and only if it misses this value is put; what is handed out, or comes back
  abbrev pub OrInserts : V → Result (CacheEntry K V) (InsertRefused K V) → Type 0
  OrInserts value result = (put : Option V) × (own : Result V (Option (InsertRefused K V)))
      × ((v : V) → put ≡ Some v → v ≡ value)
      × HandsOutPut is_clone key value own (entry_value result)
      × IfOk result (IsEntryOf is_key_clone key put)
      × Makes m (GetsOrInserts key hash now put own) old.engine clock new.engine clock_after
      × (new.stats ≡ after_get_or_insert put own old.stats)
      × IfOk result (λ e. IsHandedOut m.eq m.says is_clone old.engine.state key now.0 (λ v. v ≡ value) e.value)
      × IfErr result (λ refused. (refused.key ≡ key) × (refused.value ≡ value))

  -- a get, and only if it misses a value is made, as the maker makes it
  abbrev pub OrInsertsMade : (V → Type 0) → Result (CacheEntry K V) (GetWithRefused K V) → Type 0
  OrInsertsMade Answers result = (made : Option V) × (own : Result V (Option (InsertRefused K V)))
      × IfOk result (IsEntryOf is_key_clone key made)
      × IsGotWith m is_clone key hash now old clock new clock_after made own Answers (entry_value result)

  -- the same if the maker may decline
  abbrev pub OrInsertsIfMade : (Option V → Type 0) → Result (Option (CacheEntry K V)) (GetWithRefused K V) → Type 0
  OrInsertsIfMade Answers result = (made : Option (Option V)) × (own : Result (Option V) (Option (InsertRefused K V)))
      × IfOk result (λ found. IfSome found (IsEntryOf is_key_clone key made))
      × IsGotWithIfMade m is_clone key hash now old clock new clock_after made own Answers (entry_value_if_made result)

  -- or fail
  abbrev pub OrInsertsIfNoError : {E : Type 0} → (Result V E → Type 0) →
      Result (Result (CacheEntry K V) E) (GetWithRefused K V) → Type 0
  OrInsertsIfNoError {E} Answers result = (made : Option (Result V E))
      × (own : Result (Result V E) (Option (InsertRefused K V)))
      × IfOk result (λ found. IfOk found (IsEntryOf is_key_clone key made))
      × IsGotWithIfNoError m is_clone key hash now old clock new clock_after made own Answers
      (entry_value_if_no_error result)
