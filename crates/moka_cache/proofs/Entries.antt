-- What entry calls make, from a look-up and what follows it.
use Rattle.std.proofs.Common.{◌≡◌, refl, ℕ, false, List, [], ◌∷◌, Option, Some, None, Result, Ok, Err, IfOk, inr, option_map, subst}
use Rattle.std.specs.Prelude.{IfSome}
use Rattle.std.specs.Result.{result_ok}
use Rattle.std.specs.declared.convert.Infallible.{Infallible}
use Rattle.moka_records.specs.declared.instant.Instant.{Instant}
use Rattle.moka_types.specs.declared.calls.Call.{Call}
use Rattle.moka_types.specs.declared.calls.Call.TheVariants as call
use Rattle.moka_types.specs.declared.calls.Reply.{Reply}
use Rattle.moka_types.specs.declared.calls.Reply.TheVariants as reply
use Rattle.moka_types.specs.declared.error.InsertRefused.{InsertRefused}
use Rattle.moka_parts.specs.Calls.{ContainsStep}
use Rattle.moka_parts.specs.State.{Meaning}
use Rattle.moka_parts.specs.Runs.{Engine}
use Rattle.moka_calls.specs.Given.{IsHandedOut, if_made, without_error}
use Rattle.moka_calls.specs.declared.error.GetWithRefused.{GetWithRefused}
use Rattle.moka_calls.specs.Synchronous.{Made, Makes, InsertsMade, IsGotWith, IsGotWithIfMade, IsGotWithIfNoError, GetsOrInserts, HandsOutOwn, Synchronous}
use Rattle.moka_calls.specs.declared.entry.CacheEntry.{CacheEntry}
use Rattle.moka_calls.specs.Entry.{HandsOutPut, IsEntryOf, OrInsertsIfMade, OrInsertsIfNoError, OrInsertsMade, entry_value, entry_value_if_made, entry_value_if_no_error}
use Rattle.moka_cache.proofs.Getting.{always_answers, got_then, made_keeps_hasher, may_decline}

module _ {K V S X L P W C : Type 0} (m : Meaning K V X L P W C (Unit {0})) where
  -- what follows calls that were made is of the same hash
  pub same_hash : (Fit : ℕ → List (Call K V P) → List (Reply K V P) → Type 0) (hash_by : S → ℕ)
      (calls : List (Call K V P)) (replies : List (Reply K V P)) (old mid new : Engine K V S X L P W) (c1 c2 c3 : C)
      → Made m calls replies old c1 mid c2 → Makes m (Fit (hash_by mid.hasher)) mid c2 new c3 → Makes m (Fit (hash_by old.hasher)) mid c2 new c3
  same_hash Fit hash_by calls replies old mid new c1 c2 c3 made after =
      subst (λ h. Makes m (Fit (hash_by h)) mid c2 new c3) (made_keeps_hasher m calls replies old mid c1 c2 made) after

module _ {K V S X L P W C : Type 0} (is_clone : V → V → Type 0) (m : Meaning K V X L P W C (Unit {0}))
    (key : K) (hash_by : S → ℕ) (now : Instant) (old mid : Engine K V S X L P W) (clock clock_mid : C)
    (got : Made m (call.Get key (hash_by old.hasher) false now ∷ []) (reply.Get (Ok None) ∷ []) old clock mid clock_mid)
    (none : ContainsStep m.says m.eq old.state key now.0 false) (value : V) (new : Engine K V S X L P W) (clock_after : C) where
  -- the value comes after a look-up that found none, and what is handed out fits
  pub put_and_handed_out : (result : Result (CacheEntry K V) (InsertRefused K V))
      → ((own : Result V (InsertRefused K V)) × HandsOutOwn is_clone own (entry_value result)
      × Makes m (InsertsMade key (hash_by mid.hasher) now value own) mid clock_mid new clock_after)
      → (own : Result V (Option (InsertRefused K V))) × HandsOutPut is_clone key value own (entry_value result)
      × Makes m (GetsOrInserts key (hash_by old.hasher) now (Some value) own) old clock new clock_after × IfOk result (λ e. IsHandedOut m.eq m.says is_clone old.state key now.0 (λ v. v ≡ value) e.value)
  put_and_handed_out result (own, handed, made) = go own result handed (same_hash m (λ h. InsertsMade key h now value own) hash_by
      (call.Get key (hash_by old.hasher) false now ∷ []) (reply.Get (Ok None) ∷ []) old mid new clock clock_mid clock_after got made)
    where
      go : (own : Result V (InsertRefused K V)) (result : Result (CacheEntry K V) (InsertRefused K V)) → HandsOutOwn is_clone own (entry_value result)
          → Makes m (InsertsMade key (hash_by old.hasher) now value own) mid clock_mid new clock_after
          → (own : Result V (Option (InsertRefused K V))) × HandsOutPut is_clone key value own (entry_value result)
          × Makes m (GetsOrInserts key (hash_by old.hasher) now (Some value) own) old clock new clock_after × IfOk result (λ e. IsHandedOut m.eq m.says is_clone old.state key now.0 (λ v. v ≡ value) e.value)
      go (Ok v) (Ok e) handed made = (Ok v, handed, got_then is_clone m key (hash_by old.hasher) now old mid clock clock_mid got value new clock_after (Ok v) made, inr (none, (value, refl, subst (λ x. is_clone x e.value) made.2.0 handed)))
      go (Err refused) (Err r) handed made = (Err (Some refused), handed, got_then is_clone m key (hash_by old.hasher) now old mid clock clock_mid got value new clock_after (Err refused) made, tt)
      go (Ok v) (Err r) handed made = absurd handed
      go (Err refused) (Ok e) handed made = absurd handed

-- ---- makers that may decline, and that always answer

module _ {K V S X L P W C : Type 0} (is_key_clone : K → K → Type 0) (is_clone : V → V → Type 0) (m : Meaning K V X L P W C (Unit {0})) (key : K) (hash : ℕ) (now : Instant) (old new : Synchronous K V S X L P W) (clock clock_after : C) where
  -- a maker that may decline is one that fails in place of declining
  pub may_be_fresh : (Fails : Result V (Unit {0}) → Type 0) (Answers : Option V → Type 0) (result : Result (Result (CacheEntry K V) (Unit {0})) (GetWithRefused K V))
      → OrInsertsIfNoError m is_key_clone is_clone key hash now old clock new clock_after Fails result → ((a : Result V (Unit {0})) → Fails a → Answers (result_ok a))
      → OrInsertsIfMade m is_key_clone is_clone key hash now old clock new clock_after Answers (if_made result)
  may_be_fresh Fails Answers result (made, own, entry, got) also = (option_map result_ok made, if_made own, fresh made result entry, subst (IsGotWithIfMade m is_clone key hash now old clock new clock_after (option_map result_ok made) (if_made own) Answers) (same result) (may_decline is_clone m key hash now old new clock clock_after Fails Answers made own (entry_value_if_no_error result) got also))
    where
      same : (r : Result (Result (CacheEntry K V) (Unit {0})) (GetWithRefused K V)) → if_made (entry_value_if_no_error r) ≡ entry_value_if_made (if_made r)
      same (Ok (Ok e)) = refl
      same (Ok (Err declined)) = refl
      same (Err refused) = refl

      fresh : (made : Option (Result V (Unit {0}))) (r : Result (Result (CacheEntry K V) (Unit {0})) (GetWithRefused K V)) → IfOk r (λ found. IfOk found (IsEntryOf is_key_clone key made)) → IfOk (if_made r) (λ found. IfSome found (IsEntryOf is_key_clone key (option_map result_ok made)))
      fresh None (Ok (Ok e)) entry = entry
      fresh (Some a) (Ok (Ok e)) entry = entry
      fresh made (Ok (Err declined)) entry = tt
      fresh made (Err refused) entry = tt

  -- a maker that always answers is one that may fail and never does
  pub always_fresh : (Fails : Result V Infallible → Type 0) (Answers : V → Type 0) (result : Result (CacheEntry K V) (GetWithRefused K V))
      → OrInsertsIfNoError m is_key_clone is_clone key hash now old clock new clock_after Fails (without_error result) → ((v : V) → Fails (Ok v) → Answers v)
      → OrInsertsMade m is_key_clone is_clone key hash now old clock new clock_after Answers result
  always_fresh Fails Answers result (made, own, entry, got) also = go (always_answers is_clone m key hash now old new clock clock_after Fails Answers made own (entry_value result) (subst (IsGotWithIfNoError m is_clone key hash now old clock new clock_after made own Fails) (same result) got) also)
    where
      same : (r : Result (CacheEntry K V) (GetWithRefused K V)) → entry_value_if_no_error (without_error {F = Infallible} r) ≡ without_error (entry_value r)
      same (Ok e) = refl
      same (Err refused) = refl

      fresh : (value : Option V) (made : Option (Result V Infallible)) (r : Result (CacheEntry K V) (GetWithRefused K V)) → made ≡ option_map Ok value → IfOk (without_error {F = Infallible} r) (λ found. IfOk found (IsEntryOf is_key_clone key made)) → IfOk r (IsEntryOf is_key_clone key value)
      fresh None None (Ok e) is entry = entry
      fresh (Some v) (Some a) (Ok e) is entry = entry
      fresh None (Some a) (Ok e) is entry = absurd (cc)
      fresh (Some v) None (Ok e) is entry = absurd (cc)
      fresh value made (Err refused) is entry = tt

      go : (value : Option V) × (answer : Result V (Option (InsertRefused K V))) × (made ≡ option_map Ok value) × IsGotWith m is_clone key hash now old clock new clock_after value answer Answers (entry_value result)
          → OrInsertsMade m is_key_clone is_clone key hash now old clock new clock_after Answers result
      go (value, answer, is, came) = (value, answer, fresh value made result is entry, came)
