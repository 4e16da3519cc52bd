-- What calls that compute a value make, from a look-up and what follows it.
use Rattle.std.proofs.Common.{◌≡◌, refl, ℕ, Bool, true, false, List, ◌++◌, Option, Some, None, option_map, Result, Ok, Err, IfErr, IfOk, is_some, ap, sym, subst, ◌∙◌, inl}
use Rattle.std.specs.Prelude.{IfSome}
use Rattle.std.proofs.lemmas.Option.{none-some, same_Some}
use Rattle.moka_records.specs.declared.instant.Instant.{Instant}
use Rattle.moka_types.specs.declared.calls.Call.{Call}
use Rattle.moka_types.specs.declared.calls.Reply.{Reply}
use Rattle.moka_types.specs.declared.error.OutOfMemory.{OutOfMemory}
use Rattle.moka_types.specs.declared.error.InsertRefused.{InsertRefused}
use Rattle.moka_records.specs.declared.records.Record.{Record}
use Rattle.moka_records.specs.Records.{Records, record_of_key}
use Rattle.moka_parts.specs.State.{State, Meaning}
use Rattle.moka_parts.specs.Runs.{Engine}
use Rattle.moka_calls.specs.declared.entry.CacheEntry.{CacheEntry}
use Rattle.moka_calls.specs.declared.error.GetWithRefused.{GetWithRefused}
use Rattle.moka_calls.specs.declared.error.GetWithRefused.TheVariants.{Insert}
use Rattle.moka_calls.specs.Synchronous.{Makes, hears_clones, InsertsMade, GetsValue, RemovesEntry, HandsOutOwn}
use Rattle.moka_calls.specs.Entry.{entry_value, IsFresh}
use Rattle.moka_calls.specs.Given.{Sees}
use Rattle.moka_calls.specs.declared.compute.CompResult.{CompResult}
use Rattle.moka_calls.specs.declared.compute.ComputeRefused.{ComputeRefused}
use Rattle.moka_calls.specs.declared.compute.CompResult.TheVariants.{Inserted, ReplacedWith}
use Rattle.moka_calls.specs.declared.compute.ComputeRefused.TheVariants as compute_refused
use Rattle.moka_calls.specs.Compute.{InTurn, Upserts, HandsOutUpserted, Puts, Takes, Computes, HandsOutComputedPut, HandsOutTaken}
use Rattle.moka_cache.specs.Keyed.{IsNotOfNotice, IsOfChange}
use Rattle.moka_calls.proofs.Made.{made_then, made_more}
use Rattle.moka_cache.proofs.Entries.{same_hash}

-- what became of an insert, as the answer of an upsert
abbrev pub as_upsert : {K V : Type 0} → Result (CacheEntry K V) (InsertRefused K V) → Result (CacheEntry K V) (GetWithRefused K V)
as_upsert (Ok e) = Ok e
as_upsert (Err refused) = Err (Insert refused)

module _ {K V S X L P W C : Type 0} (m : Meaning K V X L P W C (Unit {0})) (hash_by : S → ℕ)
    (First : List (Call K V P) → List (Reply K V P) → Type 0) (Then : ℕ → List (Call K V P) → List (Reply K V P) → Type 0)
    (old mid new : Engine K V S X L P W) (c1 c2 c3 : C) where
  -- calls after calls, of the same hash
  pub in_turn : Makes m First old c1 mid c2 → Makes m (Then (hash_by mid.hasher)) mid c2 new c3 → Makes m (InTurn First (Then (hash_by old.hasher))) old c1 new c3
  in_turn (asked, got, fits, made) after =
      let then = same_hash m Then hash_by asked got old mid new c1 c2 c3 made after in (
        asked ++ then.0,
        got ++ then.1,
        (asked, got, then.0, then.1, fits, then.2, refl, refl),
        made_then m asked then.0 got then.1 old mid new c1 c2 c3 made then.3,
      )

module _ {K V S X L P W C : Type 0} (is_key_clone : K → K → Type 0) (is_clone : V → V → Type 0) (m : Meaning K V X L P W C (Unit {0}))
    (key : K) (hash_by : S → ℕ) (now : Instant) (old mid new : Engine K V S X L P W) (c1 c2 c3 : C) where
  -- a look-up, and an insert of the value that was made of what it found
  pub upserted : (own : Result (Option V) OutOfMemory) (seen : Option V) (there : Bool) (value : V) (result : Result (CacheEntry K V) (InsertRefused K V))
      → Makes m (GetsValue key (hash_by old.hasher) now own) old c1 mid c2
      → there ≡ is_some seen
      → ((put : Result V (InsertRefused K V)) × HandsOutOwn is_clone put (entry_value result)
      × Makes m (InsertsMade key (hash_by mid.hasher) now value put) mid c2 new c3)
      → IfOk result (λ e. IsFresh is_key_clone key e × (e.is_old_value_replaced ≡ there))
      → (put : Result V (InsertRefused K V)) × HandsOutUpserted is_key_clone is_clone key (Ok seen) (Some (value, put)) (as_upsert result)
      × Makes m (Upserts key (hash_by old.hasher) now own (Some (value, put))) old c1 new c3
  upserted own seen there value result got is (put, handed, made) entry =
      (put, go put result handed entry, in_turn m hash_by (GetsValue key (hash_by old.hasher) now own) (λ h. InsertsMade key h now value put) old mid new c1 c2 c3 got made)
    where
      go : (put : Result V (InsertRefused K V)) (result : Result (CacheEntry K V) (InsertRefused K V)) → HandsOutOwn is_clone put (entry_value result)
          → IfOk result (λ e. IsFresh is_key_clone key e × (e.is_old_value_replaced ≡ there))
          → HandsOutUpserted is_key_clone is_clone key (Ok seen) (Some (value, put)) (as_upsert result)
      go (Ok v) (Ok e) handed entry = (handed, entry.0, entry.1 ∙ is)
      go (Err refused) (Err r) handed entry = handed
      go (Ok v) (Err r) handed entry = absurd handed
      go (Err refused) (Ok e) handed entry = absurd handed

-- ---- a value that is put, removed or left

module _ {K V X L P W C : Type 0} (is_key_clone : K → K → Type 0) (is_clone : V → V → Type 0) (m : Meaning K V X L P W C (Unit {0})) where
  -- the listener hears of clones as well
  abbrev pub hears : Meaning K V X L P W C (Unit {0})
  hears = record m { tells = hears_clones is_key_clone is_clone m.tells }

module _ {K V S X L P W C : Type 0} (is_key_clone : K → K → Type 0) (is_clone : V → V → Type 0) (m : Meaning K V X L P W C (Unit {0})) where
  -- what was made with no notice of a removal
  pub heard : (Fit : List (Call K V P) → List (Reply K V P) → Type 0) (old new : Engine K V S X L P W) (c1 c2 : C) → Makes m Fit old c1 new c2 → Makes (hears is_key_clone is_clone m) Fit old c1 new c2
  heard Fit old new c1 c2 (calls, replies, fits, made) =
      (calls, replies, fits, made_more m (hears_clones is_key_clone is_clone m.tells) (λ l k v cause after step. inl step) calls replies old new c1 c2 made)

  module _ (key : K) (hash_by : S → ℕ) (now : Instant) (old mid new : Engine K V S X L P W) (c1 c2 c3 : C)
      (own : Result (Option V) OutOfMemory) (got : Makes m (GetsValue key (hash_by old.hasher) now own) old c1 mid c2) where
    -- a look-up, and an insert of the value that was answered
    pub computed_put : (value : V) (put : Result V (InsertRefused K V)) → Makes m (InsertsMade key (hash_by mid.hasher) now value put) mid c2 new c3
        → Makes (hears is_key_clone is_clone m) (Computes key (hash_by old.hasher) now own (Some (Puts value put))) old c1 new c3
    computed_put value put made = in_turn (hears is_key_clone is_clone m) hash_by (GetsValue key (hash_by old.hasher) now own) (λ h. InsertsMade key h now value put) old mid new c1 c2 c3
        (heard (GetsValue key (hash_by old.hasher) now own) old mid c1 c2 got) (heard (InsertsMade key (hash_by mid.hasher) now value put) mid new c2 c3 made)

    -- a look-up, and a removal
    pub computed_take : (taken : Option (V × Result (Unit {0}) OutOfMemory)) → Makes (hears is_key_clone is_clone m) (RemovesEntry key (hash_by mid.hasher) now taken) mid c2 new c3
        → Makes (hears is_key_clone is_clone m) (Computes key (hash_by old.hasher) now own (Some (Takes taken))) old c1 new c3
    computed_take taken made = in_turn (hears is_key_clone is_clone m) hash_by (GetsValue key (hash_by old.hasher) now own) (λ h. RemovesEntry key h now taken) old mid new c1 c2 c3
        (heard (GetsValue key (hash_by old.hasher) now own) old mid c1 c2 got) made

module _ {K V : Type 0} (is_key_clone : K → K → Type 0) (is_clone : V → V → Type 0) (key : K) (Q : Result V (InsertRefused K V) → Type 0) where
  -- what was put replaced a value
  pub put_replaced : (e : CacheEntry K V) → ((put : Result V (InsertRefused K V)) × HandsOutOwn is_clone put (Ok e.value) × Q put) → IsFresh is_key_clone key e × (e.is_old_value_replaced ≡ true)
      → (put : Result V (InsertRefused K V)) × HandsOutComputedPut is_key_clone is_clone key true put (Ok (ReplacedWith e)) × Q put
  put_replaced e (Ok v, handed, made) entry = (Ok v, (handed, entry.0, entry.1), made)
  put_replaced e (Err r, handed, made) entry = absurd handed

  -- or none
  pub put_inserted : (e : CacheEntry K V) → ((put : Result V (InsertRefused K V)) × HandsOutOwn is_clone put (Ok e.value) × Q put) → IsFresh is_key_clone key e × (e.is_old_value_replaced ≡ false)
      → (put : Result V (InsertRefused K V)) × HandsOutComputedPut is_key_clone is_clone key false put (Ok (Inserted e)) × Q put
  put_inserted e (Ok v, handed, made) entry = (Ok v, (handed, entry.0, entry.1), made)
  put_inserted e (Err r, handed, made) entry = absurd handed

  -- or was refused
  pub put_refused : (there : Bool) (r : InsertRefused K V) → ((put : Result V (InsertRefused K V)) × HandsOutOwn is_clone put (Err r) × Q put)
      → (put : Result V (InsertRefused K V)) × HandsOutComputedPut is_key_clone is_clone key there put (Err (compute_refused.Insert r)) × Q put
  put_refused there r (Ok v, handed, made) = absurd handed
  put_refused true r (Err refused, handed, made) = (Err refused, handed, made)
  put_refused false r (Err refused, handed, made) = (Err refused, handed, made)

-- ---- what was taken out

-- what was seen is a clone of what was taken out, since the key kept its value in between
pub was_seen : {K V X P W : Type 0} (eq : K → K → Bool) (says : P → K → V → Bool → Type 0) (is_clone : V → V → Type 0) (s : State K V X P W) (mid : Records K V) (key : K) (now : ℕ) (seen : Option V) (taken : Option (V × Result (Unit {0}) OutOfMemory))
    → Sees eq says is_clone s key now seen → ((p : Record K V) → record_of_key eq mid key ≡ Some p → (r : Record K V) × (record_of_key eq s.records key ≡ Some r) × (p.value ≡ r.value))
    → option_map (λ t. t.0) taken ≡ option_map (λ r. r.value) (record_of_key eq mid key) → IfSome taken (λ t. IfSome seen (is_clone t.0))
was_seen eq says is_clone s mid key now seen None sees stays is = tt
was_seen eq says is_clone s mid key now None (Some t) sees stays is = tt
was_seen {K} {V} eq says is_clone s mid key now (Some v) (Some t) (r, here, visible, cloned) stays is = go (record_of_key eq mid key) refl is
  where
    go : (o : Option (Record K V)) → record_of_key eq mid key ≡ o → Some t.0 ≡ option_map (λ r. r.value) o → is_clone t.0 v
    go None there is = absurd (none-some t.0 (sym is))
    go (Some p) there is =
        let was = stays p there in
        subst (λ x. is_clone x v) (sym (same_Some t.0 p.value is ∙ was.2 ∙ ap (λ (x : Record K V). x.value) (same_Some was.0 r (sym was.1 ∙ here)))) cloned

-- ---- why a call that computes is refused

module _ {K V : Type 0} (is_key_clone : K → K → Type 0) (is_clone : V → V → Type 0) (key : K) where
  -- a put is refused by its insert
  pub refused_put : (there : Bool) (own : Result V (InsertRefused K V)) (result : Result (CompResult K V) (ComputeRefused K V)) → HandsOutComputedPut is_key_clone is_clone key there own result → IfErr result IsOfChange
  refused_put there own (Ok e) handed = tt
  refused_put there own (Err (compute_refused.Insert r)) handed = tt
  refused_put there own (Err (compute_refused.NotTold k r)) handed = tt
  refused_put true (Ok own) (Err (compute_refused.Lookup k)) handed = absurd handed
  refused_put false (Ok own) (Err (compute_refused.Lookup k)) handed = absurd handed
  refused_put true (Err refused) (Err (compute_refused.Lookup k)) handed = absurd handed
  refused_put false (Err refused) (Err (compute_refused.Lookup k)) handed = absurd handed

  -- and notifies nobody
  pub put_not_told : (there : Bool) (own : Result V (InsertRefused K V)) (result : Result (CompResult K V) (ComputeRefused K V)) → HandsOutComputedPut is_key_clone is_clone key there own result → IfErr result IsNotOfNotice
  put_not_told there own (Ok e) handed = tt
  put_not_told there own (Err (compute_refused.Insert r)) handed = tt
  put_not_told there own (Err (compute_refused.Lookup k)) handed = tt
  put_not_told true (Ok own) (Err (compute_refused.NotTold k r)) handed = absurd handed
  put_not_told false (Ok own) (Err (compute_refused.NotTold k r)) handed = absurd handed
  put_not_told true (Err refused) (Err (compute_refused.NotTold k r)) handed = absurd handed
  put_not_told false (Err refused) (Err (compute_refused.NotTold k r)) handed = absurd handed

  -- and a removal only as its listener cannot be told
  pub refused_take : (taken : Option (V × Result (Unit {0}) OutOfMemory)) (result : Result (CompResult K V) (ComputeRefused K V)) → HandsOutTaken is_key_clone is_clone key taken result → IfErr result IsOfChange
  refused_take taken (Ok e) handed = tt
  refused_take taken (Err (compute_refused.Insert r)) handed = tt
  refused_take taken (Err (compute_refused.NotTold k r)) handed = tt
  refused_take None (Err (compute_refused.Lookup k)) handed = absurd handed
  refused_take (Some (value, Ok told)) (Err (compute_refused.Lookup k)) handed = absurd handed
  refused_take (Some (value, Err refused)) (Err (compute_refused.Lookup k)) handed = absurd handed
