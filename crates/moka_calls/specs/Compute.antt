-- Calls that compute a key's value from the one that is there: which calls of the reference cache each stands for, and
-- what it answers.
use Rattle.std.specs.Prelude.{◌≡◌, ℕ, Bool, true, false, List, ◌++◌, Option, Some, None, Result, Ok, Err, IfOk, IfSome, IfErr, is_some, ⊤}
use Rattle.moka_types.specs.declared.calls.Call.{Call}
use Rattle.moka_types.specs.declared.calls.Reply.{Reply}
use Rattle.moka_types.specs.declared.error.InsertRefused.{InsertRefused}
use Rattle.moka_types.specs.declared.error.OutOfMemory.{OutOfMemory}
use Rattle.moka_records.specs.declared.instant.Instant.{Instant}
use Rattle.moka_records.specs.Records.{record_of_key}
use Rattle.moka_parts.specs.State.{Meaning}
use Rattle.moka_parts.specs.Copies.{IsCopiedAnswer}
use Rattle.moka_types.specs.Texts.{out_of_memory_text, insert_text}
use Rattle.moka_calls.specs.declared.compute.CompResult.{CompResult}
use Rattle.moka_calls.specs.declared.compute.CompResult.TheVariants.{Inserted, ReplacedWith, Removed, StillNone, Unchanged}
use Rattle.moka_calls.specs.declared.compute.ComputeRefused.{ComputeRefused}
use Rattle.moka_calls.specs.declared.compute.ComputeRefused.TheVariants as compute_refused
use Rattle.moka_calls.specs.declared.compute.Op.{Op}
use Rattle.moka_calls.specs.declared.compute.Op.TheVariants.{Nop, Put, Remove}
use Rattle.moka_calls.specs.declared.entry.CacheEntry.{CacheEntry}
use Rattle.moka_calls.specs.declared.error.GetWithRefused.{GetWithRefused}
use Rattle.moka_calls.specs.declared.error.GetWithRefused.TheVariants as get_with_refused
use Rattle.moka_parts.specs.Counters.{after_look_up}
use Rattle.moka_calls.specs.Entry.{IsFound, IsFresh}
use Rattle.moka_calls.specs.Given.{Sees, ComesBack}
use Rattle.moka_calls.specs.Synchronous.{Synchronous, Makes, GetsValue, InsertsMade, RemovesEntry}

-- calls that fit the first, and then calls that fit the second
abbrev pub InTurn : {K V P : Type 0} → (List (Call K V P) → List (Reply K V P) → Type 0) →
    (List (Call K V P) → List (Reply K V P) → Type 0) → List (Call K V P) → List (Reply K V P) → Type 0
InTurn {K} {V} {P} First Then calls replies =
    (asked : List (Call K V P)) × (got : List (Reply K V P)) × (later : List (Call K V P))
    × (answers : List (Reply K V P))
    × First asked got × Then later answers × (calls ≡ asked ++ later) × (replies ≡ got ++ answers)

-- ---- a value made of the one that is there

-- the function was called with what was got, and made this value; if the look-up was refused, it was not called
abbrev pub IsUpsertOf : {V R : Type 0} → (Option V → V → Type 0) → Result (Option V) OutOfMemory → Option (V × R) →
    Type 0
IsUpsertOf Made (Err refused) None = ⊤
IsUpsertOf Made (Ok seen) (Some (value, answer)) = Made seen value
IsUpsertOf Made got put = ⊥

-- a get, and unless it was refused an insert of the value that was made, and what became of it
abbrev pub Upserts : {K V P : Type 0} → K → ℕ → Instant → Result (Option V) OutOfMemory →
    Option (V × Result V (InsertRefused K V)) → List (Call K V P) → List (Reply K V P) → Type 0
Upserts key hash now own None calls replies = GetsValue key hash now own calls replies
Upserts key hash now own (Some (value, answer)) calls replies =
    InTurn (GetsValue key hash now own) (InsertsMade key hash now value answer) calls replies

-- the entry, which tells whether a value was there, or what was refused
abbrev pub HandsOutUpserted : {K V : Type 0} → (K → K → Type 0) → (V → V → Type 0) → K → Result (Option V) OutOfMemory →
    Option (V × Result V (InsertRefused K V)) → Result (CacheEntry K V) (GetWithRefused K V) → Type 0
HandsOutUpserted is_key_clone is_clone key got None (Err (get_with_refused.Lookup k)) = k ≡ key
HandsOutUpserted is_key_clone is_clone key (Ok seen) (Some (value, Ok own)) (Ok e) = is_clone own e.value
    × IsFresh is_key_clone key e × (e.is_old_value_replaced ≡ is_some seen)
HandsOutUpserted is_key_clone is_clone key (Ok seen) (Some (value, Err refused))
    (Err (get_with_refused.Insert r)) = r ≡ refused
HandsOutUpserted is_key_clone is_clone key got put result = ⊥

-- ---- a value that is put, removed or left

-- what was done, and what became of it
pub data Computed (K V : Type 0) : Type 0 where
  -- nothing, as was answered
  Left : Computed K V
  -- nothing, since no value was there to be removed
  LeftNone : Computed K V
  -- this value was put
  Puts : V → Result V (InsertRefused K V) → Computed K V
  -- the key was taken out
  Takes : Option (V × Result (Unit {0}) OutOfMemory) → Computed K V

-- what was answered
abbrev pub op_of : {K V : Type 0} → Computed K V → Op V
op_of Left = Nop
op_of LeftNone = Remove
op_of (Puts value answer) = Put value
op_of (Takes taken) = Remove

-- the function was called with what was got, and what it answered was done; if the look-up was refused, it was not
-- called
abbrev pub IsComputedBy : {K V : Type 0} → (Option V → Op V → Type 0) → Result (Option V) OutOfMemory →
    Option (Computed K V) → Type 0
IsComputedBy Answers (Err refused) None = ⊤
IsComputedBy Answers (Ok seen) (Some did) = Answers seen (op_of did)
IsComputedBy Answers got did = ⊥

-- a get, and then what was done
abbrev pub Computes : {K V P : Type 0} → K → ℕ → Instant → Result (Option V) OutOfMemory → Option (Computed K V) →
    List (Call K V P) → List (Reply K V P) → Type 0
Computes key hash now own None calls replies = GetsValue key hash now own calls replies
Computes key hash now own (Some Left) calls replies = GetsValue key hash now own calls replies
Computes key hash now own (Some LeftNone) calls replies = GetsValue key hash now own calls replies
Computes key hash now own (Some (Puts value answer)) calls replies =
    InTurn (GetsValue key hash now own) (InsertsMade key hash now value answer) calls replies
Computes key hash now own (Some (Takes taken)) calls replies =
    InTurn (GetsValue key hash now own) (RemovesEntry key hash now taken) calls replies

module _ {K V : Type 0} (is_key_clone : K → K → Type 0) (is_clone : V → V → Type 0) (key : K) where
  -- what a put answers, by whether a value was there
  abbrev pub HandsOutComputedPut : Bool → Result V (InsertRefused K V) → Result (CompResult K V) (ComputeRefused K V) →
      Type 0
  HandsOutComputedPut false (Ok own) (Ok (Inserted e)) = is_clone own e.value × IsFresh is_key_clone key e
      × (e.is_old_value_replaced ≡ false)
  HandsOutComputedPut true (Ok own) (Ok (ReplacedWith e)) = is_clone own e.value × IsFresh is_key_clone key e
      × (e.is_old_value_replaced ≡ true)
  HandsOutComputedPut there (Err refused) (Err (compute_refused.Insert r)) = r ≡ refused
  HandsOutComputedPut there answer result = ⊥

  -- what a removal answers: the value, or that the look-up's run of maintenance had taken it already, or that it was
  -- not told
  abbrev pub HandsOutTaken : Option (V × Result (Unit {0}) OutOfMemory) → Result (CompResult K V) (ComputeRefused K V) →
      Type 0
  HandsOutTaken None (Ok (StillNone k)) = k ≡ key
  HandsOutTaken (Some (value, Ok told)) (Ok (Removed e)) = (e.value ≡ value) × IsFound key e
  HandsOutTaken (Some (value, Err refused)) (Err (compute_refused.NotTold k r)) = (k ≡ key)
      × (r ≡ record { error = refused; value = value })
  HandsOutTaken taken result = ⊥

  -- what is answered if nothing was done: what was seen comes back
  abbrev pub HandsOutLeft : Option V → Result (CompResult K V) (ComputeRefused K V) → Type 0
  HandsOutLeft (Some seen) (Ok (Unchanged e)) = (e.value ≡ seen) × IsFound key e
  HandsOutLeft None (Ok (StillNone k)) = k ≡ key
  HandsOutLeft seen result = ⊥

  -- what is answered, after what was seen and done
  abbrev pub HandsOutComputed : Result (Option V) OutOfMemory → Option (Computed K V) →
      Result (CompResult K V) (ComputeRefused K V) → Type 0
  HandsOutComputed (Ok seen) (Some Left) result = HandsOutLeft seen result
  HandsOutComputed (Ok seen) (Some LeftNone) result = (seen ≡ None) × HandsOutTaken None result
  HandsOutComputed (Ok seen) (Some (Puts value answer)) result = HandsOutComputedPut (is_some seen) answer result
  HandsOutComputed (Ok seen) (Some (Takes taken)) result = (is_some seen ≡ true) × HandsOutTaken taken result
  HandsOutComputed (Ok seen) None result = ⊥
  HandsOutComputed (Err refused) None (Err (compute_refused.Lookup k)) = k ≡ key
  HandsOutComputed (Err refused) did result = ⊥

-- ---- what a call that computes promises

module _ {K V S X L P W C : Type 0} (m : Meaning K V X L P W C (Unit {0})) (is_key_clone : K → K → Type 0)
    (is_clone : V → V → Type 0) (key : K) (hash : ℕ) (now : Instant) (old : Synchronous K V S X L P W) (clock : C)
    (new : Synchronous K V S X L P W) (clock_after : C) where
  -- the function sees a clone of the value that is visible, or nothing if none is, and what it makes of that is put, or
  -- comes back
  abbrev pub AndUpserts : (Option V → V → Type 0) → Result (CacheEntry K V) (GetWithRefused K V) → Type 0
  AndUpserts Answers result = (own : Result (Option V) OutOfMemory) × (got : Result (Option V) OutOfMemory)
      × IsCopiedAnswer is_clone own got
      × (put : Option (V × Result V (InsertRefused K V)))
      × IsUpsertOf Answers got put
      × HandsOutUpserted is_key_clone is_clone key got put result
      × Makes m (Upserts key hash now own put) old.engine clock new.engine clock_after
      × (new.stats ≡ after_look_up got old.stats)
      × IfOk got (Sees m.eq m.says is_clone old.engine.state key now.0)
      × IfErr result (ComesBack old.engine.state new.engine.state key
      (λ value. (seen : Option V) × (got ≡ Ok seen) × Answers seen value))

  -- the same, and what it answers is done; if that takes the key out, no record of it is left, and what was seen is
  -- a clone of what was taken
  abbrev pub AndComputes : (Option V → Op V → Type 0) → Result (CompResult K V) (ComputeRefused K V) → Type 0
  AndComputes Answers result = (own : Result (Option V) OutOfMemory) × (got : Result (Option V) OutOfMemory)
      × IsCopiedAnswer is_clone own got
      × (done : Option (Computed K V))
      × IsComputedBy Answers got done
      × HandsOutComputed is_key_clone is_clone key got done result
      × Makes m (Computes key hash now own done) old.engine clock new.engine clock_after
      × (new.stats ≡ after_look_up got old.stats)
      × IfOk got (Sees m.eq m.says is_clone old.engine.state key now.0)
      × ((taken : Option (V × Result (Unit {0}) OutOfMemory)) → done ≡ Some (Takes taken)
      → (record_of_key m.eq new.engine.state.records key ≡ None)
      × IfSome taken (λ t. IfOk got (λ seen. IfSome seen (is_clone t.0))))

-- ---- what refusals print

-- what the engine prints of the same refusal
abbrev pub compute_text : {K V : Type 0} → ComputeRefused K V → List ℕ
compute_text (compute_refused.Lookup key) = out_of_memory_text
compute_text (compute_refused.Insert refused) = insert_text refused.error
compute_text (compute_refused.NotTold key refused) = out_of_memory_text
