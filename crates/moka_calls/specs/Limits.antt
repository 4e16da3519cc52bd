-- What limits a cache stays as it is, its times, its policy and its capacity, if no call sets the capacity.
use Rattle.std.specs.Prelude.{◌≡◌, ℕ, List, [], ◌∷◌, Option, Result, ⊤}
use Rattle.std.specs.declared.alloc.Global.{Global}
use Rattle.std.specs.declared.vec.Vec.{Vec}
use Rattle.moka_types.specs.declared.calls.Call.{Call}
use Rattle.moka_types.specs.declared.calls.Call.TheVariants as call
use Rattle.moka_types.specs.declared.calls.Reply.{Reply}
use Rattle.moka_types.specs.declared.error.InsertRefused.{InsertRefused}
use Rattle.moka_types.specs.declared.error.OutOfMemory.{OutOfMemory}
use Rattle.moka_records.specs.declared.instant.Instant.{Instant}
use Rattle.moka_parts.specs.Runs.{Engine}
use Rattle.moka_parts.specs.State.{State, Meaning}
use Rattle.moka_calls.specs.declared.many.GetManyRefused.{GetManyRefused}
use Rattle.moka_calls.specs.declared.many.InsertManyRefused.{InsertManyRefused}
use Rattle.moka_calls.specs.declared.many.InvalidateManyRefused.{InvalidateManyRefused}
use Rattle.moka_calls.specs.Compute.{Computed, Computes, Upserts}
use Rattle.moka_calls.specs.Many.{GetsMany, InsertsMany, InvalidatesMany}
use Rattle.moka_calls.specs.Synchronous.{Made, InsertsEntry, GetsValue, RemovesEntry, GetsOrInserts, GetsOrInsertsIfMade, GetsOrInsertsIfNoError}

-- the settings and the capacity are as they were
pub record HasSameLimits {K V X P W : Type 0} (s t : State K V X P W) : Type 0 where
  pub settings : t.settings ≡ s.settings
  pub capacity : t.capacity ≡ s.capacity

-- the call sets no capacity
abbrev pub SetsNoCapacity : {K V P : Type 0} → Call K V P → Type 0
SetsNoCapacity (call.SetCapacity capacity) = ⊥
SetsNoCapacity c = ⊤

-- nor does any other
abbrev pub SetNoCapacity : {K V P : Type 0} → List (Call K V P) → Type 0
SetNoCapacity [] = Unit {0}
SetNoCapacity (c ∷ cs) = SetsNoCapacity c × SetNoCapacity cs

-- over any list of calls that set no capacity the limits stay
abbrev pub KeepsLimits : {K V X L P W C : Type 0} → Type 0 → Meaning K V X L P W C (Unit {0}) → Type 0
KeepsLimits {K} {V} {X} {L} {P} {W} {C} S m = (calls : List (Call K V P)) (replies : List (Reply K V P))
    (old new : Engine K V S X L P W) (clock clock_after : C) → Made m calls replies old clock new clock_after
    → SetNoCapacity calls → HasSameLimits old.state new.state

-- calls that fit this set none
abbrev pub SetNone : {K V P : Type 0} → (List (Call K V P) → List (Reply K V P) → Type 0) → Type 0
SetNone {K} {V} {P} Fit = (calls : List (Call K V P)) (replies : List (Reply K V P)) → Fit calls replies →
    SetNoCapacity calls

-- what each call of the synchronous cache stands for sets none
pub record CallsSetNoCapacity (K V P E : Type 0) (key : K) (hash : ℕ) (now : Instant) : Type 0 where
  pub insert : (value : V) (a : Result (Unit {0}) (InsertRefused K V)) →
      SetNone {P = P} (InsertsEntry key hash value now a)
  pub get : (a : Result (Option V) OutOfMemory) → SetNone {P = P} (GetsValue key hash now a)
  pub remove : (taken : Option (V × Result (Unit {0}) OutOfMemory)) → SetNone {P = P} (RemovesEntry key hash now taken)
  pub get_with : (made : Option V) (own : Result V (Option (InsertRefused K V))) →
      SetNone {P = P} (GetsOrInserts key hash now made own)
  pub optionally_get_with : (made : Option (Option V)) (own : Result (Option V) (Option (InsertRefused K V))) →
      SetNone {P = P} (GetsOrInsertsIfMade key hash now made own)
  pub try_get_with : (made : Option (Result V E)) (own : Result (Result V E) (Option (InsertRefused K V))) →
      SetNone {P = P} (GetsOrInsertsIfNoError key hash now made own)
  pub and_upsert_with : (own : Result (Option V) OutOfMemory) (put : Option (V × Result V (InsertRefused K V))) →
      SetNone {P = P} (Upserts key hash now own put)
  pub and_compute_with : (own : Result (Option V) OutOfMemory) (done : Option (Computed K V)) →
      SetNone {P = P} (Computes key hash now own done)

-- nor does what each call for many stands for
pub record ManySetNoCapacity (K V P : Type 0) (is_clone : V → V → Type 0) (hash_of : K → ℕ)
    (now : Instant) : Type 0 where
  pub insert_many : (items : List (K × V)) (a : Result (Unit {0}) (InsertManyRefused K V)) →
      SetNone {P = P} (InsertsMany hash_of now items a)
  pub get_many : (keys : List K) (a : Result (Vec (Option V) Global) (GetManyRefused V)) →
      SetNone {P = P} (GetsMany is_clone hash_of now keys a)
  pub invalidate_many : (keys : List K) (a : Result (Unit {0}) (InvalidateManyRefused V)) →
      SetNone {P = P} (InvalidatesMany hash_of now keys a)
