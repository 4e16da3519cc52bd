-- What the replies of a cache's calls say of its counters.
use Rattle.std.specs.Prelude.{◌≡◌, ℕ, ◌+◌, ◌≤◌, Bool, true, false, List, [], ◌++◌, count_by, Option, Some, None, Result, Ok}
use Rattle.std.specs.declared.alloc.Global.{Global}
use Rattle.std.specs.declared.vec.Vec.{Vec}
use Rattle.moka_records.specs.declared.instant.Instant.{Instant}
use Rattle.moka_types.specs.declared.calls.Call.{Call}
use Rattle.moka_types.specs.declared.calls.Call.TheVariants as call
use Rattle.moka_types.specs.declared.calls.Reply.{Reply}
use Rattle.moka_types.specs.declared.calls.Reply.TheVariants as reply
use Rattle.moka_types.specs.declared.error.CapacityError.{CapacityError}
use Rattle.moka_types.specs.declared.error.InsertRefused.{InsertRefused}
use Rattle.moka_types.specs.declared.error.OutOfMemory.{OutOfMemory}
use Rattle.moka_records.specs.Time.{greatest, plus}
use Rattle.moka_parts.specs.Copies.{IsCopiedAnswer}
use Rattle.moka_calls.specs.declared.many.GetManyRefused.{GetManyRefused}
use Rattle.moka_calls.specs.declared.many.InsertManyRefused.{InsertManyRefused}
use Rattle.moka_calls.specs.declared.many.InvalidateManyRefused.{InvalidateManyRefused}
use Rattle.moka_parts.specs.declared.stats.Stats.{Stats}
use Rattle.moka_calls.specs.Compute.{Computed, Computes, Upserts}
use Rattle.moka_parts.specs.Counters.{no_stats, after_look_up, after_look_ups, after_get_with}
use Rattle.moka_calls.specs.Entry.{after_get_or_insert}
use Rattle.moka_calls.specs.Many.{GetsMany, InsertsMany, InvalidatesMany, found_by}
use Rattle.moka_calls.specs.Synchronous.{Just, own_run, GetsValue, GetsOrInserts, GetsOrInsertsIfMade, GetsOrInsertsIfNoError, InsertsEntry, RemovesEntry}

module _ {K V P : Type 0} where
  -- a look-up that found a value
  abbrev pub is_hit : Reply K V P → Bool
  is_hit (reply.Get (Ok (Some entry))) = true
  is_hit r = false

  -- a look-up that found none
  abbrev pub is_miss : Reply K V P → Bool
  is_miss (reply.Get (Ok None)) = true
  is_miss r = false

  -- a look-up that was answered
  abbrev pub is_look_up : Reply K V P → Bool
  is_look_up (reply.Get (Ok found)) = true
  is_look_up r = false

-- how many makers were called
abbrev pub loads_of : {A : Type 0} → Option A → ℕ
loads_of None = 0
loads_of (Some made) = 1

-- the counters are numbers that the program holds
pub record AreCounters (s : Stats) : Type 0 where
  pub hits_fit : s.hits ≤ greatest
  pub misses_fit : s.misses ≤ greatest
  pub loads_fit : s.loads ≤ greatest

-- the counters rose by the hits and misses among these replies, and by so many calls of makers, saturating
pub record IsCounted {K V P : Type 0} (replies : List (Reply K V P)) (makers : ℕ) (s t : Stats) : Type 0 where
  pub hits : t.hits ≡ plus s.hits (count_by is_hit replies)
  pub misses : t.misses ≡ plus s.misses (count_by is_miss replies)
  pub loads : t.loads ≡ plus s.loads makers

-- ---- laws

-- if such calls were made, the counters rose from the first to the second by their look-ups, and by so many calls of
-- makers
abbrev pub Counts : {K V P : Type 0} → (List (Call K V P) → List (Reply K V P) → Type 0) → ℕ → Stats → Stats → Type 0
Counts {K} {V} {P} Fit makers s t = (calls : List (Call K V P)) (replies : List (Reply K V P)) → AreCounters s →
    Fit calls replies → IsCounted replies makers s t

-- each call counts the look-ups among the calls that it stands for, and the maker that it called
pub record CountsCalls (K V P E : Type 0) (is_clone : V → V → Type 0) : Type 0 where
  pub get : (s : Stats) (key : K) (hash : ℕ) (now : Instant) (own answer : Result (Option V) OutOfMemory) →
      IsCopiedAnswer is_clone own answer → Counts {P = P} (GetsValue key hash now own) 0 s (after_look_up answer s)
  pub get_with : (s : Stats) (key : K) (hash : ℕ) (now : Instant) (made : Option V)
      (own : Result V (Option (InsertRefused K V))) →
      Counts {P = P} (GetsOrInserts key hash now made own) (loads_of made) s (after_get_with made own s)
  pub optionally_get_with : (s : Stats) (key : K) (hash : ℕ) (now : Instant) (made : Option (Option V))
      (own : Result (Option V) (Option (InsertRefused K V))) →
      Counts {P = P} (GetsOrInsertsIfMade key hash now made own) (loads_of made) s (after_get_with made own s)
  pub try_get_with : (s : Stats) (key : K) (hash : ℕ) (now : Instant) (made : Option (Result V E))
      (own : Result (Result V E) (Option (InsertRefused K V))) →
      Counts {P = P} (GetsOrInsertsIfNoError key hash now made own) (loads_of made) s (after_get_with made own s)
  pub insert : (s : Stats) (key : K) (hash : ℕ) (value : V) (now : Instant)
      (answer : Result (Unit {0}) (InsertRefused K V)) → Counts {P = P} (InsertsEntry key hash value now answer) 0 s s
  pub remove : (s : Stats) (key : K) (hash : ℕ) (now : Instant)
      (taken : Option (V × Result (Unit {0}) OutOfMemory)) → Counts {P = P} (RemovesEntry key hash now taken) 0 s s
  pub run_pending_tasks : (s : Stats) (now : Instant) (more : Bool) →
      Counts {K = K} {V = V} {P = P} (Just (own_run now) (reply.Run more)) 0 s s
  pub invalidate_all : (s : Stats) (now : Instant) →
      Counts {K = K} {V = V} {P = P} (Just (call.InvalidateAll now) reply.InvalidateAll) 0 s s
  pub set_max_capacity : (s : Stats) (capacity : Option ℕ) (answer : Result (Unit {0}) CapacityError) →
      Counts {K = K} {V = V} {P = P} (Just (call.SetCapacity capacity) (reply.SetCapacity answer)) 0 s s
  -- a miss after which a value is put is no load
  pub or_insert : (s : Stats) (key : K) (hash : ℕ) (now : Instant) (put : Option V)
      (own : Result V (Option (InsertRefused K V))) →
      Counts {P = P} (GetsOrInserts key hash now put own) 0 s (after_get_or_insert put own s)
  -- a function that computes a value is no maker
  pub and_upsert_with : (s : Stats) (key : K) (hash : ℕ) (now : Instant) (own got : Result (Option V) OutOfMemory)
      (put : Option (V × Result V (InsertRefused K V))) → IsCopiedAnswer is_clone own got →
      Counts {P = P} (Upserts key hash now own put) 0 s (after_look_up got s)
  pub and_compute_with : (s : Stats) (key : K) (hash : ℕ) (now : Instant) (own got : Result (Option V) OutOfMemory)
      (done : Option (Computed K V)) → IsCopiedAnswer is_clone own got →
      Counts {P = P} (Computes key hash now own done) 0 s (after_look_up got s)
  pub get_many : (s : Stats) (hash_of : K → ℕ) (now : Instant) (keys : List K)
      (answer : Result (Vec (Option V) Global) (GetManyRefused V)) →
      Counts {P = P} (GetsMany is_clone hash_of now keys answer) 0 s (after_look_ups (found_by answer) s)
  pub insert_many : (s : Stats) (hash_of : K → ℕ) (now : Instant) (items : List (K × V))
      (answer : Result (Unit {0}) (InsertManyRefused K V)) →
      Counts {P = P} (InsertsMany hash_of now items answer) 0 s s
  pub invalidate_many : (s : Stats) (hash_of : K → ℕ) (now : Instant) (keys : List K)
      (answer : Result (Unit {0}) (InvalidateManyRefused V)) →
      Counts {P = P} (InvalidatesMany hash_of now keys answer) 0 s s

-- so it is with any list of calls: what is counted adds up from call to call
pub record AddsUp (K V P : Type 0) : Type 0 where
  pub at_first : (s : Stats) → AreCounters s → IsCounted {K = K} {V = V} {P = P} [] 0 s s
  pub goes_on : (replies later : List (Reply K V P)) (m n : ℕ) (s t u : Stats) → IsCounted replies m s t →
      IsCounted later n t u → IsCounted (replies ++ later) (m + n) s u
  pub fits : (replies : List (Reply K V P)) (m : ℕ) (s t : Stats) → IsCounted replies m s t → AreCounters t

-- and from the first call on, hits and misses sum to the look-ups that were answered, as long as no counter is full
abbrev pub SumsToLookUps : (K V P : Type 0) → Type 0
SumsToLookUps K V P = (replies : List (Reply K V P)) (makers : ℕ) (s : Stats) → IsCounted replies makers no_stats s
    → count_by is_look_up replies ≤ greatest → s.hits + s.misses ≡ count_by is_look_up replies
