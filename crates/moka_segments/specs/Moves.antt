-- The cache's own calls as moves of its segments: what each call ensures, and which calls of the segments it is.
use Rattle.std.specs.Prelude.{◌≡◌, ℕ, suc, Bool, List, [], ◌∷◌, ◌++◌, Option, Some, Result, ◌⊎◌, ⊤}
use Rattle.std.specs.List.{AllZip}
use Rattle.uuid.specs.declared.Uuid.{Uuid}
use Rattle.moka_types.specs.declared.calls.Call.{Call}
use Rattle.moka_types.specs.declared.calls.Call.TheVariants as call
use Rattle.moka_types.specs.declared.calls.Reply.{Reply}
use Rattle.moka_types.specs.declared.calls.Reply.TheVariants as reply
use Rattle.moka_types.specs.declared.error.InsertRefused.{InsertRefused}
use Rattle.moka_types.specs.declared.error.OutOfMemory.{OutOfMemory}
use Rattle.moka_types.specs.declared.error.PredicateRefused.{PredicateRefused}
use Rattle.moka_records.specs.declared.instant.Instant.{Instant}
use Rattle.moka_parts.specs.Copies.{IsCopiedAnswer}
use Rattle.moka_parts.specs.State.{Meaning}
use Rattle.moka_calls.specs.declared.error.GetWithRefused.{GetWithRefused}
use Rattle.moka_calls.specs.declared.error.NotTold.{NotTold}
use Rattle.moka_calls.specs.Laws.{anytime}
use Rattle.moka_calls.specs.Synchronous.{Synchronous, Made, Just, InsertsEntry, GetsValue, RemovesEntry, GetsOrInserts, GetsOrInsertsIfMade, GetsOrInsertsIfNoError, HandsOutMade, HandsOutIfMade, HandsOutIfNoError, hears_clones, own_run, removed, invalidated}
use Rattle.moka_segments.specs.Laws.{Move, MoveAfterMove, calls_in, replies_in}
use Rattle.moka_segments.specs.Registering.{AllRegister}
use Rattle.moka_router.specs.Routing.{segment_of}
use Rattle.moka_segments.specs.Segmented.{Segmented, IsAt, Steps}
use Rattle.moka_cache.specs.Keyed.{Inserts, Gets, Removes, GetsWith, GetsWithIfMade, GetsWithIfNoError}
use Rattle.moka_segments.specs.Whole.{AllRan, Hides}

-- what calls of every kind mean side by side: a listener may hear of clones, and any identifier may be given
abbrev pub for_all_calls : {K V X L P W C : Type 0} → (K → K → Type 0) → (V → V → Type 0) →
    Meaning K V X L P W C (Unit {0}) → Meaning K V X L P W C (Unit {0})
for_all_calls is_key_clone is_clone m =
    record m { tells = hears_clones is_key_clone is_clone m.tells; gives = λ _ _ _. Unit {0} }

-- ---- which moves they are

module _ {K V S X L P W : Type 0} where
  -- one move, of the segment at the index, whose calls fit its hasher
  abbrev pub IsOneMove : List (Synchronous K V S X L P W) → ℕ → (S → List (Call K V P) → List (Reply K V P) → Type 0) →
      List (Move K V P) → Type 0
  IsOneMove segments index Fit moves = (v : Move K V P) × (x : Synchronous K V S X L P W) × (moves ≡ v ∷ [])
      × (v.index ≡ index) × IsAt segments index x × Fit x.engine.hasher v.calls v.replies

  -- one move of each segment in turn, the first at this index, whose calls fit
  abbrev pub AreOneEach : (List (Call K V P) → List (Reply K V P) → Type 0) → ℕ → List (Synchronous K V S X L P W) →
      List (Move K V P) → Type 0
  AreOneEach Fit index [] [] = ⊤
  AreOneEach Fit index (x ∷ xs) (v ∷ vs) = (v.index ≡ index) × Fit v.calls v.replies × AreOneEach Fit (suc index) xs vs
  AreOneEach Fit index xs moves = ⊥

-- a predicate of these is registered, or refused, or no call is made
abbrev pub MayRegister : {K V P : Type 0} → (P → Type 0) → Instant → List (Call K V P) → List (Reply K V P) → Type 0
MayRegister {P = P} Given now calls replies = ((calls ≡ []) × (replies ≡ []))
    ⊎ ((predicate : P) × (answer : Result Uuid (PredicateRefused P)) × Given predicate
    × Just (call.InvalidateIf predicate now) (reply.InvalidateIf answer) calls replies)

module _ {K V S X L P W C : Type 0} (m : Meaning K V X L P W C (Unit {0})) where
  -- some moves that fit were made
  abbrev pub MovesBy : (List (Move K V P) → Type 0) → C → Segmented K V S X L P W → C → Segmented K V S X L P W → Type 0
  MovesBy Fit clock old clock_after new = (moves : List (Move K V P)) × Fit moves
      × MoveAfterMove m moves clock old clock_after new

  -- each segment is one run of the reference cache, of those moves that are its own
  abbrev pub AreRuns : List (Move K V P) → Segmented K V S X L P W → Segmented K V S X L P W → Type 0
  AreRuns moves old new = (index : ℕ) (x y : Synchronous K V S X L P W) → IsAt old.segments index x
      → IsAt new.segments index y
      → Made (anytime m) (calls_in index moves) (replies_in index moves) x.engine tt y.engine tt

-- ---- laws

-- moves after moves are moves
abbrev pub MovesGoOn : {K V X L P W C : Type 0} → (S : Type 0) → Meaning K V X L P W C (Unit {0}) → Type 0
MovesGoOn {K} {V} {X} {L} {P} {W} {C} S m = (first later : List (Move K V P)) (old mid new : Segmented K V S X L P W)
    (clock between clock_after : C) →
    MoveAfterMove m first clock old between mid → MoveAfterMove m later between mid clock_after new
    → MoveAfterMove m (first ++ later) clock old clock_after new

module _ {K V S X L P W C : Type 0} (hash_of : S → K → ℕ) (m : Meaning K V X L P W C (Unit {0}))
    (is_key_clone : K → K → Type 0) (is_clone : V → V → Type 0) where
  -- a call by key that is this step of the key's own segment is one move, of this segment, whose calls fit
  abbrev pub IsMoveBy : K → C → C → (Synchronous K V S X L P W → Synchronous K V S X L P W → Type 0) →
      (ℕ → List (Call K V P) → List (Reply K V P) → Type 0) → Type 0
  IsMoveBy key clock clock_after Step Fit = (old new : Segmented K V S X L P W) →
      Steps (segment_of old.routing.count (hash_of old.routing.hasher key)) Step old new →
      MovesBy (for_all_calls is_key_clone is_clone m)
      (IsOneMove old.segments (segment_of old.routing.count (hash_of old.routing.hasher key))
      (λ hasher. Fit (hash_of hasher key))) clock old clock_after new

  -- so is each call by key
  pub record CallsByKeyAreMoves : Type 0 where
    pub insert : (key : K) (now : Instant) (clock clock_after : C) (value : V)
        (result : Result (Unit {0}) (InsertRefused K V)) →
        IsMoveBy key clock clock_after (Inserts m hash_of key now clock clock_after value result)
        (λ hash. InsertsEntry key hash value now result)
    pub get : (key : K) (now : Instant) (clock clock_after : C) (result : Result (Option V) OutOfMemory) →
        IsMoveBy key clock clock_after (Gets m hash_of key now clock clock_after is_clone result)
        (λ hash calls replies. (own : Result (Option V) OutOfMemory) × IsCopiedAnswer is_clone own result
        × GetsValue key hash now own calls replies)
    pub remove : (key : K) (now : Instant) (clock clock_after : C) (result : Result (Option V) (NotTold V)) →
        IsMoveBy key clock clock_after
        (Removes m hash_of key now clock clock_after is_key_clone is_clone (λ taken. result ≡ removed taken))
        (λ hash calls replies. (taken : Option (V × Result (Unit {0}) OutOfMemory)) × (result ≡ removed taken)
        × RemovesEntry key hash now taken calls replies)
    pub invalidate : (key : K) (now : Instant) (clock clock_after : C) (result : Result (Unit {0}) (NotTold V)) →
        IsMoveBy key clock clock_after
        (Removes m hash_of key now clock clock_after is_key_clone is_clone (λ taken. result ≡ invalidated taken))
        (λ hash calls replies. (taken : Option (V × Result (Unit {0}) OutOfMemory)) × (result ≡ invalidated taken)
        × RemovesEntry key hash now taken calls replies)

  -- a get with a maker too
  abbrev pub GetWithIsMove : {M : Type 0} → (M → V → Type 0) → Type 0
  GetWithIsMove {M} makes = (key : K) (now : Instant) (clock clock_after : C) (init : M)
      (result : Result V (GetWithRefused K V))
      → IsMoveBy key clock clock_after (GetsWith m hash_of key now clock clock_after is_clone (makes init) result)
      (λ hash calls replies. (made : Option V) × (own : Result V (Option (InsertRefused K V)))
      × ((value : V) → made ≡ Some value → makes init value) × HandsOutMade is_clone key own result
      × GetsOrInserts key hash now made own calls replies)

  -- or with one that may decline
  abbrev pub GetWithIfMadeIsMove : {M : Type 0} → (M → Option V → Type 0) → Type 0
  GetWithIfMadeIsMove {M} makes = (key : K) (now : Instant) (clock clock_after : C) (init : M)
      (result : Result (Option V) (GetWithRefused K V))
      → IsMoveBy key clock clock_after (GetsWithIfMade m hash_of key now clock clock_after is_clone (makes init) result)
      (λ hash calls replies. (made : Option (Option V)) × (own : Result (Option V) (Option (InsertRefused K V)))
      × ((answer : Option V) → made ≡ Some answer → makes init answer) × HandsOutIfMade is_clone key own result
      × GetsOrInsertsIfMade key hash now made own calls replies)

  -- or fail
  abbrev pub GetWithIfNoErrorIsMove : {M E : Type 0} → (M → Result V E → Type 0) → Type 0
  GetWithIfNoErrorIsMove {M} {E} makes = (key : K) (now : Instant) (clock clock_after : C) (init : M)
      (result : Result (Result V E) (GetWithRefused K V))
      → IsMoveBy key clock clock_after
      (GetsWithIfNoError m hash_of key now clock clock_after is_clone (makes init) result)
      (λ hash calls replies. (made : Option (Result V E)) × (own : Result (Result V E) (Option (InsertRefused K V)))
      × ((answer : Result V E) → made ≡ Some answer → makes init answer) × HandsOutIfNoError is_clone key own result
      × GetsOrInsertsIfNoError key hash now made own calls replies)

  -- an insert, and then a get
  abbrev pub InsertsThenGets : K → V → K → Instant → Result (Unit {0}) (InsertRefused K V) →
      Result (Option V) OutOfMemory → Segmented K V S X L P W → Segmented K V S X L P W → Type 0
  InsertsThenGets key value sought now put got old new = (mid : Segmented K V S X L P W) × (first : List (Move K V P))
      × (later : List (Move K V P))
      × IsOneMove old.segments (segment_of old.routing.count (hash_of old.routing.hasher key))
      (λ hasher. InsertsEntry key (hash_of hasher key) value now put) first
      × IsOneMove mid.segments (segment_of mid.routing.count (hash_of mid.routing.hasher sought))
      (λ hasher calls replies. (own : Result (Option V) OutOfMemory) × IsCopiedAnswer is_clone own got
      × GetsValue sought (hash_of hasher sought) now own calls replies) later
      × AreRuns (for_all_calls is_key_clone is_clone m) (first ++ later) old new

module _ {K V X L P W C : Type 0} (S : Type 0) (m : Meaning K V X L P W C (Unit {0})) (is_key_clone : K → K → Type 0)
    (is_clone : V → V → Type 0) where
  -- what is made of the segment at an index, as by the borrower of one that is lent, is that move; its listener may
  -- hear of clones
  abbrev pub IsMoveOfLent : Meaning K V X L P W C (Unit {0}) → Type 0
  IsMoveOfLent heard = (v : Move K V P) (clock clock_after : C) (old new : Segmented K V S X L P W)
      → Steps v.index (λ s t. Made heard v.calls v.replies s.engine clock t.engine clock_after) old new
      → MoveAfterMove (for_all_calls is_key_clone is_clone m) (v ∷ []) clock old clock_after new

  pub record LentCallsAreMoves : Type 0 where
    pub of_entries : IsMoveOfLent m
    pub of_clones : IsMoveOfLent (record m { tells = hears_clones is_key_clone is_clone m.tells })

  -- what leads from one cache to another is one move of each segment in turn, whose calls fit
  abbrev pub IsMoveOfEach : C → C → (Segmented K V S X L P W → Segmented K V S X L P W → Type 0) →
      (List (Call K V P) → List (Reply K V P) → Type 0) → Type 0
  IsMoveOfEach clock clock_after Leads Fit = (old new : Segmented K V S X L P W) → Leads old new
      → MovesBy (for_all_calls is_key_clone is_clone m) (AreOneEach Fit 0 old.segments) clock old clock_after new

  -- so is each call that concerns all segments
  pub record CallsOfAllAreMoves : Type 0 where
    pub invalidate_all : (now : Instant) (clock : C) →
        IsMoveOfEach clock clock (λ old new. (new.routing ≡ old.routing)
        × AllZip (Hides m.tells now) old.segments new.segments) (Just (call.InvalidateAll now) reply.InvalidateAll)
    pub run_pending_tasks : (now : Instant) (clock clock_after : C) (more : Bool) →
        IsMoveOfEach clock clock_after (λ old new. (new.routing ≡ old.routing)
        × AllRan m now clock more clock_after old.segments new.segments)
        (λ calls replies. (left : Bool) × Just (own_run now) (reply.Run left) calls replies)

  -- a predicate for each segment too, up to the first that refuses; those after it make no call
  abbrev pub RegisteringIsMoves : {I M : Type 0} → (I → Uuid → I → Type 0) → (M → P → Type 0) → Type 0
  RegisteringIsMoves {I} {M} gives makes = (make : M) (now : Instant) (given : List Uuid)
      (result : Result (Unit {0}) (PredicateRefused P)) (ids ids_after : I) (clock : C) →
      IsMoveOfEach clock clock (λ old new. (new.routing ≡ old.routing)
      × AllRegister m.tells gives (makes make) now given result ids ids_after old.segments new.segments)
      (MayRegister (makes make) now)
