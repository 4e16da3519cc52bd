-- Lists of moves: what a cache in segments makes of each of them.
use Rattle.std.specs.Prelude.{◌≡◌, ℕ, Bool, ◌==◌, cond, List, [], ◌∷◌, ◌++◌, Option, Result, MatchBool}
use Rattle.std.specs.List.{AllZip}
use Rattle.uuid.specs.declared.Uuid.{Uuid}
use Rattle.moka_types.specs.declared.calls.Call.{Call}
use Rattle.moka_types.specs.declared.calls.Reply.{Reply}
use Rattle.moka_types.specs.declared.error.InsertRefused.{InsertRefused}
use Rattle.moka_types.specs.declared.error.OutOfMemory.{OutOfMemory}
use Rattle.moka_types.specs.declared.error.PredicateRefused.{PredicateRefused}
use Rattle.moka_parts.specs.declared.notification.RemovalCause.{RemovalCause}
use Rattle.moka_records.specs.declared.instant.Instant.{Instant}
use Rattle.moka_parts.specs.State.{Meaning}
use Rattle.moka_parts.specs.Surroundings.{Leads}
use Rattle.moka_calls.specs.declared.error.GetWithRefused.{GetWithRefused}
use Rattle.moka_calls.specs.declared.error.NotTold.{NotTold}
use Rattle.moka_calls.specs.Laws.{anytime}
use Rattle.moka_calls.specs.Synchronous.{Synchronous, Made, removed, invalidated}
use Rattle.moka_segments.specs.Keys.{AreInOneSegment, Belongs, InsertsOnly, KeepsKeys, KeysBelong}
use Rattle.moka_segments.specs.Registering.{AllRegister}
use Rattle.moka_router.specs.Routing.{Routing, segment_of}
use Rattle.moka_segments.specs.Segmented.{Segmented, IsAt, Steps}
use Rattle.moka_cache.specs.Keyed.{Inserts, Gets, Removes, GetsWith, GetsWithIfMade, GetsWithIfNoError}
use Rattle.moka_segments.specs.Whole.{AllRan, Hides}

-- the calls that one segment made, with their replies
pub record Move (K V P : Type 0) : Type 0 where
  pub index : ℕ
  pub calls : List (Call K V P)
  pub replies : List (Reply K V P)

module _ {K V P : Type 0} where
  -- all calls that were made in a segment, in order
  abbrev pub calls_in : ℕ → List (Move K V P) → List (Call K V P)
  calls_in index [] = []
  calls_in index (v ∷ vs) = cond (v.index == index) (v.calls ++ calls_in index vs) (calls_in index vs)

  -- and their replies
  abbrev pub replies_in : ℕ → List (Move K V P) → List (Reply K V P)
  replies_in index [] = []
  replies_in index (v ∷ vs) = cond (v.index == index) (v.replies ++ replies_in index vs) (replies_in index vs)

module _ {K V S X L P W C : Type 0} (m : Meaning K V X L P W C (Unit {0})) where
  -- the segment made the calls, and every other is as it was
  abbrev pub Moves : Move K V P → C → Segmented K V S X L P W → C → Segmented K V S X L P W → Type 0
  Moves v clock old clock_after new =
      Steps v.index (λ x y. Made m v.calls v.replies x.engine clock y.engine clock_after) old new

  -- one move after the other
  abbrev pub MoveAfterMove : List (Move K V P) → C → Segmented K V S X L P W → C → Segmented K V S X L P W → Type 0
  MoveAfterMove [] clock old clock_after new = (clock_after ≡ clock) × (new ≡ old)
  MoveAfterMove (v ∷ vs) clock old clock_after new =
      (between : Segmented K V S X L P W) × (meanwhile : C) × Moves v clock old meanwhile between
      × MoveAfterMove vs meanwhile between clock_after new

  -- the moves that one segment made, one after the other; while others make theirs, the clock tells them moments
  abbrev pub MovesAlone : ℕ → List (Move K V P) → Synchronous K V S X L P W → C → Synchronous K V S X L P W → C → Type 0
  MovesAlone index [] x clock y clock_after = (y ≡ x) × (clock_after ≡ clock)
  MovesAlone index (v ∷ vs) x clock y clock_after = (z : Synchronous K V S X L P W) × (meanwhile : C)
      × MatchBool (v.index == index) (Made m v.calls v.replies x.engine clock z.engine meanwhile)
      ((z ≡ x) × ((moments : List Instant) × Leads m.observes clock moments meanwhile))
      × MovesAlone index vs z meanwhile y clock_after

-- ---- laws

-- whatever moves were made, each segment is a run of the reference cache: of the calls that were made in it, with their
-- replies
abbrev pub EachRuns : {K V X L P W C : Type 0} → (S : Type 0) → Meaning K V X L P W C (Unit {0}) → Type 0
EachRuns {K} {V} {X} {L} {P} {W} {C} S m = (moves : List (Move K V P)) (old new : Segmented K V S X L P W)
    (clock clock_after : C) → MoveAfterMove m moves clock old clock_after new →
    (index : ℕ) (x y : Synchronous K V S X L P W) → IsAt old.segments index x → IsAt new.segments index y
    → Made (anytime m) (calls_in index moves) (replies_in index moves) x.engine tt y.engine tt

-- and it goes by the clock that all share: within a move it alone reads it
abbrev pub EachMovesAlone : {K V X L P W C : Type 0} → (S : Type 0) → Meaning K V X L P W C (Unit {0}) → Type 0
EachMovesAlone {K} {V} {X} {L} {P} {W} {C} S m = (moves : List (Move K V P)) (old new : Segmented K V S X L P W)
    (clock clock_after : C) → MoveAfterMove m moves clock old clock_after new →
    (index : ℕ) (x y : Synchronous K V S X L P W) → IsAt old.segments index x → IsAt new.segments index y
    → MovesAlone m index moves x clock y clock_after

-- each key that is inserted belongs to the segment in which it is
abbrev pub InsertWhereTheyBelong : {K V S P : Type 0} → (S → K → ℕ) → Routing S → List (Move K V P) → Type 0
InsertWhereTheyBelong hash_of routing [] = Unit {0}
InsertWhereTheyBelong hash_of routing (v ∷ vs) = InsertsOnly (Belongs hash_of routing v.index) v.calls
    × InsertWhereTheyBelong hash_of routing vs

-- if each segment holds only keys that belong to it, and keys are inserted where they belong, it stays so whatever else
-- is called
abbrev pub KeysStay : {K V X L P W C : Type 0} → (S : Type 0) → (S → K → ℕ) → Meaning K V X L P W C (Unit {0}) → Type 0
KeysStay {K} {V} {X} {L} {P} {W} {C} S hash_of m = (moves : List (Move K V P)) (old new : Segmented K V S X L P W)
    (clock clock_after : C) → MoveAfterMove m moves clock old clock_after new →
    InsertWhereTheyBelong hash_of old.routing moves → KeysBelong hash_of old → KeysBelong hash_of new

-- and then keys that are equal are in one segment at most
abbrev pub OneSegmentEach : {K : Type 0} → (V S X L P W : Type 0) → (S → K → ℕ) → (K → K → Bool) → Type 0
OneSegmentEach {K} V S X L P W hash_of eq = (c : Segmented K V S X L P W) → KeysBelong hash_of c → AreInOneSegment eq c

module _ {K V S X L P W C : Type 0} (hash_of : S → K → ℕ) (m : Meaning K V X L P W C (Unit {0})) where
  -- a call by key that is this step of the key's own segment leaves keys where they belong
  abbrev pub KeepsKeysBy : K → (Synchronous K V S X L P W → Synchronous K V S X L P W → Type 0) → Type 0
  KeepsKeysBy key Step = KeepsKeys hash_of (λ (old new : Segmented K V S X L P W).
      Steps (segment_of old.routing.count (hash_of old.routing.hasher key)) Step old new)

  -- so does each call by key
  pub record CallsByKeyKeepKeys (is_key_clone : K → K → Type 0) (is_clone : V → V → Type 0) : Type 0 where
    pub insert : (key : K) (now : Instant) (clock clock_after : C) (value : V)
        (result : Result (Unit {0}) (InsertRefused K V)) →
        KeepsKeysBy key (Inserts m hash_of key now clock clock_after value result)
    pub get : (key : K) (now : Instant) (clock clock_after : C) (result : Result (Option V) OutOfMemory) →
        KeepsKeysBy key (Gets m hash_of key now clock clock_after is_clone result)
    pub remove : (key : K) (now : Instant) (clock clock_after : C) (result : Result (Option V) (NotTold V)) →
        KeepsKeysBy key
        (Removes m hash_of key now clock clock_after is_key_clone is_clone (λ taken. result ≡ removed taken))
    pub invalidate : (key : K) (now : Instant) (clock clock_after : C) (result : Result (Unit {0}) (NotTold V)) →
        KeepsKeysBy key
        (Removes m hash_of key now clock clock_after is_key_clone is_clone (λ taken. result ≡ invalidated taken))

  -- a get with a maker too
  abbrev pub GetWithKeepsKeys : {M : Type 0} → (V → V → Type 0) → (M → V → Type 0) → Type 0
  GetWithKeepsKeys {M} is_clone makes = (key : K) (now : Instant) (clock clock_after : C) (init : M)
      (result : Result V (GetWithRefused K V))
      → KeepsKeysBy key (GetsWith m hash_of key now clock clock_after is_clone (makes init) result)

  -- or with one that may decline
  abbrev pub GetWithIfMadeKeepsKeys : {M : Type 0} → (V → V → Type 0) → (M → Option V → Type 0) → Type 0
  GetWithIfMadeKeepsKeys {M} is_clone makes = (key : K) (now : Instant) (clock clock_after : C) (init : M)
      (result : Result (Option V) (GetWithRefused K V))
      → KeepsKeysBy key (GetsWithIfMade m hash_of key now clock clock_after is_clone (makes init) result)

  -- or fail
  abbrev pub GetWithIfNoErrorKeepsKeys : {M E : Type 0} → (V → V → Type 0) → (M → Result V E → Type 0) → Type 0
  GetWithIfNoErrorKeepsKeys {M} {E} is_clone makes = (key : K) (now : Instant) (clock clock_after : C) (init : M)
      (result : Result (Result V E) (GetWithRefused K V))
      → KeepsKeysBy key (GetsWithIfNoError m hash_of key now clock clock_after is_clone (makes init) result)

  -- and each call that concerns all segments
  pub record CallsOfAllKeepKeys : Type 0 where
    pub invalidate_all : (now : Instant) →
        KeepsKeys hash_of (λ (old new : Segmented K V S X L P W). (new.routing ≡ old.routing)
        × AllZip (Hides m.tells now) old.segments new.segments)
    pub run_pending_tasks : (now : Instant) (clock clock_after : C) (more : Bool) →
        KeepsKeys hash_of (λ (old new : Segmented K V S X L P W). (new.routing ≡ old.routing)
        × AllRan m now clock more clock_after old.segments new.segments)

-- a predicate for each segment too
abbrev pub RegisteringKeepsKeys : {K V L P I M : Type 0} → (S X W : Type 0) → (S → K → ℕ) →
    (L → K → V → RemovalCause → L → Type 0) → (I → Uuid → I → Type 0) → (M → P → Type 0) → Type 0
RegisteringKeepsKeys {K} {V} {L} {P} {I} {M} S X W hash_of tells gives makes = (make : M) (now : Instant)
    (given : List Uuid) (result : Result (Unit {0}) (PredicateRefused P)) (ids ids_after : I) →
    KeepsKeys hash_of (λ (old new : Segmented K V S X L P W). (new.routing ≡ old.routing)
    × AllRegister tells gives (makes make) now given result ids ids_after old.segments new.segments)
