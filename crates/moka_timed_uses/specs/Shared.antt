-- What calls made of a cache in segments.
use Rattle.std.specs.Prelude.{◌≡◌, ◌==◌, ℕ, Bool, Option, Result}
use Rattle.moka_engine.specs.declared.FixedClock.{FixedClock}
use Rattle.moka_engine.specs.parts.InsertRefused.{InsertRefused}
use Rattle.moka_engine.specs.parts.Instant.{Instant}
use Rattle.moka_engine.specs.parts.OutOfMemory.{OutOfMemory}
use Rattle.moka_engine.specs.State.{Meaning}
use Rattle.moka_cache.specs.parts.CacheEntry.{CacheEntry}
use Rattle.moka_cache.specs.Entry.{OrInserts}
use Rattle.moka_cache.specs.Synchronous.{GetsOrInserts}
use Rattle.moka_router.specs.Routing.{segment_of}
use Rattle.moka_segments.specs.Moves.{IsOneMove, MovesBy, for_all_calls}
use Rattle.moka_segments.specs.Segmented.{Segmented, Steps}
use Rattle.moka_cache.specs.Keyed.{Gets, Inserts}
use Rattle.moka_segments.specs.Whole.{AllRan}
use Rattle.moka_uses.specs.Made.{plain_meaning}

-- each segment made a run of maintenance at the moment, by a clock that stands still
abbrev pub EachRan : {V S X L P W : Type 0} → Instant → Segmented ℕ V S X L P W → Segmented ℕ V S X L P W → Type 0
EachRan now old new = (new.routing ≡ old.routing) × (more : Bool) × (after : FixedClock)
    × AllRan (plain_meaning (λ a b. a == b) (λ before moment after. (moment ≡ before.0) × (after ≡ before)))
    now (record { 0 = now }) more after old.segments new.segments

-- the segment that the key belongs to made an insert of the value, done or refused, and every other is as it was
abbrev pub InsertsInOne : {K V S X L P W C : Type 0} → (S → K → ℕ) → Meaning K V X L P W C (Unit {0}) → K → V →
    Instant → Segmented K V S X L P W → C → Segmented K V S X L P W → C → Result (Unit {0}) (InsertRefused K V) → Type 0
InsertsInOne hash_of m key value now old clock new clock_after result =
    Steps (segment_of old.routing.count (hash_of old.routing.hasher key))
    (Inserts m hash_of key now clock clock_after value result) old new

-- such an insert of the value, and after it a get, done or refused, in the segment that the other key belongs to; the
-- clock goes on from one to the other
abbrev pub InsertsAndFinds : {K V S X L P W C : Type 0} → (S → K → ℕ) → Meaning K V X L P W C (Unit {0}) →
    (V → V → Type 0) → K → V → K → Instant → Segmented K V S X L P W → C → Segmented K V S X L P W → C →
    Result (Unit {0}) (InsertRefused K V) → Result (Option V) OutOfMemory → Type 0
InsertsAndFinds {K} {V} {S} {X} {L} {P} {W} {C} hash_of m is_clone key value sought now old clock new after put got =
    (mid : Segmented K V S X L P W) × (between : C)
    × InsertsInOne hash_of m key value now old clock mid between put
    × Steps (segment_of mid.routing.count (hash_of mid.routing.hasher sought))
    (Gets m hash_of sought now between after is_clone got) mid new

module _ {K V S X L P W C : Type 0} (hash_of : S → K → ℕ) (m : Meaning K V X L P W C (Unit {0}))
    (is_key_clone : K → K → Type 0) (is_clone : V → V → Type 0) where
  -- the segment that the key belongs to was looked up, and the value put in if none was visible; every other is as it
  -- was
  abbrev pub OrInsertsInOne : K → V → Instant → Segmented K V S X L P W → C → Segmented K V S X L P W → C →
      Result (CacheEntry K V) (InsertRefused K V) → Type 0
  OrInsertsInOne key value now old clock new clock_after result =
      Steps (segment_of old.routing.count (hash_of old.routing.hasher key)) (λ s t. OrInserts m is_key_clone is_clone
      key (hash_of s.engine.hasher key) now s clock t clock_after value result) old new

  -- that is one move, of this segment: a get, and an insert of what was put in, if anything was
  abbrev pub GetsOrPuts : K → Instant → Segmented K V S X L P W → C → Segmented K V S X L P W → C → Type 0
  GetsOrPuts key now old clock new clock_after = (put : Option V) × (own : Result V (Option (InsertRefused K V)))
      × MovesBy (for_all_calls is_key_clone is_clone m)
      (IsOneMove old.segments (segment_of old.routing.count (hash_of old.routing.hasher key))
      (λ hasher. GetsOrInserts key (hash_of hasher key) now put own)) clock old clock_after new
