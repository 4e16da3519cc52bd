-- Calls that are made once more if they are refused.
use Rattle.std.specs.Prelude.{◌≡◌, ◌==◌, ◌⊎◌, ℕ, Bool, Option, Some, None, Result, Ok, Err, IfErr}
use Rattle.moka_engine.specs.parts.Call.TheVariants as call
use Rattle.moka_engine.specs.parts.CapacityError.{CapacityError}
use Rattle.moka_engine.specs.parts.InsertError.TheVariants as insert_error
use Rattle.moka_engine.specs.parts.InsertRefused.{InsertRefused}
use Rattle.moka_engine.specs.parts.Instant.{Instant}
use Rattle.moka_engine.specs.parts.OutOfMemory.{OutOfMemory}
use Rattle.moka_engine.specs.parts.PredicateRefused.{PredicateRefused}
use Rattle.moka_engine.specs.parts.Reply.TheVariants as reply
use Rattle.moka_engine.specs.parts.Uuid.{Uuid}
use Rattle.moka_engine.specs.Copies.{IsCopiedAnswer}
use Rattle.moka_engine.specs.Runs.{Engine}
use Rattle.moka_engine.specs.State.{Meaning}
use Rattle.moka_cache.specs.parts.GetWithRefused.{GetWithRefused}
use Rattle.moka_cache.specs.parts.GetWithRefused.TheVariants.{Lookup, Insert}
use Rattle.moka_cache.specs.Synchronous.{Synchronous, GetsValue, GetsWith, Makes}
use Rattle.moka_uses.specs.Made.{Inserts, IsOneCall, Registers, simple_meaning}

module _ {K V S X L P W C : Type 0} (m : Meaning K V X L P W C (Unit {0})) (key : K) (value : V) (now : Instant)
    (old : Engine K V S X L P W) (clock : C) (new : Engine K V S X L P W) (clock_after : C) where
  -- an insert, and only if memory for it was refused the same once more; no other call
  abbrev pub InsertsOrRetries : Result (Unit {0}) (InsertRefused K V) → Type 0
  InsertsOrRetries result = (Inserts m key now old clock new clock_after value result
      × IfErr result (λ refused. refused.error ≡ insert_error.NumbersUsedUp))
      ⊎ ((mid : Engine K V S X L P W) × (between : C)
      × Inserts m key now old clock mid between value
      (Err (record { error = insert_error.OutOfMemory; key = key; value = value }))
      × Inserts m key now mid between new clock_after value result)

-- what is handed out if a second look-up answered so
abbrev pub found_or_refused : {V : Type 0} → Result (Option V) OutOfMemory → Result V OutOfMemory
found_or_refused (Ok (Some value)) = Ok value
found_or_refused (Ok None) = Err (record {})
found_or_refused (Err refused) = Err (record {})

module _ {K V S X L P W C : Type 0} (m : Meaning K V X L P W C (Unit {0})) (is_clone : V → V → Type 0) (key : K)
    (now : Instant) where
  -- what was done after a get with a maker: what it handed out is handed out, and a value that was made and not kept
  -- too; if its look-up was refused, another one was made
  abbrev pub GoesOnAfter : Result V (GetWithRefused K V) → Synchronous K V S X L P W → C → Synchronous K V S X L P W →
      C → Result V OutOfMemory → Type 0
  GoesOnAfter (Ok value) mid between new clock_after result = (new ≡ mid) × (clock_after ≡ between)
      × (result ≡ Ok value)
  GoesOnAfter (Err (Insert refused)) mid between new clock_after result = (new ≡ mid) × (clock_after ≡ between)
      × (result ≡ Ok refused.value)
  GoesOnAfter (Err (Lookup k)) mid between new clock_after result = (hash : ℕ)
      × (own found : Result (Option V) OutOfMemory) × IsCopiedAnswer is_clone own found
      × Makes m (GetsValue key hash now own) mid.engine between new.engine clock_after
      × (result ≡ found_or_refused found)

-- a get with a maker, and what was done after it; no other call
abbrev pub ReadsThroughOrRetries : {K V S X L P W C : Type 0} → Meaning K V X L P W C (Unit {0}) → (V → V → Type 0) →
    K → Instant → Synchronous K V S X L P W → C → Synchronous K V S X L P W → C → (V → Type 0) →
    Result V OutOfMemory → Type 0
ReadsThroughOrRetries {K} {V} {S} {X} {L} {P} {W} {C} m is_clone key now old clock new clock_after Answers result =
    (hash : ℕ) × (got : Result V (GetWithRefused K V)) × (mid : Synchronous K V S X L P W) × (between : C)
    × GetsWith m is_clone key hash now old clock mid between Answers got
    × GoesOnAfter m is_clone key now got mid between new clock_after result

-- what the parts of a cache of numbers mean if predicates and the source of identifiers answer so
abbrev pub hiding_meaning : {X L P W I : Type 0} → (P → ℕ → ℕ → Bool → Type 0) → (I → Uuid → I → Type 0) →
    Meaning ℕ ℕ X L P W (Unit {0}) I
hiding_meaning says gives = simple_meaning (λ a b. a == b) says (λ _ _ _. ⊥) gives

module _ {K V S X L P W C I : Type 0} (m : Meaning K V X L P W C I) where
  -- the predicate was registered under this identifier; or it was refused, and all entries invalidated in its place; no
  -- other call
  abbrev pub HidesOrInvalidates : P → Instant → Engine K V S X L P W → I → Engine K V S X L P W → I → Option Uuid →
      Type 0
  HidesOrInvalidates predicate now old ids new ids_after (Some id) =
      Registers m predicate now old ids new ids_after (Ok id)
  HidesOrInvalidates predicate now old ids new ids_after None =
      (refused : PredicateRefused P) × (mid : Engine K V S X L P W)
      × Registers m predicate now old ids mid ids_after (Err refused)
      × IsOneCall m mid new (call.InvalidateAll now) reply.InvalidateAll

  -- the capacity was set, or that was refused; no other call
  abbrev pub SetsCapacity : ℕ → Engine K V S X L P W → Engine K V S X L P W → Type 0
  SetsCapacity capacity old new = (answer : Result (Unit {0}) CapacityError)
      × IsOneCall m old new (call.SetCapacity (Some capacity)) (reply.SetCapacity answer)
