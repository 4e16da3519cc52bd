-- The moment of a call of a cache that owns its clock: the clock is read first.
use Rattle.moka_records.specs.declared.instant.Instant.{Instant}
use Rattle.moka_calls.specs.Synchronous.{Synchronous}
use Rattle.moka_timed.specs.declared.cache.TimedCache.{TimedCache}

module _ {K V C X L P W S H : Type 0} (reads : C → Instant → C → Type 0) where
  -- the clock told a moment, and from the clock as it was then this was made of the cache at that moment
  abbrev pub AtItsMoment : TimedCache K V C X L P W S H → TimedCache K V C X L P W S H →
      (Instant → Synchronous K V S X L P W → C → Synchronous K V S X L P W → C → Type 0) → Type 0
  AtItsMoment old new Makes = (now : Instant) × (read : C) × reads old.clock now read
      × Makes now old.cache read new.cache new.clock

  -- the clock told a moment and was not read again, and at that moment this was made of the cache
  abbrev pub AtItsOnlyMoment : TimedCache K V C X L P W S H → TimedCache K V C X L P W S H →
      (Instant → Synchronous K V S X L P W → Synchronous K V S X L P W → Type 0) → Type 0
  AtItsOnlyMoment old new Makes = (now : Instant) × reads old.clock now new.clock × Makes now old.cache new.cache

-- this holds of whatever moment the clock tells
abbrev pub AtAnyMoment : {C : Type 0} → (C → Instant → C → Type 0) → C → (Instant → Type 0) → Type 0
AtAnyMoment {C} reads clock Holds = (now : Instant) → (read : C) → reads clock now read → Holds now
