-- What every step of maintenance keeps of a store.
use Rattle.std.specs.Prelude.{◌≡◌, ℕ, true, ◌<◌, ◌≤◌, ◌⊎◌, Some}
use Rattle.std.specs.FinMap.{get, insert}
use Rattle.moka_records.specs.declared.records.Record.{Record}
use Rattle.moka_records.specs.Time.{moment_of}
use Rattle.moka_records.specs.Records.{is_applied}
use Rattle.moka_store.specs.Store.{Kept}
use Rattle.moka_maintenance.specs.Steps.{AddsNoPlace, LeavesNoRow}
use Rattle.moka_maintenance.specs.Timers.{HasNoneDue, KeepsTimers}

module _ {K V S : Type 0} where
  -- timers stand as before or at their records' expiries, no number gains a row or keeps one that its record has left,
  -- and no room is lost
  pub record Upkeep (old new : Kept K V S) : Type 0 where
    pub timers : KeepsTimers old new
    pub places : AddsNoPlace old new
    pub rows : LeavesNoRow old new
    pub room : old.room ≤ new.room

  -- and no timer is new
  pub record SetsNoTimer (old new : Kept K V S) : Type 0 where
    pub keeps : Upkeep old new
    pub fewer : (n t : ℕ) → get new.timers n ≡ Some t → get old.timers n ≡ Some t

  -- and no timer is due at the moment
  pub record UpkeepAt (now : ℕ) (old new : Kept K V S) : Type 0 where
    pub upkeep : Upkeep old new
    pub none : HasNoneDue now new

  -- the timer of a number that had none is set again behind the moment, or there is still none; then no settled record
  -- of the number has a moment at which it expires
  pub record IsReset (now n : ℕ) (old new : Kept K V S) : Type 0 where
    pub upkeep : Upkeep old new
    pub timers : (new.timers ≡ old.timers) ⊎ ((t : ℕ) × (now < t) × (new.timers ≡ insert old.timers n t))
    pub own : old.timed ≡ true → (r : Record K V) → get new.records n ≡ Some r → is_applied r ≡ true →
        get new.timers n ≡ moment_of r.expires
