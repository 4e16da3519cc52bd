-- Sweeps along the orders of writing and of access, and timers that are due.
use Rattle.std.specs.Prelude.{◌≡◌, ℕ, ◌+◌, ◌*◌, Bool, true, false, ◌&&◌, ◌||◌, ◌≤◌, ◌⊎◌, List, length, Option, Some, is_some, option_map, slice_get}
use Rattle.std.specs.Duration.{as_nanos}
use Rattle.moka_parts.specs.declared.notification.RemovalCause.{RemovalCause}
use Rattle.moka_records.specs.declared.records.Member.{Member}
use Rattle.moka_records.specs.declared.records.Record.{Record}
use Rattle.moka_parts.specs.Exact.{IsWithin}
use Rattle.moka_parts.specs.Order.{IsAtRestByWrite}
use Rattle.moka_records.specs.Records.{is_settled}
use Rattle.moka_parts.specs.Maintenance as parts
use Rattle.moka_parts.specs.Maintenance.{Choice, Removes, MovesToBack, Drops, left_by_choice, is_front, is_over}
use Rattle.moka_parts.specs.Bounds.{removed_by}
use Rattle.moka_parts.specs.Grounds.{Ground, ByTimer, ByWrite, ByRead, BySurplus, IsAtRestByRead, LeavesBy, MayTake}
use Rattle.moka_maintenance.specs.declared.sweep.Tests.{Tests}
use Rattle.moka_maintenance.specs.declared.sweep.Sweep.{Sweep}
use Rattle.moka_maintenance.specs.declared.sweep.Sweep.TheVariants.{Written, Read, Surplus}
use Rattle.moka_maintenance.specs.declared.sweep.Turn.{Turn}
use Rattle.moka_maintenance.specs.declared.sweep.Turn.TheVariants.{Removed, Passed, Ended}
use Rattle.moka_maintenance.specs.Steps.{Stock, MayLeave, HasUnsettled, HasNoSettled, IsStepped, Told, after_step}

-- the reference cache's tests of these
abbrev pub tests_in : Tests → parts.Tests
tests_in q = record {
  now = q.now.0;
  time_to_live = option_map as_nanos q.time_to_live;
  time_to_idle = option_map as_nanos q.time_to_idle;
  invalid_before = q.valid_after;
  capacity = q.capacity;
}

-- the ground on which the sweep removes records
abbrev pub ground_of : Sweep → Ground
ground_of Written = ByWrite
ground_of Read = ByRead
ground_of Surplus = BySurplus

-- a sweep by the last write is made
abbrev pub sweeps_writes : Tests → Bool
sweeps_writes q = is_some q.time_to_live || is_some q.time_to_idle || is_some q.valid_after

-- a sweep by the last read is made
abbrev pub sweeps_reads : Tests → Bool
sweeps_reads q = is_some q.time_to_idle || is_some q.valid_after

-- the sweep is made
abbrev pub is_taken : Tests → Sweep → List Member → Bool
is_taken q Written access = sweeps_writes q
is_taken q Read access = sweeps_reads q
is_taken q Surplus access = is_over q.capacity access

module _ {K V : Type 0} (q : Tests) where
  -- the number is that of the front to which the sweep has come
  abbrev pub IsNext : Sweep → Stock K V → ℕ → Type 0
  IsNext Written c n = slice_get c.written 0 ≡ Some n
  IsNext Read c n = is_front n c.contents.access ≡ true
  IsNext Surplus c n = (is_front n c.contents.access && is_over q.capacity c.contents.access) ≡ true

  -- the front is none that the sweep removes
  abbrev pub IsAtRest : Sweep → Stock K V → Type 0
  IsAtRest Written c = IsAtRestByWrite (tests_in q) c.contents.records c.written
  IsAtRest Read c = IsAtRestByRead (tests_in q) c.contents
  IsAtRest Surplus c = IsWithin q.capacity c.contents.access

  -- the front to which the sweep has come, if there is one, is settled
  abbrev pub HasSettledNext : Sweep → Stock K V → Type 0
  HasSettledNext sweep c = (n : ℕ) → IsNext sweep c n → is_settled c.contents.records n ≡ true

  -- the front is none that the sweep removes, and none that it would pass over if it is made
  abbrev pub HasStopped : Sweep → Stock K V → Type 0
  HasStopped sweep c = IsAtRest sweep c × (is_taken q sweep c.contents.access ≡ true → HasSettledNext sweep c)

  -- the sweep removes the record, to which it has come, and tells this cause
  abbrev pub LeavesIn : Sweep → Stock K V → ℕ → Record K V → RemovalCause → Type 0
  LeavesIn sweep c n r cause = LeavesBy (λ _. ⊥) (tests_in q) (ground_of sweep) c.contents n r cause

  -- the step may be a turn of the sweep
  abbrev pub MayTurn : Sweep → Stock K V → Choice → Type 0
  MayTurn sweep c (Removes n cause) = IsNext sweep c n
      × MayTake (λ _. ⊥) (tests_in q) (ground_of sweep) c.contents (Removes n cause)
  MayTurn sweep c (MovesToBack n) = IsNext sweep c n × MayLeave c (MovesToBack n)
  MayTurn sweep c (Drops i) = ⊥

  -- the step removes a settled member whose own expiry has come
  abbrev pub MayExpire : Stock K V → Choice → Type 0
  MayExpire c x = MayTake (λ _. ⊥) (tests_in q) ByTimer c.contents x

  -- so many turns are all of the batch, but for whole rounds over members none of which is settled
  abbrev pub AreAllTurns : ℕ → ℕ → Stock K V → Type 0
  AreAllTurns batch turns c = (rounds : ℕ) × (turns + rounds * length c.contents.access ≡ batch)
      × ((rounds ≡ 0) ⊎ HasNoSettled c)

  -- the sweep has stopped, or no member is settled, or all turns of the batch were made
  abbrev pub IsDone : Sweep → ℕ → ℕ → Stock K V → Type 0
  IsDone sweep batch turns c = HasStopped sweep c ⊎ (HasNoSettled c ⊎ (batch ≤ turns))

module _ {K V L : Type 0} (tells : L → K → V → RemovalCause → L → Type 0) (q : Tests) where
  -- one turn of a sweep
  abbrev pub TakesTurn : Sweep → Stock K V → Stock K V → Option L → Option L → Turn → Type 0
  TakesTurn sweep before after l m Removed = (n : ℕ) × (cause : RemovalCause) × MayTurn q sweep before (Removes n cause)
      × (after ≡ after_step before (Removes n cause))
      × Told tells l (left_by_choice before.contents (Removes n cause)) m
  TakesTurn sweep before after l m Passed = (n : ℕ) × MayTurn q sweep before (MovesToBack n)
      × (after ≡ after_step before (MovesToBack n)) × (m ≡ l)
  TakesTurn sweep before after l m Ended = IsAtRest q sweep before × HasSettledNext q sweep before × (after ≡ before)
      × (m ≡ l)

  -- a sweep of so many turns: what it removed, and whether it left more
  pub record IsSwept (sweep : Sweep) (batch : ℕ) (before after : Stock K V) (l m : Option L) (removed : ℕ)
      (left : Bool) : Type 0 where
    pub by : IsStepped tells (MayTurn q sweep) before after l m
    pub few : length by.steps ≤ batch
    -- it makes all its turns, or stops
    pub turns : AreAllTurns q batch (length by.steps) after ⊎ HasStopped q sweep after
    pub count : removed ≡ length (removed_by by.steps)
    -- each of all its turns removed a record
    pub full : left ≡ true → removed ≡ batch
    pub more : removed ≡ batch → 1 ≤ batch → left ≡ true
    -- it came to rest, or met an unsettled member
    pub rest : left ≡ false → HasUnsettled after ⊎ IsAtRest q sweep after

  -- so many records left by their timers
  pub record ExpiresDue (before after : Stock K V) (l m : Option L) (removed : ℕ) : Type 0 where
    pub by : IsStepped tells (MayExpire q) before after l m
    pub count : removed ≡ length (removed_by by.steps)
