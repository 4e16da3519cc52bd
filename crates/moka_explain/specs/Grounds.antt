-- On which ground a run takes out what leaves to make room.
use Rattle.std.specs.Prelude.{◌≡◌, ℕ, Bool, true, false, List, [], ◌∷◌, ◌++◌, Option, Contains, ◌⊎◌, if◌then◌else◌}
use Rattle.moka_types.specs.declared.policy.EvictionPolicy.{EvictionPolicy}
use Rattle.moka_types.specs.declared.policy.EvictionPolicy.TheVariants.{TinyLfu}
use Rattle.moka_records.specs.declared.records.Operation.{Operation}
use Rattle.moka_records.specs.declared.records.Record.{Record}
use Rattle.moka_records.specs.declared.records.Ticketed.{Ticketed}
use Rattle.moka_parts.specs.Maintenance.{Freedom, after_queued_reads, before_steps, left_by_choices}
use Rattle.moka_parts.specs.Notices.{Notice}
use Rattle.moka_records.specs.Records.{has_room, is_applied}
use Rattle.moka_parts.specs.State.{State, Contents}
use Rattle.moka_parts.specs.Writes.{Fate, TooHeavy, Preferred, Refused, fate, after_write, left_by_write, leaves_for_size}

-- ---- by which fates a write takes something out

-- the write is admitted in place of others
abbrev pub evicts : Fate → Bool
evicts (Preferred victims) = true
evicts f = false

-- the write alone is heavier than the capacity
abbrev pub is_heavy : Fate → Bool
is_heavy TooHeavy = true
is_heavy f = false

-- the write is not admitted
abbrev pub is_refused : Fate → Bool
is_refused Refused = true
is_refused f = false

module _ {K V : Type 0} (by : Fate → Bool) (capacity : Option ℕ) (policy : EvictionPolicy) where
  -- what a write takes out by such a fate
  abbrev pub taken_by_write : Contents K V → Operation → List (Notice K V)
  taken_by_write c o = if by (fate capacity policy c o) then left_by_write capacity policy c o else []

  -- what all writes take out by such a fate, with a list of moves for each
  abbrev pub taken_by_writes : Contents K V → List Ticketed → List (List ℕ) → List (Notice K V)
  taken_by_writes c [] ms = []
  taken_by_writes c (h ∷ hs) [] =
      taken_by_write c h.operation ++ taken_by_writes (after_write capacity policy c h.operation []) hs []
  taken_by_writes c (h ∷ hs) (moved ∷ ms) =
      taken_by_write c h.operation ++ taken_by_writes (after_write capacity policy c h.operation moved) hs ms

-- ---- in a run

module _ {K V X P W : Type 0} (s : State K V X P W) (ch : Freedom) where
  -- what the run's writes take out by such a fate
  abbrev pub taken_in_run : (Fate → Bool) → List (Notice K V)
  taken_in_run by = taken_by_writes by s.capacity s.settings.policy (after_queued_reads s) s.writes ch.moves

  -- what it evicts: for writes that are admitted in its place, and what its steps take out
  abbrev pub evicted_in_run : List (Notice K V)
  evicted_in_run = taken_in_run evicts ++ left_by_choices (before_steps s ch) ch.steps

  -- its last write was not applied before the run
  abbrev pub IsNew : Record K V → Type 0
  IsNew r = is_applied r ≡ false

  -- its own write alone was heavier than the capacity
  abbrev pub IsTooHeavy : Record K V → Type 0
  IsTooHeavy r = IsNew r × (has_room s.capacity 0 r.weight ≡ false)
      × Contains (taken_in_run is_heavy) (leaves_for_size r)

  -- TinyLFU did not admit its own write
  abbrev pub IsNotAdmitted : Record K V → Type 0
  IsNotAdmitted r = IsNew r × (has_room s.capacity 0 r.weight ≡ true) × (s.settings.policy ≡ TinyLfu)
      × Contains (taken_in_run is_refused) (leaves_for_size r)

  -- the ground on which it leaves to make room
  abbrev pub HasGroundForRoom : Record K V → Type 0
  HasGroundForRoom r = Contains evicted_in_run (leaves_for_size r) ⊎ (IsTooHeavy r ⊎ IsNotAdmitted r)
