-- Passes of the steps that remove, and the clock between them.
use Rattle.std.specs.Prelude.{◌≡◌, ℕ, ◌+◌, ◌-◌, ◌*◌, ◌/◌, ◌<◌, nat_le, Bool, true, false, ◌||◌, ◌≤◌, ◌⊎◌, List, [], ◌++◌, length, take, Option, Some, None, is_some, if◌then◌else◌}
use Rattle.std.specs.List.{list_all}
use Rattle.moka_parts.specs.declared.notification.RemovalCause.{RemovalCause}
use Rattle.moka_records.specs.declared.instant.Instant.{Instant}
use Rattle.moka_parts.specs.declared.records.Registered.{Registered}
use Rattle.moka_parts.specs.Surroundings.{Leads}
use Rattle.moka_parts.specs.Exact.{IsWithin}
use Rattle.moka_parts.specs.Maintenance.{Choice, is_over, is_late}
use Rattle.moka_parts.specs.Visibility.{SomeCovers, NoneCovers}
use Rattle.moka_parts.specs.Bounds.{removed_by}
use Rattle.moka_parts.specs.Grounds.{FollowsGrounds, grounds_of, grounds_of_pass}
use Rattle.moka_maintenance.specs.declared.sweep.Tests.{Tests}
use Rattle.moka_maintenance.specs.declared.sweep.Sweep.{Sweep}
use Rattle.moka_maintenance.specs.declared.sweep.Sweep.TheVariants.{Written, Read, Surplus}
use Rattle.moka_maintenance.specs.Scan.{AreDropped}
use Rattle.moka_maintenance.specs.Steps.{Stock, MayRun, AreAllMembers, HasNoSettled, HasUnsettled, IsStepped, after_steps, makes_room}
use Rattle.moka_maintenance.specs.Sweep.{tests_in, sweeps_writes, IsAtRest, IsDone}

module _ {C : Type 0} (reads : C → Instant → C → Type 0) where
  -- the clock is read once if a limit is given
  abbrev pub Starts : Option ℕ → C → Option Instant → C → Type 0
  Starts None c started d = (started ≡ None) × (d ≡ c)
  Starts (Some limit) c started d = (r : Instant) × (started ≡ Some r) × reads c r d

  -- if it was read before, it is read again, and it is late if the limit has passed since then
  abbrev pub Checks : Option Instant → Option ℕ → C → Bool → C → Type 0
  Checks None limit c late d = (late ≡ false) × (d ≡ c)
  Checks (Some first) None c late d = (late ≡ false) × (d ≡ c)
  Checks (Some first) (Some limit) c late d = (r : Instant) × reads c r d × (late ≡ nat_le limit (r.0 - first.0))

-- after the first of these steps the sweep is done; a whole one came to rest or met an unsettled member
pub record HasSwept {K V : Type 0} (q : Tests) (sweep : Sweep) (batch : ℕ) (before : Stock K V) (steps : List Choice)
    (Whole : Type 0) : Type 0 where
  pub first : List Choice
  pub second : List Choice
  pub split : steps ≡ first ++ second
  pub done : IsDone q sweep batch (length first) (after_steps before first)
  pub rest : Whole → HasUnsettled (after_steps before first) ⊎ IsAtRest q sweep (after_steps before first)

module _ {K V L P : Type 0} (tells : L → K → V → RemovalCause → L → Type 0)
    (says : P → K → V → Bool → Type 0) (q : Tests) where
  -- one pass, from some predicates to others: what it removed beside the scan, and whether the sweeps and the scan left
  -- more; `OnTime` says that no settled member expires without a timer
  pub record IsPass (batch : ℕ) (ordered : Bool) (OnTime : Type 0) (ps qs : List (Registered P))
      (before after : Stock K V) (l m : Option L) (removed : ℕ) (left scan : Bool) : Type 0 where
    pub by : IsStepped tells (MayRun says ps (tests_in q)) before after l m
    pub dropped : AreDropped says after.contents ps qs
    -- timers, the sweep by the last write, the one by the last read, the scan and the sweep of the surplus, each with
    -- its own causes
    pub in_order : FollowsGrounds (SomeCovers says ps) (tests_in q) (NoneCovers says ps) OnTime ordered batch
        grounds_of_pass before.contents before.written by.steps
    pub count : removed ≤ length (removed_by by.steps)
    pub more : left ≡ true → 1 ≤ batch → 1 ≤ removed
    -- beside timers and the scan, each of its steps takes at most a batch of turns
    pub many : length by.steps + length after.contents.access
        ≤ batch + batch + batch + length before.contents.access
    -- if all its steps make room, it removed a batch if it left more, and else less than that
    pub counted : list_all makes_room by.steps ≡ true → removed ≡ length (removed_by by.steps)
    pub fewer : left ≡ false → 1 ≤ batch → list_all makes_room by.steps ≡ true → removed < batch
    pub batch_used : left ≡ true → 1 ≤ removed → list_all makes_room by.steps ≡ true → removed ≡ batch
    pub rest : left ≡ false → HasUnsettled after ⊎ IsWithin q.capacity after.contents.access
    -- unsettled members are passed over up to the last turn
    pub turned : left ≡ true → batch ≤ length by.steps
    pub used : IsDone q Surplus batch (length by.steps) after
    -- the sweep by the last write, and after more of the steps the one by the last read
    pub writes_swept : HasSwept q Written batch before by.steps (left ≡ false)
    pub reads_swept : HasSwept q Read batch before by.steps (left ≡ false)
    -- with a batch of 0 more is left wherever a sweep is made
    pub idle : batch ≡ 0 → left ≡ (sweeps_writes q || is_over q.capacity after.contents.access)
    -- without predicates, or with a batch of 0, the scan leaves nothing
    pub unregistered : ps ≡ [] → scan ≡ false
    pub scan_idle : batch ≡ 0 → scan ≡ false
    -- it leaves more only if a predicate is left, and wherever one is beside a settled member
    pub scan_more : scan ≡ true → 0 < length qs
    pub unfinished : ordered ≡ true → 1 ≤ batch → 0 < length qs → (scan ≡ true) ⊎ HasNoSettled after
    -- with a batch for all members, no predicate is left if each record is a settled one
    pub predicates : ordered ≡ true → length before.contents.access ≤ batch → AreAllMembers before → qs ≡ []

  module _ {C : Type 0} (reads : C → Instant → C → Type 0) (limit : Option ℕ) where
    -- passes one after the other, each but the last of which removed a record beside the scan and left more
    pub record IsRan (batch : ℕ) (ordered : Bool) (OnTime : Type 0) (ps qs : List (Registered P))
        (before after : Stock K V) (l m : Option L) (c d : C) (passes : ℕ) (left : Bool) : Type 0 where
      pub by : IsStepped tells (MayRun says ps (tests_in q)) before after l m
      pub dropped : AreDropped says after.contents ps qs
      -- the steps of each pass have their order and their causes; no predicate that is left covers what a scan spared
      pub in_order : FollowsGrounds (SomeCovers says ps) (tests_in q) (NoneCovers says qs) OnTime ordered batch
          (grounds_of passes) before.contents before.written by.steps
      pub made : 1 ≤ passes
      pub few : passes ≤ length (removed_by by.steps) + 1
      pub many : length by.steps + length after.contents.access
          ≤ passes * (batch + batch + batch) + length before.contents.access
      -- without predicates each pass but the last makes a batch of steps
      pub full : ps ≡ [] → (passes - 1) * batch ≤ length by.steps
      pub readings : List Instant
      pub read : Leads reads c readings d
      pub timed : is_some limit ≡ true → length readings ≡ passes + (if is_late limit readings then 1 else 0)
      pub untimed : is_some limit ≡ false → readings ≡ []
      -- no reading but the last is late
      pub ends : is_late limit (take (length readings - 1) readings) ≡ false
      -- a whole run leaves more only if a predicate is left, and wherever one is beside a settled member
      pub whole : is_late limit readings ≡ false → 1 ≤ batch → left ≡ true → 0 < length qs
      pub unfinished : ordered ≡ true → is_late limit readings ≡ false → 1 ≤ batch → 0 < length qs → (left ≡ true)
          ⊎ HasNoSettled after
      pub cut : is_late limit readings ≡ true → left ≡ true
      -- each pass of a run that was cut removed a record
      pub removing : is_late limit readings ≡ true → passes ≤ length (removed_by by.steps)
      pub rest : is_late limit readings ≡ false → 1 ≤ batch → HasUnsettled after
          ⊎ IsWithin q.capacity after.contents.access
      -- unsettled members are passed over up to the last turn of the last pass and, without predicates, of each
      pub used : IsDone q Surplus batch (length by.steps) after
          × (ps ≡ [] → IsDone q Surplus (passes * batch) (length by.steps) after)
      -- the last sweep by the last write came to rest in a whole run, and so did the last one by the last read
      pub writes_swept : HasSwept q Written batch before by.steps ((is_late limit readings ≡ false) × (1 ≤ batch))
      pub reads_swept : HasSwept q Read batch before by.steps ((is_late limit readings ≡ false) × (1 ≤ batch))
      -- without predicates, unsettled members are passed over up to the last turn of each pass
      pub writes_turned : ps ≡ [] → IsDone q Written (passes * batch) (length writes_swept.first)
          (after_steps before writes_swept.first)
      pub reads_turned : ps ≡ [] → IsDone q Read (passes * batch) (length reads_swept.first)
          (after_steps before reads_swept.first)
      -- with a batch of 0 more is left wherever a sweep is made
      pub idle : batch ≡ 0 → left ≡ (sweeps_writes q || is_over q.capacity after.contents.access)
      -- if all its steps make room, each pass but the last of a whole run removed a batch
      pub exact : is_late limit readings ≡ false → 1 ≤ batch → ps ≡ [] → list_all makes_room by.steps ≡ true →
          passes ≡ length (removed_by by.steps) / batch + 1
      -- one that was cut after its first pass, all of whose steps make room, removed a batch
      pub batch_used : is_late limit readings ≡ true → passes ≡ 1 → ps ≡ [] → list_all makes_room by.steps ≡ true →
          length (removed_by by.steps) ≡ batch
      -- with a batch for all members, no predicate is left if each record is a settled one
      pub predicates : ordered ≡ true → length before.contents.access ≤ batch → AreAllMembers before → qs ≡ []
