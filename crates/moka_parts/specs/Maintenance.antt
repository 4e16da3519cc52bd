-- A maintenance run: the queues, the sketch, and any justified steps.
use Rattle.std.specs.Prelude.{◌≡◌, ℕ, Bool, true, false, ◌==◌, ◌&&◌, ◌||◌, not, ◌-◌, ◌/◌, nat_le, List, [], ◌∷◌, ◌++◌, length, option_map, option_to_list, Option, Some, None, ◌⊎◌, slice_get, remove, is_some, is_none, MatchBool, if◌then◌else◌}
use Rattle.std.specs.List.{list_any}
use Rattle.std.specs.FinMap as finite
use Rattle.moka_parts.specs.declared.notification.RemovalCause.{RemovalCause}
use Rattle.moka_parts.specs.declared.notification.RemovalCause.TheVariants.{Expired, Explicit, Replaced, Size}
use Rattle.moka_types.specs.declared.policy.EvictionPolicy.{EvictionPolicy}
use Rattle.moka_records.specs.declared.instant.Instant.{Instant}
use Rattle.moka_records.specs.declared.records.Record.{Record}
use Rattle.moka_parts.specs.declared.records.Registered.{Registered}
use Rattle.moka_records.specs.declared.records.Member.{Member}
use Rattle.moka_parts.specs.Notices.{Notice, when_listening}
use Rattle.moka_records.specs.Records.{is_member, without_member, to_back, total_weight, has_room, is_settled}
use Rattle.moka_parts.specs.State.{State, Settings, Contents, contents, with_contents, is_disabled}
use Rattle.moka_records.specs.Time.{has_passed, deadline}
use Rattle.moka_parts.specs.Visibility.{is_expired, is_written_before, is_read_before, Covers, SomeCovers}
use Rattle.moka_parts.specs.Frequency.{SketchTable, no_counts, size_asked, table_length_for}
use Rattle.moka_parts.specs.Reads.{after_reads}
use Rattle.moka_parts.specs.Writes.{after_writes, left_by_writes, AreAllMoves, is_tiny_lfu}

-- one free step of a run
pub data Choice : Type 0 where
  -- the record of this number leaves, for this cause
  Removes : ℕ → RemovalCause → Choice
  -- the member of this number goes to the back
  MovesToBack : ℕ → Choice
  -- the predicate at this place leaves
  Drops : ℕ → Choice

-- all that is left free in a run
pub record Freedom : Type 0 where
  -- the members that each write moves to the back
  pub moves : List (List ℕ)
  -- memory for a longer table of the sketch was refused
  pub is_short : Bool
  pub steps : List Choice

-- the number is that of the front
abbrev pub is_front : ℕ → List Member → Bool
is_front n [] = false
is_front n (a ∷ members) = a.number == n

module _ {K V : Type 0} where
  -- the contents after one step: a removed record leaves map and access list
  abbrev pub after_choice : Contents K V → Choice → Contents K V
  after_choice c (Removes n cause) =
      record c { records = finite.remove c.records n; access = without_member n c.access }
  after_choice c (MovesToBack n) = record c { access = to_back n c.access }
  after_choice c (Drops i) = c

  -- the contents after the steps
  abbrev pub after_choices : Contents K V → List Choice → Contents K V
  after_choices c [] = c
  after_choices c (x ∷ xs) = after_choices (after_choice c x) xs

  -- what a step takes out of the map
  abbrev pub left_by_choice : Contents K V → Choice → List (Notice K V)
  left_by_choice c (Removes n cause) =
      option_to_list (option_map (λ (r : Record K V). (r.key, r.value, cause)) (finite.get c.records n))
  left_by_choice c (MovesToBack n) = []
  left_by_choice c (Drops i) = []

  -- what the steps take out of the map, in order
  abbrev pub left_by_choices : Contents K V → List Choice → List (Notice K V)
  left_by_choices c [] = []
  left_by_choices c (x ∷ xs) = left_by_choice c x ++ left_by_choices (after_choice c x) xs

module _ {P : Type 0} where
  -- the predicates that a step leaves registered
  abbrev pub kept_by_choice : List (Registered P) → Choice → List (Registered P)
  kept_by_choice ps (Removes n cause) = ps
  kept_by_choice ps (MovesToBack n) = ps
  kept_by_choice ps (Drops i) = remove ps i

  -- the predicates that the steps leave registered
  abbrev pub kept_by_choices : List (Registered P) → List Choice → List (Registered P)
  kept_by_choices ps [] = ps
  kept_by_choices ps (x ∷ xs) = kept_by_choices (kept_by_choice ps x) xs

-- the capacity, if there is one, is exceeded
abbrev pub is_over : Option ℕ → List Member → Bool
is_over capacity members = not (has_room capacity (total_weight members) 0)

-- the sketch is to be enabled: the policy is TinyLFU, the sketch is off, and at least half of a capacity other than 0
-- is taken
abbrev pub is_sketch_due : Option ℕ → EvictionPolicy → Option SketchTable → ℕ → Bool
is_sketch_due None policy sketch total = false
is_sketch_due (Some capacity) policy sketch total =
    is_tiny_lfu policy && is_none sketch && not (capacity == 0) && nat_le (capacity / 2) total

-- the length of its table: 128 if a longer one was refused
abbrev pub length_of_new_table : Bool → Option ℕ → Bool → List Member → ℕ
length_of_new_table true capacity has_weigher members = 128
length_of_new_table false None has_weigher members = 128
length_of_new_table false (Some capacity) has_weigher members =
    table_length_for (size_asked has_weigher capacity (length members) (total_weight members))

module _ {K V : Type 0} where
  -- the sketch is enabled if it is due
  abbrev pub with_sketch : Option ℕ → EvictionPolicy → Bool → Bool → Contents K V → Contents K V
  with_sketch capacity policy has_weigher is_short c = record c {
    sketch = if is_sketch_due capacity policy c.sketch (total_weight c.access)
        then Some (no_counts (length_of_new_table is_short capacity has_weigher c.access))
        else c.sketch;
  }

module _ {K V X P W : Type 0} (s : State K V X P W) where
  -- what a run has after the reads
  abbrev pub after_queued_reads : Contents K V
  after_queued_reads = after_reads (contents s) s.reads

  -- and after the writes
  abbrev pub after_queues : Freedom → Contents K V
  after_queues ch = after_writes s.capacity s.settings.policy after_queued_reads s.writes ch.moves

  -- and after the sketch
  abbrev pub before_steps : Freedom → Contents K V
  before_steps ch = with_sketch s.capacity s.settings.policy (is_some s.settings.weigher) ch.is_short (after_queues ch)

  -- and after the steps
  abbrev pub at_end : Freedom → Contents K V
  at_end ch = after_choices (before_steps ch) ch.steps

  -- the predicates that the run leaves registered
  abbrev pub predicates_at_end : Freedom → List (Registered P)
  predicates_at_end ch = kept_by_choices s.predicates ch.steps

  -- what leaves the map in the run, in order
  abbrev pub left_in_run : Freedom → List (Notice K V)
  left_in_run ch = left_by_writes s.capacity s.settings.policy after_queued_reads s.writes ch.moves
      ++ left_by_choices (before_steps ch) ch.steps

  -- the state after the run
  abbrev pub after_run : Freedom → State K V X P W
  after_run ch = with_contents s (at_end ch) (predicates_at_end ch)

-- what the steps of a run test records by: the moment, both times, the moment of the last invalidation of all, and the
-- capacity
pub record Tests : Type 0 where
  pub now : ℕ
  pub time_to_live : Option ℕ
  pub time_to_idle : Option ℕ
  pub invalid_before : Option Instant
  pub capacity : Option ℕ

-- those of a state at a moment
abbrev pub tests_of : {K V X P W : Type 0} → State K V X P W → ℕ → Tests
tests_of s now = record {
  now = now;
  time_to_live = s.settings.time_to_live;
  time_to_idle = s.settings.time_to_idle;
  invalid_before = s.invalid_before;
  capacity = s.capacity;
}

module _ {K V : Type 0} (q : Tests) where
  -- its time to live has passed
  abbrev pub is_past_write : Record K V → Bool
  is_past_write r = has_passed (deadline q.time_to_live r.written.0) q.now

  -- its time to idle has passed
  abbrev pub is_past_read : Record K V → Bool
  is_past_read r = has_passed (deadline q.time_to_idle r.read.0) q.now

  -- the cause fits the record by its moments, or by its place at the front of what exceeds the capacity
  abbrev pub HasGround : Contents K V → ℕ → Record K V → RemovalCause → Type 0
  HasGround c n r Expired = (is_expired r q.now || is_past_write r || is_past_read r) ≡ true
  HasGround c n r Explicit = ((is_written_before q.invalid_before r && not (is_past_write r))
      || (is_read_before q.invalid_before r && not (is_past_read r))) ≡ true
  HasGround c n r Size = (is_front n c.access && is_over q.capacity c.access) ≡ true
  HasGround c n r Replaced = ⊥

module _ {K V P : Type 0} (says : P → K → V → Bool → Type 0) where
  -- the predicate covers no record of the map
  abbrev pub CoversNothing : Contents K V → Registered P → Type 0
  CoversNothing c p = (n : ℕ) (r : Record K V) → finite.get c.records n ≡ Some r → Covers says p r → ⊥

module _ {K V P : Type 0} (says : P → K → V → Bool → Type 0) (q : Tests) where
  -- the cause fits a record that the run may take out: by a ground of its own, or since a predicate covers it
  abbrev pub HasCause : Contents K V → List (Registered P) → ℕ → Record K V → RemovalCause → Type 0
  HasCause c ps n r Expired = HasGround q c n r Expired
  HasCause c ps n r Explicit = HasGround q c n r Explicit ⊎ SomeCovers says ps r
  HasCause c ps n r Size = HasGround q c n r Size
  HasCause c ps n r Replaced = ⊥

  -- a step that a run may take: a settled member leaves for a cause that fits, an unsettled one goes to the back, or a
  -- predicate that covers nothing leaves
  abbrev pub IsJustified : Contents K V → List (Registered P) → Choice → Type 0
  IsJustified c ps (Removes n cause) = (r : Record K V) × (finite.get c.records n ≡ Some r)
      × (is_member n c.access && is_settled c.records n ≡ true) × HasCause c ps n r cause
  IsJustified c ps (MovesToBack n) = (is_member n c.access ≡ true) × (is_settled c.records n ≡ false)
  IsJustified c ps (Drops i) = (p : Registered P) × (slice_get ps i ≡ Some p) × CoversNothing says c p

  -- each step may be taken when it is
  abbrev pub AreJustified : Contents K V → List (Registered P) → List Choice → Type 0
  AreJustified c ps [] = Unit {0}
  AreJustified c ps (x ∷ xs) = IsJustified c ps x × AreJustified (after_choice c x) (kept_by_choice ps x) xs

module _ {K V X P W : Type 0} (says : P → K → V → Bool → Type 0) (s : State K V X P W) (now : ℕ) where
  -- a run may make these choices
  abbrev pub AreFree : Freedom → Type 0
  AreFree ch = AreAllMoves s.capacity s.settings.policy (after_queued_reads s) s.writes ch.moves
      × AreJustified says (tests_of s now) (before_steps s ch) s.predicates ch.steps

-- how a run went
pub record Course : Type 0 where
  -- whether more is left
  pub answer : Bool
  -- the clock's readings
  pub readings : List Instant
  -- how often the steps were gone through
  pub passes : ℕ

-- what a run is given
pub record Terms : Type 0 where
  -- the moment by which all is tested
  pub now : ℕ
  -- the time limit in nanoseconds
  pub limit : Option ℕ
  -- how much a step may do in one pass
  pub batch : ℕ

-- the run reads the clock
abbrev pub is_timed : {X W : Type 0} → Settings X W → Terms → Bool
is_timed settings terms = settings.listening && is_some terms.limit

-- a reading stands at least the limit past the first
abbrev pub is_late : Option ℕ → List Instant → Bool
is_late None readings = false
is_late (Some limit) [] = false
is_late (Some limit) (first ∷ later) = list_any (λ t. nat_le limit (t.0 - first.0)) later

-- the run ended early for its time limit
abbrev pub is_cut : {X W : Type 0} → Settings X W → Terms → Course → Bool
is_cut settings terms course = settings.listening && is_late terms.limit course.readings

-- a run on a disabled map does nothing
abbrev pub DoesNothing : {K V X P W : Type 0} → State K V X P W → Course → List (Notice K V) → State K V X P W → Type 0
DoesNothing s course notices t = (t ≡ s) × (notices ≡ [])
    × (course ≡ record { answer = false; readings = []; passes = 0 })

module _ {K V X P W : Type 0} (says : P → K → V → Bool → Type 0) where
  -- a run by these choices
  abbrev pub RunsBy : State K V X P W → Terms → Freedom → Course → List (Notice K V) → State K V X P W → Type 0
  RunsBy s terms ch course notices t = AreFree says s terms.now ch × (t ≡ after_run s ch)
      × (notices ≡ when_listening s.settings.listening (left_in_run s ch))

  -- a maintenance run, with a promise about its outcome and one about its choices
  abbrev pub RunsWith : (State K V X P W → Terms → Course → State K V X P W → Type 0) →
      (State K V X P W → Terms → Freedom → Course → Type 0) → State K V X P W → Terms → Course → List (Notice K V) →
      State K V X P W → Type 0
  RunsWith Outcome Detail s terms course notices t = MatchBool (is_disabled s.capacity) (DoesNothing s course notices t)
      ((ch : Freedom) × RunsBy s terms ch course notices t × Detail s terms ch course) × Outcome s terms course t

  -- a maintenance run, with no more promised
  abbrev pub MaintenanceRun : State K V X P W → Terms → Course → List (Notice K V) → State K V X P W → Type 0
  MaintenanceRun s terms course notices t =
      RunsWith (λ _ _ _ _. Unit {0}) (λ _ _ _ _. Unit {0}) s terms course notices t
