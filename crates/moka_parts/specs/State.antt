-- The state of the reference cache.
use Rattle.std.specs.Prelude.{ℕ, Bool, false, ◌==◌, ◌||◌, List, [], length, min, Option, Some, None, is_some}
use Rattle.std.specs.FinMap.{empty}
use Rattle.uuid.specs.declared.Uuid.{Uuid}
use Rattle.moka_parts.specs.declared.notification.RemovalCause.{RemovalCause}
use Rattle.moka_types.specs.declared.policy.EvictionPolicy.{EvictionPolicy}
use Rattle.moka_records.specs.declared.instant.Instant.{Instant}
use Rattle.moka_records.specs.declared.records.Member.{Member}
use Rattle.moka_records.specs.declared.records.Ticketed.{Ticketed}
use Rattle.moka_records.specs.declared.records.ReadOperation.{ReadOperation}
use Rattle.moka_parts.specs.declared.records.Registered.{Registered}
use Rattle.moka_records.specs.Time.{greatest}
use Rattle.moka_types.specs.Policy.{Limits}
use Rattle.moka_records.specs.Records.{Records, Operations, total_weight}
use Rattle.moka_parts.specs.Notices.{Notice}
use Rattle.moka_parts.specs.Frequency.{SketchTable}
use Rattle.moka_parts.specs.Housekeeping.{Housekeeping, new_housekeeping}

-- what never changes; durations are in nanoseconds
pub record Settings (X W : Type 0) : Type 0 where
  pub policy : EvictionPolicy
  pub time_to_live : Option ℕ
  pub time_to_idle : Option ℕ
  pub expiry : Option X
  pub weigher : Option W
  -- a listener is set
  pub listening : Bool
  -- predicates are supported
  pub invalidator : Bool
  -- what the housekeeper gives to its runs
  pub run_limit : ℕ
  pub run_repeats : ℕ
  pub run_batch : ℕ

-- the whole state between two calls
pub record State (K V X P W : Type 0) : Type 0 where
  pub records : Records K V
  -- operations handed out and not sent
  pub outstanding : Operations
  -- operations sent and reads made, not yet applied
  pub writes : List Ticketed
  pub reads : List ReadOperation
  -- least recently used first
  pub access : List Member
  -- the moment of the last invalidation of all
  pub invalid_before : Option Instant
  pub predicates : List (Registered P)
  -- how often hashes were seen
  pub sketch : Option SketchTable
  pub next_ticket : ℕ
  pub next_number : ℕ
  -- the report of the last run
  pub count : ℕ
  pub weight : ℕ
  pub housekeeping : Housekeeping
  pub capacity : Option ℕ
  pub settings : Settings X W

-- the part of the state that applied operations and removals work on
pub record Contents (K V : Type 0) : Type 0 where
  pub records : Records K V
  pub access : List Member
  pub sketch : Option SketchTable

-- what keys, listener, predicates, weigher, clock, source of identifiers and expiry mean; an expiry's answers are in
-- nanoseconds
pub record Meaning (K V X L P W C I : Type 0) : Type 1 where
  pub eq : K → K → Bool
  pub tells : L → K → V → RemovalCause → L → Type 0
  pub says : P → K → V → Bool → Type 0
  pub weighs : W → K → V → ℕ → Type 0
  pub observes : C → Instant → C → Type 0
  pub gives : I → Uuid → I → Type 0
  pub created : X → K → V → ℕ → Option ℕ
  pub read : X → K → V → ℕ → Option ℕ → ℕ → Option ℕ
  pub updated : X → K → V → ℕ → Option ℕ → Option ℕ

module _ {K V X L P W C I : Type 0} (eq : K → K → Bool) (tells : L → K → V → RemovalCause → L → Type 0)
    (says : P → K → V → Bool → Type 0) (weighs : W → K → V → ℕ → Type 0)
    (observes : C → Instant → C → Type 0) (gives : I → Uuid → I → Type 0) (created : X → K → V → ℕ → Option ℕ)
    (read : X → K → V → ℕ → Option ℕ → ℕ → Option ℕ) (updated : X → K → V → ℕ → Option ℕ → Option ℕ) where
  -- how keys compare, and how listener, predicates, weigher, clock, source of identifiers and expiry answer
  abbrev pub meaning_of : Meaning K V X L P W C I
  meaning_of = record {
    eq = eq;
    tells = tells;
    says = says;
    weighs = weighs;
    observes = observes;
    gives = gives;
    created = created;
    read = read;
    updated = updated;
  }

-- the notices, readings of the clock and identifiers of a call, and the passes of the run in it, if one was made
pub record Events (K V : Type 0) : Type 0 where
  pub notices : List (Notice K V)
  pub readings : List Instant
  pub ids : List Uuid
  pub passes : Option ℕ

-- the capacity is set, and 0
abbrev pub is_disabled : Option ℕ → Bool
is_disabled None = false
is_disabled (Some capacity) = capacity == 0

-- a new cache, made at now
abbrev pub new_state : {K V X P W : Type 0} → Settings X W → Option ℕ → ℕ → ℕ → State K V X P W
new_state settings capacity now first_ticket = record {
  records = empty;
  outstanding = empty;
  writes = [];
  reads = [];
  access = [];
  invalid_before = None;
  predicates = [];
  sketch = None;
  next_ticket = first_ticket;
  next_number = 1;
  count = 0;
  weight = 0;
  housekeeping = new_housekeeping now;
  capacity = capacity;
  settings = settings;
}

-- records are also kept in the order of their writing
abbrev pub keeps_write_list : {X W : Type 0} → Settings X W → Bool
keeps_write_list settings = is_some settings.time_to_live || settings.invalidator

module _ {K V X P W : Type 0} where
  -- what the cache tells of its policy
  abbrev pub limits_of : State K V X P W → Limits
  limits_of s = record {
    max_capacity = s.capacity;
    time_to_live = s.settings.time_to_live;
    time_to_idle = s.settings.time_to_idle;
  }

  -- what a run begins with
  abbrev pub contents : State K V X P W → Contents K V
  contents s = record { records = s.records; access = s.access; sketch = s.sketch }

  -- the state at the end of a run with these contents and predicates: both queues are empty, and the report is made
  abbrev pub with_contents : State K V X P W → Contents K V → List (Registered P) → State K V X P W
  with_contents s c predicates = record s {
    records = c.records;
    access = c.access;
    sketch = c.sketch;
    predicates = predicates;
    writes = [];
    reads = [];
    count = length c.access;
    weight = min (total_weight c.access) greatest;
  }
