-- What always holds of a cache, and how its parts make the state that contracts see.
use Rattle.std.specs.Prelude.{◌≡◌, ℕ, Bool, true, false, List, [], Option, None, is_some}
use Rattle.moka_types.specs.declared.policy.EvictionPolicy.{EvictionPolicy}
use Rattle.moka_records.specs.declared.instant.Instant.{Instant}
use Rattle.moka_parts.specs.declared.records.Registered.{Registered}
use Rattle.moka_parts.specs.Housekeeper.{Keeper}
use Rattle.moka_types.specs.Policy.{Expirations}
use Rattle.moka_parts.specs.Settling.{IsValid, NeverRenews}
use Rattle.moka_parts.specs.Runs.{Engine}
use Rattle.moka_parts.specs.State.{State, Settings, keeps_write_list, new_state}
use Rattle.moka_store.specs.Store.{Kept}
use Rattle.moka_maintenance.specs.Timers.{AreTimed}
use Rattle.moka_inner.specs.Interior.{Interior}
use Rattle.moka_lookups.specs.Expirations.{NoneExpires}

-- what never changes
abbrev pub settings_of : {X W : Type 0} → EvictionPolicy → Expirations X → Option W → Bool → Keeper → Settings X W
settings_of policy expirations weigher invalidator keeper = record {
  policy = policy;
  time_to_live = expirations.time_to_live;
  time_to_idle = expirations.time_to_idle;
  expiry = expirations.expiry;
  weigher = weigher;
  listening = keeper.listening;
  invalidator = invalidator;
  run_limit = keeper.run_limit;
  run_repeats = keeper.run_repeats;
  run_batch = keeper.run_batch;
}

-- the state of the reference cache
abbrev pub state_of : {K V X P W S : Type 0} → Interior K V S → Option Instant → List (Registered P) →
    (count weight : ℕ) → Keeper → Option ℕ → Settings X W → State K V X P W
state_of i invalid_before predicates count weight keeper capacity settings = record {
  records = i.kept.records;
  outstanding = i.outstanding;
  writes = i.writes;
  reads = i.reads;
  access = i.kept.access;
  invalid_before = invalid_before;
  predicates = predicates;
  sketch = i.sketch;
  next_ticket = i.next_ticket;
  next_number = i.next_number;
  count = count;
  weight = weight;
  housekeeping = keeper.housekeeping;
  capacity = capacity;
  settings = settings;
}

-- a cache without records
abbrev pub empty_engine : {K V S X L P W : Type 0} → Option (List ℕ) → S → Settings X W → Option ℕ →
    (now first_ticket : ℕ) → Option L
    → (room : ℕ) → Engine K V S X L P W
empty_engine name hasher settings capacity now first_ticket listener room = record {
  name = name;
  hasher = hasher;
  state = new_state settings capacity now first_ticket;
  listener = listener;
  write_list = [];
  passes = 0;
  room = room;
}

-- if predicates are not supported none is registered, and without an expiry no record has one of its own
pub record IsServed {K V X P W : Type 0} (s : State K V X P W) : Type 0 where
  pub unsupported : s.settings.invalidator ≡ false → s.predicates ≡ []
  pub unexpiring : s.settings.expiry ≡ None → NoneExpires s.records

-- the store keeps the order of writing and timers if the settings ask for them; if no hit renews an expiry, the
-- timer of each settled member stands at its record's
pub record IsStocked {K V X W S : Type 0} (read : X → K → V → ℕ → Option ℕ → ℕ → Option ℕ) (settings : Settings X W)
    (kept : Kept K V S) : Type 0 where
  pub ordered : kept.ordered ≡ keeps_write_list settings
  pub timed : kept.timed ≡ is_some settings.expiry
  pub timers : NeverRenews read settings.expiry → kept.timed ≡ true → AreTimed kept

-- the state is a valid one, and the settings listen exactly if a listener is set
pub record IsCache {K V X L P W : Type 0} (eq : K → K → Bool) (listener : Option L) (s : State K V X P W) : Type 0 where
  pub valid : IsValid eq s
  pub served : IsServed s
  pub listens : s.settings.listening ≡ is_some listener

-- the cache and its store
pub record IsEngine {K V X L P W S : Type 0} (eq : K → K → Bool) (read : X → K → V → ℕ → Option ℕ → ℕ → Option ℕ)
    (listener : Option L) (kept : Kept K V S) (s : State K V X P W) : Type 0 where
  pub cache : IsCache eq listener s
  pub store : IsStocked read s.settings kept
