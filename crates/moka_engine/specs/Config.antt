-- What a cache is to be made with, and the cache that this makes.
use Rattle.std.specs.Prelude.{ℕ, Bool, false, List, Option, Some, None, is_some}
use Rattle.moka_types.specs.declared.policy.EvictionPolicy.{EvictionPolicy}
use Rattle.moka_types.specs.declared.policy.EvictionPolicy.TheVariants.{TinyLfu}
use Rattle.moka_parts.specs.Runs.{Engine}
use Rattle.moka_parts.specs.State.{Settings}
use Rattle.moka_engine.specs.BaseCache.{empty_engine}

-- what was chosen; durations are in nanoseconds, the name is in bytes
pub record Config (X L W : Type 0) : Type 0 where
  pub name : Option (List ℕ)
  pub max_capacity : Option ℕ
  pub initial_capacity : Option ℕ
  pub policy : EvictionPolicy
  pub time_to_live : Option ℕ
  pub time_to_idle : Option ℕ
  pub expiry : Option X
  pub weigher : Option W
  pub listener : Option L
  -- predicates are supported
  pub invalidator : Bool
  -- what the housekeeper gives to its runs
  pub run_limit : ℕ
  pub run_repeats : ℕ
  pub run_batch : ℕ
  pub first_ticket : ℕ

module _ {X L W : Type 0} where
  -- nothing was chosen
  abbrev pub default_config : Config X L W
  default_config = record {
    name = None;
    max_capacity = None;
    initial_capacity = None;
    policy = TinyLfu;
    time_to_live = None;
    time_to_idle = None;
    expiry = None;
    weigher = None;
    listener = None;
    invalidator = false;
    run_limit = 100_000_000;
    run_repeats = 4;
    run_batch = 384;
    first_ticket = 1;
  }

  -- the same with these in place of its own
  abbrev pub with_these : {Y M U : Type 0} → Config X L W → Option Y → Option U → Option M → Config Y M U
  with_these c expiry weigher listener = record {
    name = c.name;
    max_capacity = c.max_capacity;
    initial_capacity = c.initial_capacity;
    policy = c.policy;
    time_to_live = c.time_to_live;
    time_to_idle = c.time_to_idle;
    expiry = expiry;
    weigher = weigher;
    listener = listener;
    invalidator = c.invalidator;
    run_limit = c.run_limit;
    run_repeats = c.run_repeats;
    run_batch = c.run_batch;
    first_ticket = c.first_ticket;
  }

  -- the same with this expiry
  abbrev pub with_expiry : {Y : Type 0} → Config X L W → Y → Config Y L W
  with_expiry c expiry = with_these c (Some expiry) c.weigher c.listener

  -- the same with this weigher
  abbrev pub with_weigher : {U : Type 0} → Config X L W → U → Config X L U
  with_weigher c weigher = with_these c c.expiry (Some weigher) c.listener

  -- the same with this listener
  abbrev pub with_listener : {M : Type 0} → Config X L W → M → Config X M W
  with_listener c listener = with_these c c.expiry c.weigher (Some listener)

  -- what of it never changes
  abbrev pub chosen_settings : Config X L W → Settings X W
  chosen_settings c = record {
    policy = c.policy;
    time_to_live = c.time_to_live;
    time_to_idle = c.time_to_idle;
    expiry = c.expiry;
    weigher = c.weigher;
    listening = is_some c.listener;
    invalidator = c.invalidator;
    run_limit = c.run_limit;
    run_repeats = c.run_repeats;
    run_batch = c.run_batch;
  }

  -- the empty cache, made with this hasher at now, with this room
  abbrev pub new_engine : {K V S P : Type 0} → Config X L W → S → (now room : ℕ) → Engine K V S X L P W
  new_engine c hasher now room =
      empty_engine c.name hasher (chosen_settings c) c.max_capacity now c.first_ticket c.listener room
