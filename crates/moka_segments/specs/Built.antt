-- The segments of a new cache.
use Rattle.std.specs.Prelude.{◌≡◌, ℕ, ◌<◌, ◌≤◌, List, length, Option, Some, None, slice_index_or, unwrap_or, ⊤}
use Rattle.moka_engine.specs.Config.{Config, new_engine}
use Rattle.moka_calls.specs.Synchronous.{Synchronous, fresh}
use Rattle.moka_router.specs.Routing.{Routing, share}
use Rattle.moka_segments.specs.Segmented.{Segmented}
use Rattle.moka_segments.specs.Whole.{whole_capacity}

-- a segment's configuration with its share of the capacity, if one is set
abbrev pub with_share : {X L W : Type 0} → ℕ → ℕ → Option ℕ → Config X L W → Config X L W
with_share count index None config = config
with_share count index (Some capacity) config = record config { max_capacity = Some (share count capacity index) }

-- the capacities sum to the one that was shared out, to the unit
abbrev pub SumsTo : {K V S X L P W : Type 0} → Option ℕ → List (Synchronous K V S X L P W) → Type 0
SumsTo None segments = ⊤
SumsTo (Some capacity) segments = whole_capacity segments ≡ Some capacity

-- segments that have the parts of a capacity have that capacity in all, to the unit
abbrev pub SharesSum : (K V S X L P W : Type 0) → Type 0
SharesSum K V S X L P W = (count whole : ℕ) (segments : List (Synchronous K V S X L P W)) → 0 < count
    → length segments ≡ count → ((index : ℕ) (d : Synchronous K V S X L P W) → index < length segments
    → (slice_index_or segments index d).engine.state.capacity ≡ Some (share count whole index))
    → SumsTo (Some whole) segments

-- a new segment with this configuration, room for its initial capacity, and a clone of the hasher
pub record IsSegment {K V S X L P W : Type 0} (routing : Routing S) (is_clone : S → S → Type 0) (now : ℕ)
    (config : Config X L W) (s : Synchronous K V S X L P W) : Type 0 where
  pub hasher : S
  pub cloned : is_clone routing.hasher hasher
  pub is : s ≡ fresh (new_engine config hasher now s.engine.room)
  pub room : unwrap_or config.initial_capacity 0 ≤ s.engine.room

module _ {K V S X L P W : Type 0} (routing : Routing S) (whole : Option ℕ) (is_clone : S → S → Type 0) (now : ℕ) where
  -- a new segment with this configuration but for the capacity
  abbrev pub IsBuilt : ℕ → Config X L W → Synchronous K V S X L P W → Type 0
  IsBuilt index config s = IsSegment routing is_clone now (with_share routing.count index whole config) s

  -- each is one, of a configuration that was made for its index
  abbrev pub AreBuilt : (ℕ → Config X L W → Type 0) → List (Synchronous K V S X L P W) → Type 0
  AreBuilt Made segments = (index : ℕ) (d : Synchronous K V S X L P W) → index < length segments
      → (config : Config X L W) × Made index config × IsBuilt index config (slice_index_or segments index d)

  -- a new cache of as many segments as the router knows
  pub record IsNew (Made : ℕ → Config X L W → Type 0) (c : Segmented K V S X L P W) : Type 0 where
    pub routing_is : c.routing ≡ routing
    pub as_many : length c.segments ≡ routing.count
    pub built : AreBuilt Made c.segments
    pub sums : SumsTo whole c.segments
