-- What is true of every wheel. No public clause cites this module.
use Rattle.std.specs.Prelude.{◌≡◌, ℕ, ◌+◌, ◌-◌, ◌<◌, ◌≤◌, List, length, min, vec_capacity}
use Rattle.std.specs.FinMap.{len}
use Rattle.moka_links.specs.Chains.{Frees, free_of}
use Rattle.moka_wheel.specs.declared.buckets.Buckets.{Buckets}
use Rattle.moka_wheel.specs.Nodes.{behinds, buckets, timers_of}
use Rattle.moka_wheel.specs.Buckets.{AreBuckets}

-- the timers stand where they belong and are counted, and each other node past the heads is free
pub record IsWheel (b : Buckets) (count free : ℕ) : Type 0 where
  pub placed : AreBuckets b 2048
  pub small : length b.nodes.items ≤ 4294967296
  pub counted : count ≡ len (timers_of b.nodes.items)
  pub frees : List ℕ
  pub chain : Frees (behinds b.nodes.items) (free_of frees) (length frees) free (length b.nodes.items)
  pub past : (j : ℕ) → j < length frees → 2049 ≤ free_of frees j
  pub unused : (j : ℕ) → j < length frees → 2049 ≤ buckets b.nodes.items (free_of frees j)
  pub total : count + length frees + 2049 ≡ length b.nodes.items

-- how many more timers fit: slots have 32 bits
abbrev pub room_of : Buckets → ℕ → ℕ
room_of b count = min (vec_capacity b.nodes) 4294967296 - 2049 - count
