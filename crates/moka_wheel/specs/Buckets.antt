-- What is true of the lists of a wheel. No public clause cites this module.
use Rattle.std.specs.Prelude.{◌≡◌, ◌≢◌, ℕ, ◌/◌, ◌%◌, ◌<◌, ◌≤◌, List, length, Some, None}
use Rattle.moka_wheel.specs.TimerWheel.{Timer}
use Rattle.moka_wheel.specs.declared.buckets.Buckets.{Buckets}
use Rattle.moka_wheel.specs.Nodes.{Node, at, befores, behinds, buckets, moments, Links, timer_at}
use Rattle.moka_wheel.specs.Levels.{part, FallsIn, IsAhead, bit_of}

-- a timer stands in the slot
pub record IsTimer (ns : List Node) (i : ℕ) : Type 0 where
  pub past : 2049 ≤ i
  pub within : i < length ns
  pub held : buckets ns i < 2049

-- each timer stands in the list where its moment belongs, and each bucket in use is marked.
-- A marked bucket is ahead of the wheel's moment; only one that was just reached is at it.
pub record IsFiled (ns : List Node) (words : List ℕ) (moment reached : ℕ) : Type 0 where
  pub rank : ℕ → ℕ
  pub links : Links (length ns) (behinds ns) (befores ns) (buckets ns) rank
  pub due : (i : ℕ) → IsTimer ns i → buckets ns i ≡ 2048 → moments ns i ≤ moment
  pub marked : (i : ℕ) → IsTimer ns i → buckets ns i < 2048 → bit_of words (buckets ns i) ≡ 1
  pub near : (i : ℕ) → IsTimer ns i → buckets ns i < 2048 → FallsIn moment (moments ns i) (buckets ns i)
  pub ahead : (k : ℕ) → k < 2048 → k ≢ reached → bit_of words k ≡ 1 → IsAhead moment k
  pub here : reached < 2048 → part moment (reached / 256) % 256 ≡ reached % 256

-- the same of a wheel's buckets, of which one may have been reached; 2048 stands for none
abbrev pub AreBuckets : Buckets → ℕ → Type 0
AreBuckets b reached = IsFiled b.nodes.items b.occupied b.moment reached

-- each timer keeps its slot, its number and its moment, and each free node stays as it is
pub record Keeps (old new : List Node) : Type 0 where
  pub size : length new ≡ length old
  pub timers : (i : ℕ) → timer_at new i ≡ timer_at old i
  pub free : (i : ℕ) → 2049 ≤ buckets old i → at new i ≡ at old i

-- a timer comes into the slot; the other timers and free nodes stay as they are
pub record Puts (old new : List Node) (slot : ℕ) (timer : Timer) : Type 0 where
  pub here : timer_at new slot ≡ Some timer
  pub others : (i : ℕ) → i ≢ slot → timer_at new i ≡ timer_at old i
  pub free : (i : ℕ) → i ≢ slot → 2049 ≤ buckets old i → at new i ≡ at old i

-- the timer in the slot is taken out, and its node leads to the next free one; the other timers and free nodes stay as
-- they are
pub record Takes (old new : List Node) (slot next : ℕ) : Type 0 where
  pub here : timer_at new slot ≡ None
  pub unused : 2049 ≤ buckets new slot
  pub leads : behinds new slot ≡ next
  pub others : (i : ℕ) → i ≢ slot → timer_at new i ≡ timer_at old i
  pub free : (i : ℕ) → 2049 ≤ buckets old i → i ≢ slot → at new i ≡ at old i
