-- How the nodes of the wheel are linked. No public clause cites this module.
use Rattle.std.specs.Prelude.{◌≡◌, ℕ, ◌<◌, ◌≤◌, List, cond, nat_lt, length, Option, Some, None, slice_set}
use Rattle.std.specs.FinMap.{FinMap}
use Rattle.std.specs.Ordering.{nat_cmp}
use Rattle.moka_links.specs.declared.Node.{Node as Linked}
use Rattle.moka_links.specs.Links as links
use Rattle.moka_wheel.specs.declared.nodes.Entry.{Entry}
use Rattle.moka_wheel.specs.TimerWheel.{Timer}
use Rattle.moka_wheel.specs.Slots.{map_of}

-- an entry with its neighbours
abbrev pub Node : Type 0
Node = Linked Entry

-- what a node past the last one holds: nothing
abbrev pub nothing : Entry
nothing = record { number = 0; at = 0; bucket = 2049 }

-- what stands past the last node: a free one
abbrev pub blank : Node
blank = links.blank nothing

-- the node in a slot
abbrev pub at : List Node → ℕ → Node
at = links.at nothing

-- the slot before each slot
abbrev pub befores : List Node → ℕ → ℕ
befores = links.befores nothing

-- the slot behind each slot
abbrev pub behinds : List Node → ℕ → ℕ
behinds = links.behinds nothing

-- the bucket in which each slot stands
abbrev pub buckets : List Node → ℕ → ℕ
buckets ns i = (at ns i).value.bucket

-- the number in each slot
abbrev pub numbers : List Node → ℕ → ℕ
numbers ns i = (at ns i).value.number

-- the moment in each slot
abbrev pub moments : List Node → ℕ → ℕ
moments ns i = (at ns i).value.at

-- the node in a slot is given another bucket
abbrev pub with_bucket : List Node → ℕ → ℕ → List Node
with_bucket ns i to = slice_set ns i (record (at ns i) { value = record (at ns i).value { bucket = to } })

-- the node in the slot is taken out of its list
abbrev pub detached : List Node → ℕ → List Node
detached ns s = with_bucket (links.detached nothing ns s) s 2049

-- the node in the slot is put behind all others of a bucket
abbrev pub attached : List Node → ℕ → ℕ → List Node
attached ns s h = with_bucket (links.attached nothing ns s h) s h

-- one step along the links leads from i to j, and the opposite links lead back
pub record Hop (size : ℕ) (bucket opposite : ℕ → ℕ) (i j : ℕ) : Type 0 where
  pub within : j < size
  pub same : bucket j ≡ bucket i
  pub back : opposite j ≡ i

-- the lists: each head names itself, and the links of each node that is not free stay in its list.
-- The ranks rise along each list, so that no timer is out of reach from its head.
pub record Links (size : ℕ) (behind before bucket rank : ℕ → ℕ) : Type 0 where
  pub sized : 2049 ≤ size
  pub head : (i : ℕ) → i < 2049 → bucket i ≡ i
  pub on : (i : ℕ) → i < size → bucket i < 2049 → Hop size bucket before i (behind i)
  pub back : (i : ℕ) → i < size → bucket i < 2049 → Hop size bucket behind i (before i)
  pub rising : (i : ℕ) → 2049 ≤ i → i < size → bucket i < 2049 → rank (before i) < rank i

-- the timer that a node holds, if it is not free
abbrev pub held : Node → Option Timer
held n = cond (nat_lt n.value.bucket 2049) (Some (record { number = n.value.number; at = n.value.at })) None

-- the timer in a slot, if one is there
abbrev pub timer_at : List Node → ℕ → Option Timer
timer_at ns i = cond (nat_lt i 2049) None (held (at ns i))

-- the timers by their slots
abbrev pub timers_of : List Node → FinMap nat_cmp Timer
timers_of ns = map_of (timer_at ns) (length ns)
