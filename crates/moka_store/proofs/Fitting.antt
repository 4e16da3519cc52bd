-- How many rows fit where nodes, a list and timers have so much room.
use Rattle.std.proofs.Common.{◌≡◌, ℕ, ◌+◌, ◌<◌, ◌≤◌, ◌^◌, min, arith}

-- a node that enters takes room, and one that leaves gives it back
pub one_more_node : (nodes nodes' room room' : ℕ) → nodes' ≡ nodes + 1 → room' + 1 ≡ room → nodes' + room' ≡ nodes + room
one_more_node nodes nodes' room room' more less = omega arith

pub one_node_less : (nodes nodes' room room' : ℕ) → nodes' + 1 ≡ nodes → room' ≡ room + 1 → nodes' + room' ≡ nodes + room
one_node_less nodes nodes' room room' less more = omega arith

-- as many rows fit as before
pub still_fit : (rows rows' nodes nodes' room room' list list' timing timing' : ℕ) → rows' ≡ rows → nodes' + room' ≡ nodes + room → list' ≡ list → timing' ≡ timing → rows ≤ min (nodes + room) (min list timing) → rows' ≤ min (nodes' + room') (min list' timing')
still_fit rows rows' nodes nodes' room room' list list' timing timing' same sum listed timed fits = rw (same, sum, listed, timed) fits

-- one row less fits too
pub fewer_fit : (rows rows' nodes room list timing : ℕ) → rows' + 1 ≡ rows → rows ≤ min (nodes + room) (min list timing) → rows' ≤ min (nodes + room) (min list timing)
fewer_fit rows rows' nodes room list timing less fits = omega arith

-- each row has room for a timer
pub timed_fit : (rows nodes room list timing : ℕ) → rows ≤ min (nodes + room) (min list timing) → rows ≤ timing
timed_fit rows nodes room list timing fits = omega arith

-- where a row has no node there is room for one, and where it has none in a list there is room in that
pub node_fits : (rows nodes room list timing : ℕ) → nodes < rows → rows ≤ min (nodes + room) (min list timing) → 0 < room
node_fits rows nodes room list timing below fits = omega arith

pub listed_fits : (rows nodes room list timing listed : ℕ) → listed < rows → rows ≤ min (nodes + room) (min list timing) → listed < list
listed_fits rows nodes room list timing listed below fits = omega arith

-- as many members as have a node can be summed up
pub few_enough : (n : ℕ) → n < 2 ^ 32 → n < 2 ^ 64
few_enough n few = omega arith
