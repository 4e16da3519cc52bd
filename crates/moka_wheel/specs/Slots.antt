-- Timers in slots as a map.
use Rattle.std.specs.Prelude.{ℕ, zero, suc, List, [], ◌∷◌, Option, Some, None}
use Rattle.std.specs.FinMap.{FinMap, from_entries}
use Rattle.std.specs.Ordering.{nat_cmp}
use Rattle.moka_wheel.specs.TimerWheel.{Timer}

-- the entry of a slot comes first, if a timer is there
abbrev pub entry : ℕ → Option Timer → List (ℕ × Timer) → List (ℕ × Timer)
entry i None es = es
entry i (Some t) es = (i, t) ∷ es

-- the timers of n slots from slot i on
abbrev pub entries_of : (ℕ → Option Timer) → ℕ → ℕ → List (ℕ × Timer)
entries_of timer i zero = []
entries_of timer i (suc n) = entry i (timer i) (entries_of timer (suc i) n)

-- the timers of the first n slots
abbrev pub map_of : (ℕ → Option Timer) → ℕ → FinMap nat_cmp Timer
map_of timer n = from_entries (entries_of timer 0 n)
