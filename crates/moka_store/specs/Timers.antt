-- What a contract sees of `Timers`. No public clause cites this module.
use Rattle.std.specs.Prelude.{ℕ, ◌+◌, ◌^◌, Bool, true, false, nat_eq, if◌then◌else◌, Option, Some, None, refl}
use Rattle.std.specs.Coded.{Coded, code_by, coded×, coded_ℕ, coded_bool}
use Rattle.std.specs.FinMap as finite
use Rattle.std.specs.FinMap.{FinMap, empty, get, len}
use Rattle.std.specs.Option.{option_map}
use Rattle.std.specs.Ordering.{nat_cmp}
use Rattle.moka_wheel.specs.TimerWheel.{Timer, timer_code}
use Rattle.moka_wheel.specs.TimerWheel as wheel

-- the timers by their slots, each with a place, how many fit with no memory, and whether timers are kept at all
pub record Timing : Type 0 where
  pub timers : FinMap nat_cmp Timer
  pub most : ℕ
  pub timed : Bool

-- it is stored as the tuple of its fields
abbrev pub timing_code : Coded Timing
timing_code =
    code_by
    (FinMap nat_cmp Timer × (ℕ × Bool))
    (coded× (finite.code coded_ℕ timer_code) (coded× coded_ℕ coded_bool))
    (λ t. (t.timers, (t.most, t.timed)))
    (λ p. record { timers = p.0; most = p.1.0; timed = p.1.1 })
    (λ _. refl)

-- what is seen of a wheel; without one there is room for all
abbrev pub timing_of : Option wheel.Timers → Timing
timing_of None = record { timers = empty; most = 2 ^ 64; timed = false }
timing_of (Some w) = record { timers = w.timers; most = len w.timers + w.room; timed = true }

-- it is this slot
abbrev pub is_slot : Option ℕ → ℕ → Bool
is_slot None other = false
is_slot (Some slot) other = nat_eq other slot

-- the timer of a place at a moment, if there is one
abbrev pub timer_for : ℕ → Option ℕ → Option Timer
timer_for place at = option_map (λ (t : ℕ). record { number = place; at = t }) at

-- what stands in a slot once the place, whose timer stood in one slot, has one in another
abbrev pub timer_after : FinMap nat_cmp Timer → Option ℕ → Option ℕ → ℕ → Option ℕ → ℕ → Option Timer
timer_after timers before slot place at other =
    if is_slot slot other then timer_for place at else (if is_slot before other then None else get timers other)
