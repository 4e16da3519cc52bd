-- What a contract sees of a `TimerWheel`.
use Rattle.std.specs.Prelude.{ℕ, refl}
use Rattle.std.specs.FinMap.{FinMap}
use Rattle.std.specs.FinMap as map
use Rattle.std.specs.Ordering.{nat_cmp}
use Rattle.std.specs.Coded.{Coded, code_by, coded×, coded_ℕ}

-- what a timer is for, and when it is due
pub record Timer : Type 0 where
  pub number : ℕ
  pub at : ℕ

-- the timers by their slots, and how many more fit with no allocation
pub record Timers : Type 0 where
  pub timers : FinMap nat_cmp Timer
  pub room : ℕ

-- a timer is stored as the pair of its fields
abbrev pub timer_code : Coded Timer
timer_code = code_by (ℕ × ℕ) (coded× coded_ℕ coded_ℕ) (λ t. (t.number, t.at))
    (λ p. record { number = p.0; at = p.1 }) (λ _. refl)

-- timers are stored as the pair of their fields
abbrev pub timers_code : Coded Timers
timers_code = code_by (FinMap nat_cmp Timer × ℕ) (coded× (map.code coded_ℕ timer_code) coded_ℕ)
    (λ t. (t.timers, t.room)) (λ p. record { timers = p.0; room = p.1 }) (λ _. refl)
