use Rattle.std.proofs.Common.{Some, option_map, arith, sym, ap, ◌∙◌}
use Rattle.moka_wheel.specs.TimerWheel.{Timer}
use Rattle.moka_wheel.proofs.Maps.{takes-timers, take-lookup}
use Rattle.moka_wheel.proofs.Upkeep.{is-timer, timer-is, some-timer, release-wheel}
use Rattle.moka_wheel.proofs.timer_wheel.TimerWheel.deschedule.Goals as goal

pub release-number-requires-clause-timer : goal.release-number-requires-clause-timer
release-number-requires-clause-timer c = is-timer _ _ (rw (← c.self.view_is) at c.requires)

pub overflow_sub-self : goal.overflow_sub-self
overflow_sub-self c = some-timer c.self.invariant c.args.slot (is-timer _ _ (rw (← c.self.view_is) at c.requires))

pub invariant_of-self : goal.invariant_of-self
invariant_of-self c =
    let t = is-timer _ _ (rw (← c.self.view_is) at c.requires) in
    release-wheel _ _ _ _ _ c.self.invariant t c.release-number.ensures.placed c.release-number.ensures.takes (omega (arith, c.release-number.ensures.len))

pub returns-clause-number : goal.returns-clause-number
returns-clause-number c =
    let ns = c.self.inside.buckets.nodes.items in
    let t = is-timer ns c.args.slot (rw (← c.self.view_is) at c.requires) in
    rw (← c.self.view_is) (ap (λ o. option_map (λ (timer : Timer). timer.number) o) (timer-is ns c.args.slot t) ∙ ap (λ n. Some n) (sym c.release-number.ensures.number))

pub returns-clause-timers : goal.returns-clause-timers
returns-clause-timers c = rw (← c.self.view_is) (takes-timers _ _ _ _ c.release-number.ensures.takes)

pub returns-clause-room : goal.returns-clause-room
returns-clause-room c =
    let some = some-timer c.self.invariant c.args.slot (is-timer _ _ (rw (← c.self.view_is) at c.requires)) in
    rw (← c.self.view_is) (omega (arith, some, c.self.invariant.total, c.self.invariant.small, c.release-number.ensures.capacity))

pub returns-clause-lookups : goal.returns-clause-lookups
returns-clause-lookups c other = rw (← c.self.view_is) (take-lookup _ _ _ _ c.release-number.ensures.takes other)
