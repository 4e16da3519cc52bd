use Rattle.std.proofs.Common.{◌≡◌, cond, nat_eq, option_map, unwrap_or, arith, sym, ap, ◌∙◌}
use Rattle.std.specs.FinMap.{get, insert}
use Rattle.moka_wheel.specs.TimerWheel.{Timer}
use Rattle.moka_wheel.specs.Nodes.{numbers, timers_of}
use Rattle.moka_wheel.proofs.Maps.{puts-timers, put-lookup}
use Rattle.moka_wheel.proofs.Upkeep.{is-timer, timer-is, reset-wheel}
use Rattle.moka_wheel.proofs.timer_wheel.TimerWheel.reschedule.Goals as goal

pub reset-requires-clause-timer : goal.reset-requires-clause-timer
reset-requires-clause-timer c = is-timer _ _ (rw (← c.self.view_is) at c.requires)

pub invariant_of-self : goal.invariant_of-self
invariant_of-self c =
    let t = is-timer _ _ (rw (← c.self.view_is) at c.requires) in
    reset-wheel _ _ _ _ _ _ c.self.invariant t c.reset.ensures.placed c.reset.ensures.puts (omega (arith, c.reset.ensures.len))

pub returns-clause-timers : goal.returns-clause-timers
returns-clause-timers c timer e =
    let ns = c.self.inside.buckets.nodes.items in
    let t = is-timer ns c.args.slot (rw (← c.self.view_is) at c.requires) in
    let is = rw (← c.self.view_is) at e in
    let number : numbers ns c.args.slot ≡ timer.number = ap (λ o. (unwrap_or o timer).number) (sym (timer-is ns c.args.slot t) ∙ is) in
    rw (← c.self.view_is) (puts-timers ns _ c.args.slot _ c.reset.ensures.puts ∙ ap (λ n. let u : Timer = record { number = n; at = c.args.at } in insert (timers_of ns) c.args.slot u) number)

pub returns-clause-lookups : goal.returns-clause-lookups
returns-clause-lookups c other =
    let ns = c.self.inside.buckets.nodes.items in
    let t = is-timer ns c.args.slot (rw (← c.self.view_is) at c.requires) in
    rw (← c.self.view_is) (put-lookup _ _ _ _ c.reset.ensures.puts other
    ∙ ap (λ o. cond (nat_eq other c.args.slot) (option_map (λ (timer : Timer). let u : Timer = record timer { at = c.args.at } in u) o) (get (timers_of ns) other)) (sym (timer-is ns c.args.slot t)))
