use Rattle.std.proofs.Common.{◌≡◌, ◌-◌, None, cond, nat_eq, min, vec_capacity, option_map, unwrap_or, sym, ap, ◌∙◌}
use Rattle.std.proofs.lemmas.List.{get_or_read}
use Rattle.std.specs.FinMap.{get, remove}
use Rattle.moka_wheel.specs.TimerWheel.{Timer, Timers}
use Rattle.moka_wheel.specs.Nodes.{Node, blank, numbers, timers_of}
use Rattle.moka_wheel.proofs.Maps.{keeps-timers}
use Rattle.moka_wheel.proofs.Upkeep.{timer-is, timer-some, later-timer, due-timer, keeps-wheel}
use Rattle.moka_wheel.proofs.timer_wheel.TimerWheel.advance.Goals as goal

pub invariant_of-self : goal.invariant_of-self
invariant_of-self c = keeps-wheel _ _ _ _ c.self.invariant c.due.ensures.placed c.due.ensures.keeps

pub returns-in_err-slot-clause-none : goal.returns-in_err-slot-clause-none
returns-in_err-slot-clause-none c =
    rw c.from_residual.ensures (λ slot timer e. later-timer _ _ c.args.now slot timer c.due.ensures.keeps c.in_err-slot.ensures.none (rw (← c.self.view_is) at e))

pub returns-in_err-slot-clause-unchanged : goal.returns-in_err-slot-clause-unchanged
returns-in_err-slot-clause-unchanged c =
    rw (c.from_residual.ensures, ← c.self.view_is)
    (ap (λ m. let t : Timers = record { timers = m; room = min (vec_capacity c.due.new.self.nodes) 4294967296 - 2049 - c.self.inside.len } in t) (keeps-timers _ _ c.due.ensures.keeps)
    ∙ ap (λ k. let t : Timers = record { timers = timers_of c.self.inside.buckets.nodes.items; room = min k 4294967296 - 2049 - c.self.inside.len } in t) c.due.ensures.capacity)

pub invariant_of-self-2 : goal.invariant_of-self-2
invariant_of-self-2 c = keeps-wheel _ _ _ _ c.self.invariant c.due.ensures.placed c.due.ensures.keeps

pub deschedule-number-requires : goal.deschedule-number-requires
deschedule-number-requires c = timer-some _ _ c.in_ok-slot.ensures.some

pub returns-clause-due : goal.returns-clause-due
returns-clause-due c =
    let ms = c.due.new.self.nodes.items in
    let t = c.in_ok-slot.ensures.some in
    let read = ap (λ (n : Node). n.value.at) (get_or_read _ _ c.index.result.now t.within c.index.ensures blank) in
    let number : numbers ms c.in_ok-slot.slot ≡ c.deschedule-number.result =
    ap (λ o. unwrap_or o 0) (ap (λ o. option_map (λ (timer : Timer). timer.number) o) (sym (timer-is ms c.in_ok-slot.slot t)) ∙ c.deschedule-number.ensures.number) in
    rw (← c.self.view_is) (due-timer _ _ c.in_ok-slot.slot c.deschedule-number.result c.index.result.now.value.at c.due.ensures.keeps t (sym number) read)

pub returns-clause-timers : goal.returns-clause-timers
returns-clause-timers c =
    rw (← c.self.view_is) (c.deschedule-number.ensures.timers ∙ ap (λ m. remove m c.in_ok-slot.slot) (keeps-timers _ _ c.due.ensures.keeps))

pub returns-clause-lookups : goal.returns-clause-lookups
returns-clause-lookups c other =
    rw (← c.self.view_is) (c.deschedule-number.ensures.lookups other ∙ ap (λ m. cond (nat_eq other c.in_ok-slot.slot) None (get m other)) (keeps-timers _ _ c.due.ensures.keeps))
