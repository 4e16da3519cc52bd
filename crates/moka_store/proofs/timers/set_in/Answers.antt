use Rattle.std.proofs.Common.{ap, ◌∙◌, arith}
use Rattle.std.specs.FinMap.{get, len}
use Rattle.moka_store.proofs.Gets.{len-inserted, len-kept, len-removed, len-some}
use Rattle.moka_wheel.specs.TimerWheel.{Timer}
use Rattle.moka_table.proofs.TableMaps.{made-of}
use Rattle.moka_store.proofs.timers.set_in.Goals as goal

pub returns-in-Some-Some-clause-most : goal.returns-in-Some-Some-clause-most
returns-in-Some-Some-clause-most c =
    let held = rw c.in-Some-Some.is-0 at c.requires.held in
    let t = made-of (λ (t : Timer). t.number) (get c.args.wheel.now.timers c.in-Some-Some.slot) _ held in
    let same = ap len (c.reschedule.ensures.timers t.0 t.1) ∙ len-kept c.args.wheel.now.timers c.in-Some-Some.slot _ t.0 t.1 in
    let room = c.reschedule.ensures.room in
    omega arith

pub returns-in-Some-None-clause-most : goal.returns-in-Some-None-clause-most
returns-in-Some-None-clause-most c =
    let held = rw c.in-Some-None.is-0 at c.requires.held in
    let t = made-of (λ (t : Timer). t.number) (get c.args.wheel.now.timers c.in-Some-None.slot) _ held in
    let less = ap len c.deschedule-place.ensures.timers ∙ len-removed c.args.wheel.now.timers c.in-Some-None.slot t.0 t.1 in
    let some = len-some c.args.wheel.now.timers c.in-Some-None.slot t.0 t.1 in
    let room = c.deschedule-place.ensures.room in
    omega arith

pub returns-in-None-Some-clause-most : goal.returns-in-None-Some-clause-most
returns-in-None-Some-clause-most c =
    let more = ap len c.schedule.ensures.timers ∙ len-inserted c.args.wheel.now.timers c.schedule.result _ c.schedule.ensures.fresh in
    let room = c.schedule.ensures.room in
    omega arith
