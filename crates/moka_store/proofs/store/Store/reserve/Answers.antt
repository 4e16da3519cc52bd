use Rattle.std.proofs.Common.{length, count_by, is_some, ap, arith, sym, subst, ℕ, ◌+◌, ◌-◌, ◌≤◌, min}
use Rattle.std.proofs.lemmas.Result.{on_ok_weaker}
use Rattle.moka_store.proofs.Orders.{written-grown}
use Rattle.moka_store.proofs.Steps.{store-grown}
use Rattle.moka_store.proofs.Slots.{slots-within}
use Rattle.moka_store.specs.Rows.{access_in}
use Rattle.moka_store.specs.StoreTies.{IsTimed}
use Rattle.moka_store.specs.Timers.{Timing}
use Rattle.moka_store.proofs.store.Store.reserve.Goals as goal

pub invariant_of-self-in_err-reserve : goal.invariant_of-self-in_err-reserve
invariant_of-self-in_err-reserve g c = rw (c.reserve_rows.ensures.rows, c.reserve.ensures.entries) c.self.invariant

pub overflow_sub-rows : goal.overflow_sub-rows
overflow_sub-rows g c =
    let most = slots-within access_in _ _ c.self.invariant.tied.listed in
    let rows = ap (count_by is_some) c.reserve_rows.ensures.rows in
    let len = c.len.ensures.value in
    omega arith

pub invariant_of-self-in_err-reserve-2 : goal.invariant_of-self-in_err-reserve-2
invariant_of-self-in_err-reserve-2 g c =
    let same = ap length c.reserve-2.ensures.members in
    rw (c.reserve_rows.ensures.rows, c.reserve.ensures.entries, c.reserve-2.ensures.members) (store-grown c.self.invariant _ _ _ c.self.invariant.written c.self.invariant.timed (omega (arith, c.reserve-2.ensures.kept)))

pub invariant_of-self-in_err-reserve-3 : goal.invariant_of-self-in_err-reserve-3
invariant_of-self-in_err-reserve-3 g c =
    let same = ap length c.reserve-2.ensures.members in
    let written = written-grown c.self.inside.table.rows c.self.inside.written c.reserve-3.new.self c.self.invariant.written c.reserve-3.ensures.rest in
    rw (c.reserve_rows.ensures.rows, c.reserve.ensures.entries, c.reserve-2.ensures.members) (store-grown c.self.invariant _ _ _ written c.self.invariant.timed (omega (arith, c.reserve-2.ensures.kept, c.reserve-3.ensures.kept)))

pub invariant_of-self-2 : goal.invariant_of-self-2
invariant_of-self-2 g c =
    let same = ap length c.reserve-2.ensures.members in
    let written = written-grown c.self.inside.table.rows c.self.inside.written c.reserve-3.new.self c.self.invariant.written c.reserve-3.ensures.rest in
    let timed = subst (IsTimed c.self.inside.table.rows) (sym (ap (λ (t : Timing). t.timers) c.reserve-4.ensures.rest)) c.self.invariant.timed in
    rw (c.reserve_rows.ensures.rows, c.reserve.ensures.entries, c.reserve-2.ensures.members) (store-grown c.self.invariant _ _ _ written timed (omega (arith, c.reserve-2.ensures.kept, c.reserve-3.ensures.kept, c.reserve-4.ensures.kept)))

-- what fits each part fits a store
fits-all : (n spare room most used : ℕ) → n ≤ spare → n ≤ room → used + n ≤ most → n ≤ min spare (min room (most - used))
fits-all n spare room most used = λ a b c. omega arith

pub returns-clause-room : goal.returns-clause-room
returns-clause-room g c =
    let rows = ap (count_by is_some) c.reserve_rows.ensures.rows in
    let same = ap length c.reserve-2.ensures.members in
    on_ok_weaker c.reserve-4.result (λ room. fits-all _ _ _ _ _ c.in_ok-reserve.ensures.room c.in_ok-reserve_rows.ensures.room (omega (arith, room, rows, c.len.ensures.value, same, slots-within access_in _ _ c.self.invariant.tied.listed, c.len-2.ensures.value, c.in_ok-reserve-2.ensures.room, c.in_ok-reserve-3.ensures.room))) c.reserve-4.ensures.room
