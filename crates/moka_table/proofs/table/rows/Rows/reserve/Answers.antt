use Rattle.std.proofs.lemmas.Result.{on_ok_weaker}
use Rattle.std.proofs.Common.{refl, arith}
use Rattle.moka_table.proofs.Reserving.{no_less}
use Rattle.moka_table.proofs.table.rows.Rows.reserve.Goals as goal

pub invariant_of-self : goal.invariant_of-self
invariant_of-self g c = rw c.reserve.ensures.items c.self.invariant

pub returns-clause-rows : goal.returns-clause-rows
returns-clause-rows g c = rw (c.reserve.ensures.items, ← c.self.view_is) refl

pub returns-clause-kept : goal.returns-clause-kept
returns-clause-kept g c = rw (← c.self.view_is) (omega (arith, c.reserve.ensures.capacity))

pub returns-clause-succeeds : goal.returns-clause-succeeds
returns-clause-succeeds g c = λ fits.
    absurd (omega (arith, rw (← c.self.view_is) at fits, c.if-capacity-self.false, c.capacity.ensures))

pub returns-clause-room : goal.returns-clause-room
returns-clause-room g c = on_ok_weaker c.reserve.result (λ room. omega (arith, room, c.self.invariant.total, c.len.ensures)) c.reserve.ensures.ok

pub returns-clause-enough : goal.returns-clause-enough
returns-clause-enough g c = λ fits.
    absurd (omega (arith, rw (← c.self.view_is) at fits, c.if-capacity-self.false, c.capacity.ensures))

pub overflow_sub-capacity : goal.overflow_sub-capacity
overflow_sub-capacity g c = omega (arith, c.self.invariant.total, c.capacity.ensures)

pub overflow_sub-more : goal.overflow_sub-more
overflow_sub-more g c = omega (arith, c.self.invariant.total, c.len.ensures)

pub overflow_sub-more-2 : goal.overflow_sub-more-2
overflow_sub-more-2 g c = omega (arith, c.self.invariant.total, c.len.ensures, c.capacity.ensures, c.if-capacity-self.false)

pub returns-then-capacity-self : goal.returns-then-capacity-self
returns-then-capacity-self g c = record {
  room = rw (← c.self.view_is) (omega (arith, c.if-capacity-self.true, c.capacity.ensures));
  succeeds = λ _. refl;
  enough = λ _. refl;
  rows = refl;
  kept = no_less _;
}
