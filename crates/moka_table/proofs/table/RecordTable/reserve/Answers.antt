use Rattle.std.proofs.Common.{◌≡◌, ◌-◌, refl, ap, arith, count_by, is_some}
use Rattle.std.proofs.lemmas.Result.{IfOk-from_err}
use Rattle.moka_table.proofs.ColdRows.{count-whole}
use Rattle.moka_table.proofs.Reserving.{no_less}
use Rattle.std.proofs.lemmas.List.Sums.{count_by-le-length}
use Rattle.moka_table.proofs.table.RecordTable.reserve.Goals as goal

pub overflow_sub-self-inside : goal.overflow_sub-self-inside
overflow_sub-self-inside g c = omega (arith, count_by-le-length is_some c.self.inside.rows.rows)

pub overflow_sub-more : goal.overflow_sub-more
overflow_sub-more g c = omega (arith, count_by-le-length is_some c.self.inside.rows.rows)

pub returns-clause-room : goal.returns-clause-room
returns-clause-room g c =
    let rows = ap (count_by is_some) c.reserve-2.ensures.rows in
    omega (arith, count_by-le-length is_some c.self.inside.rows.rows, c.in_ok-reserve.ensures.ok, c.in_ok-reserve-2.ensures.room)

pub returns-then-self-rows : goal.returns-then-self-rows
returns-then-self-rows g c = record {
  room = rw (← c.self.view_is) (omega (arith, c.if-self-rows.true, c.len-rows.ensures.value));
  succeeds = λ _. refl;
  enough = λ _. refl;
  rows = refl;
  kept = no_less _;
  doubles = λ little. absurd (omega (arith, c.if-self-rows.true, c.len-rows.ensures.value, rw (← c.self.view_is) at little));
}

pub returns-in_err-reserve : goal.returns-in_err-reserve
returns-in_err-reserve g c = record {
  room = IfOk-from_err c.from_residual.result _ c.from_residual.ensures.0;
  succeeds = λ fits. absurd (omega (arith, c.if-self-rows.false, c.len-rows.ensures.value, rw (← c.self.view_is) at fits));
  enough = λ fits. absurd (omega (arith, c.if-self-rows.false, c.len-rows.ensures.value, rw (← c.self.view_is) at fits));
  rows = rw (c.reserve.ensures.items, ← c.self.view_is) refl;
  kept = rw (← c.self.view_is) (no_less _);
  doubles = IfOk-from_err c.from_residual.result _ c.from_residual.ensures.0;
}

pub returns-in_err-reserve-2 : goal.returns-in_err-reserve-2
returns-in_err-reserve-2 g c = record {
  room = IfOk-from_err c.from_residual-in_err-reserve-2.result _ c.from_residual-in_err-reserve-2.ensures.0;
  succeeds = λ fits. absurd (omega (arith, c.if-self-rows.false, c.len-rows.ensures.value, rw (← c.self.view_is) at fits));
  enough = λ fits. absurd (omega (arith, c.if-self-rows.false, c.len-rows.ensures.value, rw (← c.self.view_is) at fits));
  rows = rw (c.reserve.ensures.items, c.reserve-2.ensures.rows, ← c.self.view_is) refl;
  kept = rw (c.reserve-2.ensures.rows, ← c.self.view_is) (no_less _);
  doubles = IfOk-from_err c.from_residual-in_err-reserve-2.result _ c.from_residual-in_err-reserve-2.ensures.0;
}

pub returns-clause-succeeds : goal.returns-clause-succeeds
returns-clause-succeeds g c = λ _. refl

pub returns-clause-enough : goal.returns-clause-enough
returns-clause-enough g c = λ fits. absurd (omega (arith, c.if-self-rows.false, c.len-rows.ensures.value, rw (← c.self.view_is) at fits))

pub returns-clause-doubles : goal.returns-clause-doubles
returns-clause-doubles g c _ =
    let before : count_by is_some c.args.self.now.rows ≡ count_by is_some c.self.inside.rows.rows = rw (← c.self.view_is) (count-whole c.self.inside.rows.rows c.self.inside.cold.items) in
    let room : c.args.self.now.room ≡ c.self.inside.fit - count_by is_some c.self.inside.rows.rows = rw (← c.self.view_is) refl in
    let after = count-whole c.reserve-2.new.self.rows c.reserve.new.self.items in
    let rows = ap (count_by is_some) c.reserve-2.ensures.rows in
    omega (arith, before, room, after, rows, count_by-le-length is_some c.self.inside.rows.rows, c.in_ok-reserve.ensures.ok, c.in_ok-reserve-2.ensures.room)
