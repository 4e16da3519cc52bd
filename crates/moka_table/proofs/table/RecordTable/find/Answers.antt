use Rattle.std.proofs.Common.{sym, ap, ◌∙◌, is_some, arith}
use Rattle.moka_table.proofs.ColdRows.{found-at, found-other, found-none}
use Rattle.moka_table.proofs.TableCalls.{find_at-found, find_at-elsewhere, find_at-placed}
use Rattle.moka_table.proofs.table.RecordTable.find.Goals as goal

pub returns-in_err-own-clause-found : goal.returns-in_err-own-clause-found
returns-in_err-own-clause-found g c = λ h.
    let none = found-none c.args.self.now.rows c.args.place c.args.number (sym c.in_err-own.ensures.stored) in
    rw c.from_residual.ensures (sym none ∙ find_at-found c.args.self.now.rows c.in_err-own.ensures.apart c.args.place c.args.number h)

pub returns-then-own-number : goal.returns-then-own-number
returns-then-own-number g c =
    let found = found-at c.args.self.now.rows c.args.place c.args.number c.in_ok-own.own c.in_ok-own.found c.in_ok-own.ensures.number c.in_ok-own.ensures.stored (omega arith) in
    record {
      value = sym found;
      found = λ h. sym found ∙ find_at-found c.args.self.now.rows c.in_ok-own.ensures.apart c.args.place c.args.number h;
      elsewhere = λ h. sym found ∙ find_at-elsewhere c.args.self.now.rows c.in_ok-own.ensures.apart c.args.place c.args.number h;
      placed = λ _. find_at-placed c.args.self.now.rows c.in_ok-own.ensures.apart c.args.place c.args.number (ap is_some found);
    }

pub returns-else-own-number-clause-found : goal.returns-else-own-number-clause-found
returns-else-own-number-clause-found g c = λ h.
    let other = found-other c.args.self.now.rows c.args.place c.args.number c.in_ok-own.own c.in_ok-own.found c.in_ok-own.ensures.number c.in_ok-own.ensures.stored (λ e. omega arith) in
    sym other ∙ find_at-found c.args.self.now.rows c.in_ok-own.ensures.apart c.args.place c.args.number h
