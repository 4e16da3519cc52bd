use Rattle.std.proofs.Common.{sym, ◌∙◌}
use Rattle.moka_store.proofs.Gets.{none_by_test}
use Rattle.moka_store.proofs.KnownOrders.{off-written, off-timers, off-cursor}
use Rattle.moka_records.proofs.AccessList.{absent_taken_out}
use Rattle.moka_records.specs.Records.{counted_of}
use Rattle.moka_store.proofs.store.Store.take_out.Goals as goal
use Rattle.moka_store.proofs.store.Store.take_out.Goals.{then-is_member, else-is_member}

pub returns-clause-step : goal.returns-clause-step
returns-clause-step g c =
    elim c.if-is_member.branch [
      | then-is_member w ↦ rw (w.self-is, w.leave.ensures.step) at c.take_record.ensures.step
      | else-is_member w ↦
          let absent = none_by_test (counted_of c.args.handle.number c.args.self.now.access) (sym c.is_member.ensures.member ∙ w.if-is_member.false) in
          let off = c.is_member.ensures.off w.if-is_member.false in
          rw (absent_taken_out c.args.handle.number c.args.self.now.access absent, off-written c.args.self.now c.args.handle.number off, off-timers c.args.self.now c.args.handle.number off, off-cursor c.args.self.now c.args.handle.number off) (rw w.self-is at c.take_record.ensures.step)
    ]
