use Rattle.std.proofs.Common.{sym, refl, ◌∙◌}
use Rattle.moka_records.proofs.AccessList.{absent_taken_out}
use Rattle.moka_store.proofs.Gets.{none_by_test}
use Rattle.moka_store.proofs.KnownOrders.{off-written, off-timers, off-cursor}
use Rattle.moka_maintenance.proofs.admission.leave.Goals as goal

pub returns-else-is_member : goal.returns-else-is_member
returns-else-is_member g c =
    let n = c.args.handle.number in
    let old = c.args.store.now in
    let off = c.is_member.ensures.off c.if-is_member.false in
    rw (absent_taken_out n old.access (none_by_test _ (sym c.is_member.ensures.member ∙ c.if-is_member.false)), off-written old n off, off-timers old n off, off-cursor old n off) refl
