use Rattle.std.proofs.Common.{◌∙◌, refl, sym}
use Rattle.moka_hit_ratio.proofs.Limits.{get_keeps, insert_keeps, limits_then, run_keeps}
use Rattle.moka_hit_ratio.proofs.Reading.{found_alike}
use Rattle.moka_hit_ratio.proofs.read_through.ReadThrough.read.Goals as goal

pub returns-else-not-is_there-clause-limits : goal.returns-else-not-is_there-clause-limits
returns-else-not-is_there-clause-limits c = get_keeps _ _ _ _ _ _ _ _ _ _ c.get.ensures.step

pub returns-in_err-insert-clause-limits : goal.returns-in_err-insert-clause-limits
returns-in_err-insert-clause-limits c = limits_then _ _ _ (get_keeps _ _ _ _ _ _ _ _ _ _ c.get.ensures.step) (insert_keeps _ _ _ _ _ _ _ _ _ _ c.insert.ensures)

pub returns-in_ok-insert-clause-limits : goal.returns-in_ok-insert-clause-limits
returns-in_ok-insert-clause-limits c =
    let put = limits_then _ _ _ (get_keeps _ _ _ _ _ _ _ _ _ _ c.get.ensures.step) (insert_keeps _ _ _ _ _ _ _ _ _ _ c.insert.ensures) in
    limits_then _ _ _ put (run_keeps _ _ _ _ _ _ _ c.run_pending_tasks.ensures.made)

pub returns-else-not-is_there-clause-read : goal.returns-else-not-is_there-clause-read
returns-else-not-is_there-clause-read c =
    let (own, copied, made) = c.in_ok-get.ensures.step.made in
    let (value, is, alike) = found_alike _ own c.in_ok-get.field-0 copied in
    let held = rw (← c.is_some-is_there.ensures) at c.in_ok-get.ensures.step.shown in
    (held, (_, _, _, value, alike ∙ sym c.is_some-is_there.ensures, rw is at made, rw c.if-not-is_there.false refl))

pub returns-in_ok-insert-clause-read : goal.returns-in_ok-insert-clause-read
returns-in_ok-insert-clause-read c =
    let (own, copied, made) = c.in_ok-get.ensures.step.made in
    let (value, is, alike) = found_alike _ own c.in_ok-get.field-0 copied in
    let held = rw (← c.is_some-is_there.ensures) at c.in_ok-get.ensures.step.shown in
    (held, (_, _, _, value, alike ∙ sym c.is_some-is_there.ensures, rw is at made, rw c.if-not-is_there.true (_, _, _, _, _, c.in_ok-insert.ensures.made, c.run_pending_tasks.ensures.made)))
