use Rattle.std.proofs.Common.{sym, ap, refl, subst, ◌∙◌}
use Rattle.std.specs.FinMap as finite
use Rattle.moka_store.proofs.Gets.{none_by_test, some_is}
use Rattle.moka_store.proofs.Members.{absent_to_back}
use Rattle.moka_maintenance.specs.Timers.{StandsAtExpiry}
use Rattle.moka_maintenance.proofs.Timing.{keeps-on, stands-set, stands-past, stands-moved}
use Rattle.moka_maintenance.proofs.Upkeep.{upkeep-timed, untimed-moved}
use Rattle.moka_maintenance.proofs.admission.move_after_read.Goals as goal

pub returns-then-renewed-clause-served : goal.returns-then-renewed-clause-served
returns-then-renewed-clause-served g c =
    let old = c.args.store.now in
    let mid = c.move_in_access.new.self in
    let new = c.set_timer.new.self in
    let step = c.move_in_access.ensures.step in
    let counted = c.move_in_access.ensures.counted in
    let n = c.args.handle.number in
    let found = some_is (finite.get old.records n) c.requires.handle.stored in
    let there = ap (λ m. finite.get m n) c.move_in_access.ensures.records ∙ found.1 in
    let set = c.set_timer.ensures.step found.0 there in
    record {
      rest = rw (c.set_timer.ensures.rest, step) refl;
      renewed = λ k is. subst (λ m. StandsAtExpiry m new) (sym is.0) (stands-set mid new n found.0 there set);
      kept = λ k stands. stands-past mid new n found.0 there set k (stands-moved old mid step counted k stands);
      timers = keeps-on old mid new (untimed-moved old mid step counted).keeps.timers (upkeep-timed mid new n found.0 there set).timers;
    }

pub returns-else-is_member-clause-access : goal.returns-else-is_member-clause-access
returns-else-is_member-clause-access g c = sym (absent_to_back c.args.handle.number c.args.store.now.access (none_by_test _ (sym c.is_member.ensures.member ∙ c.if-is_member.false)))
