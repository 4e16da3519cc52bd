use Rattle.std.proofs.Common.{◌++◌, [], ◌∷◌, true≢false, sym, ap, refl, ◌∙◌}
use Rattle.std.proofs.lemmas.Bool.{cond-false}
use Rattle.std.specs.FinMap as finite
use Rattle.moka_records.specs.Records.{is_listed, without_number}
use Rattle.moka_store.specs.Store.{Kept}
use Rattle.moka_store.proofs.Gets.{none_by_test, some_is}
use Rattle.moka_store.proofs.KnownOrders.{off-cursor}
use Rattle.moka_store.proofs.Members.{absent_to_back}
use Rattle.moka_maintenance.proofs.Timing.{stands-set}
use Rattle.moka_maintenance.proofs.Upkeep.{untimed-moved, upkeep-none, upkeep-on, upkeep-timed}
use Rattle.moka_maintenance.proofs.admission.move_to_back.Goals as goal

pub returns-then-is_member-clause-upkeep : goal.returns-then-is_member-clause-upkeep
returns-then-is_member-clause-upkeep g c =
    let n = c.args.handle.number in
    let mid = c.move_to_back.new.self in
    let new = c.set_timer.new.self in
    let found = some_is (finite.get c.args.store.now.records n) c.requires.stored in
    let there = ap (λ m. finite.get m n) c.move_to_back.ensures.records ∙ found.1 in
    upkeep-on c.args.store.now mid new (untimed-moved c.args.store.now mid c.move_to_back.ensures.step c.move_to_back.ensures.counted).keeps (upkeep-timed mid new n found.0 there (c.set_timer.ensures.step found.0 there))

pub returns-else-is_member-clause-step : goal.returns-else-is_member-clause-step
returns-else-is_member-clause-step g c =
    let n = c.args.handle.number in
    let old = c.args.store.now in
    let off = c.is_member.ensures.off c.if-is_member.false in
    let unmoved = cond-false (is_listed n old.written) (without_number n old.written ++ n ∷ []) old.written off.unlisted in
    rw (absent_to_back n old.access (none_by_test _ (sym c.is_member.ensures.member ∙ c.if-is_member.false)), unmoved, off-cursor old n off) refl

pub returns-then-is_member-clause-timer : goal.returns-then-is_member-clause-timer
returns-then-is_member-clause-timer g c =
    let n = c.args.handle.number in
    let found = some_is (finite.get c.args.store.now.records n) c.requires.stored in
    let there = ap (λ m. finite.get m n) c.move_to_back.ensures.records ∙ found.1 in
    stands-set c.move_to_back.new.self c.set_timer.new.self n found.0 there (c.set_timer.ensures.step found.0 there)

pub returns-else-is_member-clause-timer : goal.returns-else-is_member-clause-timer
returns-else-is_member-clause-timer g c = λ kept r there is_in. absurd (true≢false (sym is_in ∙ sym c.is_member.ensures.member ∙ c.if-is_member.false))

pub returns-then-is_member-clause-step : goal.returns-then-is_member-clause-step
returns-then-is_member-clause-step g c = c.set_timer.ensures.rest ∙ ap (λ (k : Kept g.row.K.Denot g.row.V.Denot g.row.S.Denot). record k { timers = c.set_timer.new.self.timers }) c.move_to_back.ensures.step

pub returns-else-is_member-clause-upkeep : goal.returns-else-is_member-clause-upkeep
returns-else-is_member-clause-upkeep g c = upkeep-none c.args.store.now
