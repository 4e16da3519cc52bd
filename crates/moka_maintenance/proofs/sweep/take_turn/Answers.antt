use Rattle.std.proofs.Common.{◌≡◌, false, ap, refl, sym, ◌∙◌}
use Rattle.std.specs.Option.{option_map_or}
use Rattle.moka_records.specs.Records.{is_applied, is_settled}
use Rattle.moka_maintenance.specs.Steps.{stock_in}
use Rattle.moka_maintenance.proofs.Fronts.{settled_member}
use Rattle.moka_maintenance.proofs.Upkeep.{untimed-none, untimed-moved}
use Rattle.moka_maintenance.proofs.sweep.take_turn.Goals as goal
use Rattle.moka_maintenance.proofs.sweep.take_turn.Goals.{in_default-find-via-in-Some-find+else-is_settled, in_default-find-via-in_default-find}

pub returns-clause-turn : goal.returns-clause-turn
returns-clause-turn g c =
    let n = c.in-Some.handle.number in
    let r = c.in-Some-find.found in
    let found = sym (c.in-Some-find.ensures.found c.in-Some.ensures.0.placed) in
    let settled = ap (λ o. option_map_or is_applied o false) found ∙ (sym c.is_settled.ensures ∙ c.if-is_settled.true) in (
      n,
      c.in-Some-cause.cause,
      (
        c.in-Some.ensures.1,
        (r, found, settled_member c.args.store.now.records c.args.store.now.access n c.in-Some.ensures.0.member settled, c.in-Some-cause.ensures (stock_in c.args.store.now) n c.in-Some.ensures.1),
      ),
      c.expel.ensures.step,
      c.expel.ensures.told,
    )

pub returns-clause-upkeep : goal.returns-clause-upkeep
returns-clause-upkeep g c = c.expel.ensures.upkeep

pub returns-in_default-find-clause-turn : goal.returns-in_default-find-clause-turn
returns-in_default-find-clause-turn g c =
    let front = c.in-Some.ensures in
    let unsettled : is_settled c.args.store.now.records c.in-Some.handle.number ≡ false = elim c.in_default-find.branch [
      | in_default-find-via-in-Some-find+else-is_settled w ↦ ap (λ o. option_map_or is_applied o false) (sym (w.in-Some-find.ensures.found front.0.placed)) ∙ (sym w.is_settled.ensures ∙ w.if-is_settled.false)
      | in_default-find-via-in_default-find w ↦ ap (λ o. option_map_or is_applied o false) (sym (w.in_default-find.ensures.found front.0.placed))
    ] in
    (c.in-Some.handle.number, (front.1, (front.0.member, unsettled)), ap stock_in c.move_to_back.ensures.step, refl)

pub returns-in_default-find-clause-upkeep : goal.returns-in_default-find-clause-upkeep
returns-in_default-find-clause-upkeep g c = untimed-moved c.args.store.now c.move_to_back.new.self c.move_to_back.ensures.step c.move_to_back.ensures.counted

pub returns-in_default-clause-turn : goal.returns-in_default-clause-turn
returns-in_default-clause-turn g c = (c.in_default.ensures.0, (λ n next. absurd (c.in_default.ensures.1 n next)), refl, refl)

pub returns-in_default-clause-upkeep : goal.returns-in_default-clause-upkeep
returns-in_default-clause-upkeep g c = untimed-none c.args.store.now

pub returns-in_default-cause-clause-upkeep : goal.returns-in_default-cause-clause-upkeep
returns-in_default-cause-clause-upkeep g c = untimed-none c.args.store.now

pub move_to_back-requires : goal.move_to_back-requires
move_to_back-requires g c = record { placed = c.in-Some.ensures.0.placed; member = c.in-Some.ensures.0.member }
