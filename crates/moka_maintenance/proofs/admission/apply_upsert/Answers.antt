use Rattle.std.proofs.Common.{arith, refl, sym, ap, ◌∙◌}
use Rattle.moka_records.specs.Records.{number_to_back}
use Rattle.moka_store.specs.Store.{Kept}
use Rattle.moka_maintenance.specs.Steps.{contents_with}
use Rattle.moka_maintenance.proofs.Fates.{applied-absent, applied-overtaken, applied-counted, applies-upsert, entered-recounted}
use Rattle.moka_maintenance.proofs.Upkeep.{upkeep-none, entered-upkeep}
use Rattle.moka_maintenance.proofs.Placed.{not_found}
use Rattle.moka_maintenance.proofs.admission.apply_upsert.Goals as goal

pub returns-in_default : goal.returns-in_default
returns-in_default g c =
    applies-upsert _ _ _ _ _ c.args.upsert _ _
    (applied-absent g.L.Listener.tells c.args.bounds.capacity c.args.bounds.policy c.args.store.now.ordered (contents_with c.args.sketch.now c.args.store.now) c.args.upsert.handle.number c.args.upsert.generation c.args.upsert.weight c.args.upsert.hash c.args.store.now.written c.args.notifier.now
    (not_found c.args.store.now.places c.args.upsert.handle.number c.args.upsert.handle.place _ c.requires (c.invariant_holds.ensures.records c.args.upsert.handle.number) c.in_default.ensures.found))
    (upkeep-none c.args.store.now)

pub returns-then-applied-upsert : goal.returns-then-applied-upsert
returns-then-applied-upsert g c =
    applies-upsert _ _ _ _ _ c.args.upsert _ _
    (applied-overtaken g.L.Listener.tells c.args.bounds.capacity c.args.bounds.policy c.args.store.now.ordered (contents_with c.args.sketch.now c.args.store.now) c.args.upsert.handle.number c.args.upsert.generation c.args.upsert.weight c.args.upsert.hash (contents_with c.args.sketch.now c.move_to_back.new.store) c.args.store.now.written c.move_to_back.new.store.written c.in-Some.found (sym (c.in-Some.ensures.found (c.in-Some.ensures.handle refl).placed)) c.args.notifier.now c.args.notifier.now
    (omega (arith, c.applied.ensures)) (ap (λ (k : Kept g.row.K.Denot g.row.V.Denot g.row.S.Denot). contents_with c.args.sketch.now k) c.move_to_back.ensures.step) (λ _. ap (λ (k : Kept g.row.K.Denot g.row.V.Denot g.row.S.Denot). k.written) c.move_to_back.ensures.step) c.invariant_holds.ensures.listed refl)
    c.move_to_back.ensures.upkeep

pub returns-then-is_member : goal.returns-then-is_member
returns-then-is_member g c =
    let found = sym (c.in-Some.ensures.found (c.in-Some.ensures.handle refl).placed) in
    let seen = c.set_applied.ensures.step c.in-Some.found found in
    applies-upsert _ _ _ _ _ c.args.upsert _ _
    (applied-counted g.L.Listener.tells c.args.bounds.capacity c.args.bounds.policy c.args.store.now.ordered (contents_with c.args.sketch.now c.args.store.now) c.args.upsert.handle.number c.args.upsert.generation c.args.upsert.weight c.args.upsert.hash (contents_with c.args.sketch.now c.set_timer.new.self) c.args.store.now.written c.set_timer.new.self.written c.in-Some.found found c.args.notifier.now c.args.notifier.now
    (omega (arith, c.applied.ensures)) (sym c.is_member.ensures.member ∙ c.if-is_member.true)
    (entered-recounted c.args.store.now c.set_applied.new.self c.set_timer.new.self c.args.upsert.handle.number c.args.upsert.generation c.args.upsert.weight c.in-Some.found seen c.args.sketch.now (ap (λ (k : Kept g.row.K.Denot g.row.V.Denot g.row.S.Denot). contents_with c.args.sketch.now k) c.set_timer.ensures.rest ∙ ap (λ (k : Kept g.row.K.Denot g.row.V.Denot g.row.S.Denot). contents_with c.args.sketch.now k) c.recount.ensures.step))
    (λ _. ap (λ (k : Kept g.row.K.Denot g.row.V.Denot g.row.S.Denot). k.written) c.set_timer.ensures.rest ∙ ap (λ (k : Kept g.row.K.Denot g.row.V.Denot g.row.S.Denot). k.written) c.recount.ensures.step ∙ ap (λ (k : Kept g.row.K.Denot g.row.V.Denot g.row.S.Denot). number_to_back c.args.upsert.handle.number k.written) seen)
    refl)
    (entered-upkeep c.args.store.now c.set_applied.new.self c.recount.new.self c.args.upsert.handle.number c.args.upsert.generation c.args.upsert.weight c.in-Some.found seen c.set_timer.new.self
    c.recount.ensures.step c.recount.ensures.counted c.set_timer.ensures.step)

pub returns-else-is_member : goal.returns-else-is_member
returns-else-is_member g c = c.admit_or_reject.ensures
