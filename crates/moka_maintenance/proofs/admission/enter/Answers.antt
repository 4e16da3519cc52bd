use Rattle.std.proofs.Common.{ap, ◌∙◌}
use Rattle.std.specs.FinMap as finite
use Rattle.moka_records.specs.Records.{entered_by}
use Rattle.moka_store.specs.Store.{Kept}
use Rattle.moka_store.proofs.Gets.{some_is}
use Rattle.moka_maintenance.proofs.Upkeep.{entered-upkeep}
use Rattle.moka_maintenance.proofs.admission.enter.Goals as goal

pub returns-clause-written : goal.returns-clause-written
returns-clause-written g c =
    let found = some_is (finite.get c.args.store.now.records c.args.upsert.handle.number) c.requires.outside.handle.stored in
    ap (λ (k : Kept g.row.K.Denot g.row.V.Denot g.row.S.Denot). k.written) c.set_timer.ensures.rest ∙ ap (λ (k : Kept g.row.K.Denot g.row.V.Denot g.row.S.Denot). k.written) c.admit.ensures.step ∙ ap (λ (k : Kept g.row.K.Denot g.row.V.Denot g.row.S.Denot). entered_by k.ordered c.args.upsert.handle.number k.written) (c.set_applied.ensures.step found.0 found.1)

pub returns-clause-upkeep : goal.returns-clause-upkeep
returns-clause-upkeep g c =
    let found = some_is (finite.get c.args.store.now.records c.args.upsert.handle.number) c.requires.outside.handle.stored in
    entered-upkeep c.args.store.now c.set_applied.new.self c.admit.new.self c.args.upsert.handle.number c.args.upsert.generation c.args.upsert.weight found.0 (c.set_applied.ensures.step found.0 found.1) c.set_timer.new.self
    c.admit.ensures.step c.admit.ensures.counted c.set_timer.ensures.step

pub returns-clause-places : goal.returns-clause-places
returns-clause-places g c =
    let found = some_is (finite.get c.args.store.now.records c.args.upsert.handle.number) c.requires.outside.handle.stored in
    ap (λ (k : Kept g.row.K.Denot g.row.V.Denot g.row.S.Denot). k.places) c.set_timer.ensures.rest ∙ ap (λ (k : Kept g.row.K.Denot g.row.V.Denot g.row.S.Denot). k.places) c.admit.ensures.step ∙ ap (λ (k : Kept g.row.K.Denot g.row.V.Denot g.row.S.Denot). k.places) (c.set_applied.ensures.step found.0 found.1)
