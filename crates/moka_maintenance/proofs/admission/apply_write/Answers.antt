use Rattle.std.proofs.Common.{ap, sym, subst}
use Rattle.moka_records.specs.declared.records.Operation.{Operation}
use Rattle.moka_parts.specs.State.{Contents}
use Rattle.moka_maintenance.specs.Admission.{AppliesWrite}
use Rattle.moka_maintenance.specs.Steps.{contents_with}
use Rattle.moka_maintenance.proofs.Fates.{applied-removal}
use Rattle.moka_maintenance.proofs.admission.apply_write.Goals as goal

pub returns-in-Removal : goal.returns-in-Removal
returns-in-Removal g c =
    let old = c.args.store.now in
    let new = c.apply_removal.new.store in
    let made = c.apply_removal.ensures in
    let bounds = c.args.bounds in
    let sketch = c.args.sketch.now in
    subst (λ (o : Operation). AppliesWrite g.L.Listener.tells bounds sketch old new o c.args.notifier.now c.args.notifier.now) (sym c.in-Removal.is)
    record {
      applied = applied-removal g.L.Listener.tells bounds.capacity bounds.policy old.ordered (contents_with sketch old) (contents_with sketch new) old.written new.written c.in-Removal.number _ c.args.notifier.now
          (ap (λ (d : Contents g.row.K.Denot g.row.V.Denot). record d { sketch = sketch }) made.step) made.written;
      upkeep = made.upkeep;
      rows = made.rows _;
    }
