use Rattle.std.proofs.Common.{List, subst, Contains}
use Rattle.std.proofs.lemmas.List.Elements.{Contains-append_left, Contains-append_right}
use Rattle.moka_maintenance.specs.declared.queued.QueuedWrite.{QueuedWrite}
use Rattle.moka_maintenance.specs.Queued.{writes_of}
use Rattle.moka_maintenance.specs.Admission.{AppliesWrites}
use Rattle.moka_maintenance.proofs.WritesApplied.{writes-on}
use Rattle.moka_maintenance.proofs.admission.apply_writes.Goals as goal

pub apply_each_write-requires : goal.apply_each_write-requires
apply_each_write-requires g c =
    record { located = λ q there. c.requires.located q (subst (λ (qs : List QueuedWrite). Contains qs q) c.as_slices.ensures (Contains-append_left c.as_slices.result.0.now c.as_slices.result.1.now q there)) }

pub apply_each_write-requires-2 : goal.apply_each_write-requires-2
apply_each_write-requires-2 g c =
    record { located = λ q there p at. c.requires.located q (subst (λ (qs : List QueuedWrite). Contains qs q) c.as_slices.ensures (Contains-append_right c.as_slices.result.0.now c.as_slices.result.1.now q there)) p (c.apply_each_write.ensures.upkeep.places _ p at) }

pub returns-clause-applied : goal.returns-clause-applied
returns-clause-applied g c =
    let made = c.apply_each_write in
    let then = c.apply_each_write-2 in
    subst (λ (qs : List QueuedWrite). AppliesWrites g.L.Listener.tells c.args.bounds c.args.sketch.now c.args.store.now then.new.store (writes_of qs) c.args.notifier.now then.new.notifier) c.as_slices.ensures
    (writes-on g.L.Listener.tells c.args.bounds c.args.sketch.now c.args.store.now made.new.store then.new.store c.as_slices.result.0.now c.as_slices.result.1.now c.args.notifier.now made.new.notifier then.new.notifier made.ensures then.ensures)
