use Rattle.std.proofs.Common.{List, sym, subst}
use Rattle.std.proofs.lemmas.List.{take_more, take_all}
use Rattle.moka_maintenance.specs.declared.queued.QueuedRead.{QueuedRead}
use Rattle.moka_maintenance.specs.Admission.{AppliesReads}
use Rattle.moka_maintenance.proofs.ReadsApplied.{applies-none, applies-one, applies-both}
use Rattle.moka_maintenance.proofs.admission.apply_each_read.Goals as goal

pub loop-read-init : goal.loop-read-init
loop-read-init g c = applies-none _

pub loop-read-preserved : goal.loop-read-preserved
loop-read-preserved g c =
    subst (λ (qs : List QueuedRead). AppliesReads qs c.args.store.now c.apply_read.new.store) (sym (take_more c.args.reads.now c.loop-read.read-index _ c.loop-read-test.true))
    (applies-both _ _ _ _ _ c.loop-read.invariant (applies-one _ _ _ c.apply_read.ensures.applied c.apply_read.ensures.served))

pub returns : goal.returns
returns g c =
    subst (λ (qs : List QueuedRead). AppliesReads qs c.args.store.now c.loop-read.store) (take_all c.loop-read.read-index c.args.reads.now c.loop-read-test.false) c.loop-read.invariant
