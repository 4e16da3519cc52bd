use Rattle.std.proofs.Common.{List, take, sym, subst, get_or}
use Rattle.std.proofs.lemmas.List.{take_more, take_all}
use Rattle.moka_maintenance.specs.declared.queued.QueuedWrite.{QueuedWrite}
use Rattle.moka_maintenance.specs.Queued.{writes_of}
use Rattle.moka_maintenance.specs.Admission.{AppliesWrites}
use Rattle.moka_maintenance.proofs.WritesApplied.{writes-none, writes-one, writes-on}
use Rattle.moka_maintenance.proofs.admission.apply_each_write.Goals as goal

pub loop-sent-init : goal.loop-sent-init
loop-sent-init g c = writes-none g.L.Listener.tells c.args.bounds c.args.sketch.now c.args.store.now c.args.notifier.now

pub loop-sent-preserved : goal.loop-sent-preserved
loop-sent-preserved g c =
    let done = take c.loop-sent.sent-index c.args.writes.now in
    subst (λ (qs : List QueuedWrite). AppliesWrites g.L.Listener.tells c.args.bounds c.args.sketch.now c.args.store.now c.apply_write.new.store (writes_of qs) c.args.notifier.now c.apply_write.new.notifier) (sym (take_more c.args.writes.now c.loop-sent.sent-index _ c.loop-sent-test.true))
    (writes-on g.L.Listener.tells c.args.bounds c.args.sketch.now c.args.store.now c.loop-sent.store c.apply_write.new.store done _ c.args.notifier.now c.loop-sent.notifier c.apply_write.new.notifier c.loop-sent.invariant
    (writes-one g.L.Listener.tells c.args.bounds c.args.sketch.now c.loop-sent.store c.apply_write.new.store (get_or c.args.writes.now c.loop-sent.sent-index _) c.loop-sent.notifier c.apply_write.new.notifier c.apply_write.ensures))

pub returns : goal.returns
returns g c =
    subst (λ (qs : List QueuedWrite). AppliesWrites g.L.Listener.tells c.args.bounds c.args.sketch.now c.args.store.now c.loop-sent.store (writes_of qs) c.args.notifier.now c.loop-sent.notifier) (take_all c.loop-sent.sent-index c.args.writes.now c.loop-sent-test.false) c.loop-sent.invariant
