use Rattle.std.proofs.Common.{◌+◌, ap, subst}
use Rattle.moka_store.specs.Store.{Kept}
use Rattle.moka_parts.specs.Reads.{after_reads}
use Rattle.moka_maintenance.specs.Queued.{read_of, writes_of}
use Rattle.moka_maintenance.specs.Admission.{AreApplied, ArePrepared}
use Rattle.moka_maintenance.specs.Steps.{contents_with}
use Rattle.moka_maintenance.specs.Timers.{KeepsTimers}
use Rattle.moka_maintenance.proofs.Timing.{keeps-on}
use Rattle.moka_inner.specs.Interior.{Interior}
use Rattle.moka_inner.proofs.InnerLemmas.{read_at, inner-applied}
use Rattle.moka_inner.proofs.inner.Inner.apply_queues.Goals as goal

pub apply_reads-requires : goal.apply_reads-requires
apply_reads-requires g c = record { located = λ q there. read_at c.self.inside.store.places c.self.inside.next_number q.place (read_of q) (c.self.invariant.located.seen q there) }

pub invariant_of-self : goal.invariant_of-self
invariant_of-self g c =
    let rest = c.apply_reads.ensures.served.rest in
    rw (c.apply_writes.ensures.writes, c.apply_reads.ensures.reads)
    (inner-applied g.L.Listener.tells c.self.inside.store c.apply_writes.new.store c.self.inside.outstanding c.self.inside.writes c.self.inside.reads (c.self.inside.last_ticket + 1) c.self.inside.next_number c.self.invariant c.args.notifier.now c.apply_writes.new.notifier
    c.args.bounds.capacity c.args.bounds.policy c.apply_reads.new.sketch c.apply_reads.new.store (ap (λ (k : Kept g.row.K.Denot g.row.V.Denot g.row.S.Denot). k.records) rest) (ap (λ (k : Kept g.row.K.Denot g.row.V.Denot g.row.S.Denot). k.places) rest)
    c.apply_writes.ensures.applied.applied c.apply_writes.ensures.applied.upkeep.places c.apply_writes.ensures.applied.rows)

pub returns-clause-prepared : goal.returns-clause-prepared
returns-clause-prepared g c =
    let rest = c.apply_reads.ensures.served.rest in
    let ordered = ap (λ (k : Kept g.row.K.Denot g.row.V.Denot g.row.S.Denot). k.ordered) rest in
    let listed = ap (λ (k : Kept g.row.K.Denot g.row.V.Denot g.row.S.Denot). k.written) rest in
    let applied = subst (λ b. AreApplied g.L.Listener.tells c.args.bounds.capacity c.args.bounds.policy c.self.inside.store.ordered b (contents_with c.apply_reads.new.sketch c.apply_writes.new.store) c.self.inside.store.written c.apply_writes.new.store.written (writes_of c.self.inside.writes.items) c.args.notifier.now c.apply_writes.new.notifier) c.apply_reads.ensures.applied
    (subst (λ ns. AreApplied g.L.Listener.tells c.args.bounds.capacity c.args.bounds.policy c.self.inside.store.ordered (contents_with c.apply_reads.new.sketch c.apply_reads.new.store) (contents_with c.apply_reads.new.sketch c.apply_writes.new.store) ns c.apply_writes.new.store.written (writes_of c.self.inside.writes.items) c.args.notifier.now c.apply_writes.new.notifier) listed
    (subst (λ b. AreApplied g.L.Listener.tells c.args.bounds.capacity c.args.bounds.policy b (contents_with c.apply_reads.new.sketch c.apply_reads.new.store) (contents_with c.apply_reads.new.sketch c.apply_writes.new.store) c.apply_reads.new.store.written c.apply_writes.new.store.written (writes_of c.self.inside.writes.items) c.args.notifier.now c.apply_writes.new.notifier) ordered c.apply_writes.ensures.applied.applied)) in
    let on = c.enable_frequency_sketch.ensures in
    subst (λ (i : Interior g.row.K.Denot g.row.V.Denot g.row.S.Denot). ArePrepared g.L.Listener.tells c.args.bounds.capacity c.args.bounds.policy i.kept.ordered c.args.bounds.has_weigher (after_reads (contents_with i.sketch i.kept) i.reads) (contents_with c.enable_frequency_sketch.new.sketch c.apply_writes.new.store) i.kept.written c.apply_writes.new.store.written i.writes c.args.notifier.now c.apply_writes.new.notifier) c.self.view_is
    record { between = contents_with c.apply_reads.new.sketch c.apply_writes.new.store; applied = applied; is_short = on.0; enabled = on.1 }

pub returns-clause-timers : goal.returns-clause-timers
returns-clause-timers g c =
    subst (λ (i : Interior g.row.K.Denot g.row.V.Denot g.row.S.Denot). KeepsTimers i.kept c.apply_writes.new.store) c.self.view_is (keeps-on c.self.inside.store c.apply_reads.new.store c.apply_writes.new.store c.apply_reads.ensures.served.timers c.apply_writes.ensures.applied.upkeep.timers)
