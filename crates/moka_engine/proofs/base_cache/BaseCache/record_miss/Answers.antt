use Rattle.std.proofs.Common.{refl}
use Rattle.moka_records.specs.declared.records.ReadOperation.TheVariants.{Miss}
use Rattle.moka_engine.proofs.GetSteps.{whole-queued}
use Rattle.moka_engine.proofs.KeeperSteps.{read_follows}
use Rattle.moka_engine.proofs.base_cache.BaseCache.record_miss.Goals as goal

pub invariant_of-self : goal.invariant_of-self
invariant_of-self g c = whole-queued c.self.inside.inner c.self.invariant refl (Miss c.args.hash) c.queue_read.new.self c.queue_read.ensures

pub returns-clause-enabled : goal.returns-clause-enabled
returns-clause-enabled g c = λ _.
    read_follows g.P.PredicateFn.says g.X.Expiry.read g.L.Listener.tells g.C.Clock.reads c.args.self.now c.args.now.0 c.args.clock.now c.apply_reads_if_needed.new.clock c.self.view_is c.apply_reads_if_needed.ensures
    c.self.inside.inner refl (Miss c.args.hash) c.queue_read.new.self c.queue_read.ensures
