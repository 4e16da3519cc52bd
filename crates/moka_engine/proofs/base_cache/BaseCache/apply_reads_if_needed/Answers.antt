use Rattle.std.proofs.Common.{ap, sym, ◌∙◌, length}
use Rattle.moka_parts.specs.Housekeeping.{is_due}
use Rattle.moka_engine.proofs.KeeperSteps.{nothing_due}
use Rattle.moka_engine.proofs.base_cache.BaseCache.apply_reads_if_needed.Goals as goal

pub returns-else-should_apply_reads : goal.returns-else-should_apply_reads
returns-else-should_apply_reads g c =
    let due = ap (λ n. is_due c.self.inside.housekeeper.housekeeping n c.args.now.0) (sym c.read_count-queued.ensures) ∙ sym c.should_apply_reads.ensures ∙ c.if-should_apply_reads.false in
    nothing_due g.P.PredicateFn.says g.X.Expiry.read g.L.Listener.tells g.C.Clock.reads c.self.view_is (λ s. length s.reads) c.args.now.0 c.args.clock.now due
