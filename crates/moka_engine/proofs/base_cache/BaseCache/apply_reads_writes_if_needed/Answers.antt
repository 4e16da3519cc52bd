use Rattle.std.proofs.Common.{ap, sym, ◌∙◌, length}
use Rattle.moka_parts.specs.Housekeeping.{is_due}
use Rattle.moka_engine.proofs.KeeperSteps.{nothing_due}
use Rattle.moka_engine.proofs.base_cache.BaseCache.apply_reads_writes_if_needed.Goals as goal

pub returns-else-should_apply_writes : goal.returns-else-should_apply_writes
returns-else-should_apply_writes g c =
    let due = ap (λ n. is_due c.self.inside.housekeeper.housekeeping n c.args.now.0) (sym c.write_count-queued.ensures) ∙ sym c.should_apply_writes.ensures ∙ c.if-should_apply_writes.false in
    nothing_due g.P.PredicateFn.says g.X.Expiry.read g.L.Listener.tells g.C.Clock.reads c.self.view_is (λ s. length s.writes) c.args.now.0 c.args.clock.now due
