use Rattle.std.proofs.Common.{refl}
use Rattle.moka_cache.proofs.Membership.{run_leaves_members}
use Rattle.moka_cache.proofs.Posting.{run_made}
use Rattle.moka_cache.proofs.cache.Cache.run_pending_tasks.Goals as goal

pub returns-clause-made : goal.returns-clause-made
returns-clause-made g c =
    let run = c.run_pending_tasks-more.ensures.step in
    rw (← c.self.view_is) (_, _, (refl, refl), run_made _ c.self.inside.engine c.run_pending_tasks-more.new.self c.args.clock.now c.run_pending_tasks-more.new.clock c.args.now _ c.run_pending_tasks-more.result run.0 run.1 refl run.2 run.3)

pub returns-clause-members : goal.returns-clause-members
returns-clause-members g c =
    let run = c.run_pending_tasks-more.ensures.step in
    run_leaves_members g.K.PartialEq.eq g.P.PredicateFn.says g.X.Expiry.read c.self.inside.engine.write_list c.run_pending_tasks-more.new.self.write_list c.self.inside.engine.state c.run_pending_tasks-more.new.self.state _ c.run_pending_tasks-more.result run.0 c.self.invariant run.1 c.invariant_holds.ensures.valid
