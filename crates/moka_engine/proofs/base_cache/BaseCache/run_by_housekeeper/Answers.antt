use Rattle.moka_engine.proofs.KeeperSteps.{keeper_keeps, keeper_runs}
use Rattle.moka_engine.proofs.base_cache.BaseCache.run_by_housekeeper.Goals as goal

pub invariant_of-self : goal.invariant_of-self
invariant_of-self g c = keeper_keeps g.P.PredicateFn.says g.X.Expiry.read g.L.Listener.tells g.C.Clock.reads c.self.view_is c.copied-housekeeper.ensures c.args.now.0 c.run_pending_tasks.ensures c.self-2.view_is c.self-2.invariant

pub returns-clause-step : goal.returns-clause-step
returns-clause-step g c = keeper_runs g.P.PredicateFn.says g.X.Expiry.read g.L.Listener.tells g.C.Clock.reads c.self.view_is c.copied-housekeeper.ensures c.args.now.0 c.run_pending_tasks.ensures c.self-2.view_is

pub returns-clause-valid : goal.returns-clause-valid
returns-clause-valid g c = rw (← c.self.view_is) c.self.invariant.cache.valid
