use Rattle.moka_records.specs.KeyTests.{record_by}
use Rattle.moka_engine.proofs.PeekSteps.{shows}
use Rattle.moka_engine.proofs.base_cache.BaseCache.contains_hashed.Goals as goal

pub returns : goal.returns
returns g c =
    let m = c.moments-moments.ensures in
    let found = rw (c.store.ensures, m.policy, m.valid_after, m.now, ← c.self.view_is) at c.find_shown.ensures in
    rw c.is_some.ensures (shows g.P.PredicateFn.says c.self.view_is c.self.inside.inner.kept (record_by (g.T.KeyTest.passes c.args.test.now)) c.args.now.0 c.find_shown.result found)
