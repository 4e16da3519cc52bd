use Rattle.moka_cache.proofs.ByTest.{contained_as_key}
use Rattle.moka_cache.proofs.cache.Cache.contains_key_by.Goals as goal

pub returns-clause-as_key : goal.returns-clause-as_key
returns-clause-as_key g c =
    rw (← c.self.view_is) (contained_as_key g.K.PartialEq.eq (g.T.KeyTest.passes c.args.test.now) (g.met.T.KeyTest.one_key c.args.test.now) c.self.inside.engine.state g.P.PredicateFn.says c.args.now.0 _ c.contains_by.ensures)
