use Rattle.moka_cache.proofs.Asking.{seen_value, seen_found}
use Rattle.moka_cache.proofs.cache.Cache.get.Goals as goal

pub returns-clause-step : goal.returns-clause-step
returns-clause-step g c =
    let e = c.get_hashed.ensures in
    record {
      made = e.made;
      value = seen_value g.K.PartialEq.eq g.P.PredicateFn.says g.V.Clone.is_clone c.args.self.now.engine.state c.args.key.now c.args.now.0 c.get_hashed.result e.sees;
      sees = e.sees;
      shown = e.shown;
      found = seen_found g.K.PartialEq.eq g.P.PredicateFn.says g.V.Clone.is_clone c.args.self.now.engine.state c.args.key.now c.args.now.0 c.get_hashed.result e.sees;
      unchanged = e.unchanged;
      counted = e.counted;
    }
