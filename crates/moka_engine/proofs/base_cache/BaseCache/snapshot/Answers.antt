use Rattle.moka_engine.proofs.base_cache.BaseCache.snapshot.Goals as goal

pub returns : goal.returns
returns g c =
    let m = c.moments.ensures in
    rw (← c.self.view_is) (rw (c.store.ensures, m.policy, m.valid_after, m.now, ← c.self.view_is) at c.new.ensures)
