use Rattle.moka_engine.proofs.base_cache.BaseCache.do_insert_with_hash.Goals as goal

pub returns : goal.returns
returns g c = (let put = c.insert_hashed.ensures in (put.0, (c.requires.enabled, put.1), put.2, put.3))
