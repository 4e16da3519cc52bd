use Rattle.moka_cache.proofs.cache.Cache.take.Goals as goal

pub returns-clause-made : goal.returns-clause-made
returns-clause-made g c = rw (← c.requires.own) (c.take_by.ensures.made c.args.key.now (g.met.K.Eq.laws.refl c.args.key.now))

pub returns-clause-gone : goal.returns-clause-gone
returns-clause-gone g c = c.take_by.ensures.gone c.args.key.now (g.met.K.Eq.laws.refl c.args.key.now)

pub returns-clause-value : goal.returns-clause-value
returns-clause-value g c = c.take_by.ensures.value c.args.key.now (g.met.K.Eq.laws.refl c.args.key.now)

pub returns-clause-notified : goal.returns-clause-notified
returns-clause-notified g c = c.take_by.ensures.notified
