use Rattle.moka_timed_uses.proofs.shared.put_where_it_belongs.Goals as goal

pub returns-clause-belong : goal.returns-clause-belong
returns-clause-belong g c = c.calls_by_key_keep_keys.ensures.insert c.args.key c.args.now c.args.clock.now c.insert.new.clock c.args.value c.insert.result c.args.cache.now c.insert.new.self c.insert.ensures.step c.requires

pub returns-clause-apart : goal.returns-clause-apart
returns-clause-apart g c = c.one_segment_each.ensures c.insert.new.self (c.calls_by_key_keep_keys.ensures.insert c.args.key c.args.now c.args.clock.now c.insert.new.clock c.args.value c.insert.result c.args.cache.now c.insert.new.self c.insert.ensures.step c.requires)
