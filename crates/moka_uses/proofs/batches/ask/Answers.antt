use Rattle.moka_uses.proofs.Batched.{one_answer_each}
use Rattle.moka_uses.proofs.batches.ask.Goals as goal

pub returns-clause-each : goal.returns-clause-each
returns-clause-each g c = one_answer_each _ _ c.args.now c.args.cache.now.engine c.get_many.new.self.engine c.args.clock.now c.get_many.new.clock g.V.Clone.is_clone c.args.keys.now c.get_many.result c.get_many.ensures.made
