use Rattle.moka_uses.proofs.Batched.{rest_back}
use Rattle.moka_uses.proofs.batches.load.Goals as goal

pub returns-clause-back : goal.returns-clause-back
returns-clause-back g c = rest_back _ _ c.args.now c.args.cache.now.engine c.insert_many.new.self.engine c.args.clock.now c.insert_many.new.clock c.args.rows.items c.insert_many.result c.insert_many.ensures.made
