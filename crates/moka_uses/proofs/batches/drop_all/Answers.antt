use Rattle.moka_uses.proofs.Batched.{stopped_at}
use Rattle.moka_uses.proofs.batches.drop_all.Goals as goal

pub returns-clause-stopped : goal.returns-clause-stopped
returns-clause-stopped g c = stopped_at _ _ c.args.now c.args.cache.now.engine c.invalidate_many.new.self.engine c.args.clock.now c.invalidate_many.new.clock c.args.keys.now c.invalidate_many.result c.invalidate_many.ensures.made
