use Rattle.std.proofs.Common.{◌∙◌}
use Rattle.moka_store.proofs.store.Store.record_count.Goals as goal

pub returns : goal.returns
returns g c = rw (← c.self.view_is) (c.len.ensures ∙ c.self.invariant.keyed)
