use Rattle.moka_inner.proofs.ValuesLemmas.{len-map_values}
use Rattle.moka_inner.proofs.inner.Inner.outstanding_count.Goals as goal

pub returns : goal.returns
returns g c = rw (← c.self.view_is, len-map_values) c.len.ensures
