use Rattle.moka_inner.proofs.ValuesLemmas.{keys-map_values}
use Rattle.moka_inner.proofs.inner.Inner.oldest_outstanding.Goals as goal

pub returns-in_err-ticket : goal.returns-in_err-ticket
returns-in_err-ticket g c = rw (c.from_residual.ensures, ← c.self.view_is, keys-map_values) c.in_err-ticket.ensures.first

pub returns : goal.returns
returns g c = rw (← c.self.view_is, keys-map_values) c.in_ok-ticket.ensures.first
