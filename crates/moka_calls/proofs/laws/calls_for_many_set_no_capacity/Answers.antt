use Rattle.moka_calls.proofs.Limits.{many_set_none}
use Rattle.moka_calls.proofs.laws.calls_for_many_set_no_capacity.Goals as goal

pub returns : goal.returns
returns g c = many_set_none g.row.K.Denot g.row.V.Denot g.row.P.Denot g.V.Clone.is_clone
