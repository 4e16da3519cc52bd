use Rattle.moka_laws.proofs.NewCache.{new_is_valid}
use Rattle.moka_laws.proofs.laws.starts_valid.Goals as goal

pub returns : goal.returns
returns g c = λ settings capacity now first_ticket. new_is_valid g.row.K.Denot g.row.V.Denot g.row.P.Denot settings capacity now first_ticket g.K.PartialEq.eq
