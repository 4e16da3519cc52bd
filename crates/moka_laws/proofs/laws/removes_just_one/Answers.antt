use Rattle.moka_parts.proofs.Removals.{removes_just_one}
use Rattle.moka_laws.proofs.laws.removes_just_one.Goals as goal

pub returns : goal.returns
returns g c = λ s. removes_just_one g.K.PartialEq.eq s
