use Rattle.moka_laws.proofs.Admission.{admits_well}
use Rattle.moka_laws.proofs.laws.admits_well.Goals as goal

pub returns : goal.returns
returns g c = λ c weight hash victims. admits_well c weight hash victims
