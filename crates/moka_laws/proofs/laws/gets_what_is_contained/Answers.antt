use Rattle.moka_laws.proofs.Contained.{gets_what_is_contained}
use Rattle.moka_parts.specs.Runs.{PromisedRun}
use Rattle.moka_parts.specs.Listed.{ListedRun}
use Rattle.moka_laws.proofs.laws.gets_what_is_contained.Goals as goal

pub returns-clause-promised : goal.returns-clause-promised
returns-clause-promised g c = gets_what_is_contained g.P.PredicateFn.says g.X.Expiry.read (PromisedRun g.P.PredicateFn.says g.X.Expiry.read) g.K.PartialEq.eq

pub returns-clause-listed : goal.returns-clause-listed
returns-clause-listed g c = λ before after. gets_what_is_contained g.P.PredicateFn.says g.X.Expiry.read (ListedRun g.P.PredicateFn.says g.X.Expiry.read before after) g.K.PartialEq.eq
