use Rattle.std.proofs.Common.{ap, ◌∙◌}
use Rattle.std.specs.FinMap as map
use Rattle.std.specs.Ordering.{nat_cmp}
use Rattle.moka_structures.proofs.outstanding.Outstanding.new.Goals as goal

pub returns-clause-gets : goal.returns-clause-gets
returns-clause-gets g c q = ap (λ m. map.get m q) c.in_ok-new.ensures.items ∙ map.get-empty nat_cmp q

pub returns-clause-len : goal.returns-clause-len
returns-clause-len g c = ap map.len c.in_ok-new.ensures.items ∙ map.len-empty nat_cmp _
