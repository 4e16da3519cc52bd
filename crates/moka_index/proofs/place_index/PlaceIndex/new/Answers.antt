use Rattle.std.proofs.Common.{ℕ, List, ap, sym, subst, ◌∙◌, arith}
use Rattle.std.specs.FinMap.{len-empty}
use Rattle.std.specs.Ordering.{nat_cmp}
use Rattle.std.specs.FinMap as finite
use Rattle.moka_index.specs.declared.group.Group.{Group}
use Rattle.moka_index.specs.Groups.{entries_of, IsPlaceIndex}
use Rattle.moka_index.proofs.Moves.{blank-groups, blank-entries, blank-tight}
use Rattle.moka_index.proofs.place_index.PlaceIndex.new.Goals as goal

pub invariant_of-result : goal.invariant_of-result
invariant_of-result c =
    subst (λ (x : List Group). IsPlaceIndex x 0) (sym c.new.ensures.items)
    (record { groups_are = blank-groups 0 (omega arith); counted = sym (ap finite.len (blank-entries 0) ∙ len-empty nat_cmp ℕ); fits = omega arith; tight = blank-tight 0 })

pub returns-clause-entries : goal.returns-clause-entries
returns-clause-entries c = ap entries_of c.new.ensures.items ∙ blank-entries 0
