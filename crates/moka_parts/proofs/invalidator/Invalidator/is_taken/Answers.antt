-- A search by identifier.
use Rattle.std.proofs.Common.{◌≡◌, rules}
use borrow.Author.Tests.{tests}
use Rattle.std.proofs.lemmas.Iterator.{cases_from_any, YieldsList-from_slice}
use Rattle.moka_parts.proofs.Registry.{taken_by_search}
use Rattle.moka_parts.proofs.invalidator.Invalidator.is_taken.Goals as goal

pub returns : goal.returns
returns g c = taken_by_search c.args.self.now c.args.id c.any.result
    (cases_from_any _ _ _ (λ p. p.id ≡ c.args.id) (λ p. p.id ≡ c.args.id → ⊥) c.any.ensures.ran (YieldsList-from_slice c.args.self.now cc) (λ x q k. search (rules, tests)) (λ x q k. search (rules, tests)))
