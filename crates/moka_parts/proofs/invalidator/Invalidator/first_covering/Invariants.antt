-- So far none covers the record.
use Rattle.std.specs.List.{AllWithin}
use Rattle.moka_parts.specs.Visibility.{Covers}
use Rattle.moka_parts.proofs.invalidator.Invalidator.first_covering.Given as goal

abbrev pub invariant-loop-registered : goal.invariant-loop-registered
invariant-loop-registered g l = AllWithin (λ p. Covers g.P.PredicateFn.says p l.entry → ⊥) l.self 0 l.registered-index
