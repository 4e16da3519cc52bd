use Rattle.std.proofs.Common.{IfSome, IsSome, nat_eq}
use Rattle.std.specs.Map.{lookup}
use Rattle.moka_store.proofs.store.Store.first_rows.Given as goal

-- the next member is in the list
abbrev pub invariant-loop : goal.invariant-loop
invariant-loop g l = IfSome l.next (λ m. IsSome (lookup (nat_eq m.0) l.self-inside.access.members))
