-- So far all were taken.
use Rattle.std.proofs.Common.{◌≡◌, List, length}
use Rattle.std.specs.List.{AllByRecursion}
use Rattle.uuid.specs.declared.Uuid.{Uuid}
use Rattle.moka_parts.specs.Surroundings.{Leads}
use Rattle.moka_parts.specs.Registry.{IsTaken}
use Rattle.moka_parts.proofs.invalidator.Invalidator.free_id.Given as goal

abbrev pub invariant-loop : goal.invariant-loop
invariant-loop g l = (asked : List Uuid) × Leads g.I.IdSource.gives l.initial.ids asked l.ids × (length asked ≡ l.counter) × AllByRecursion (IsTaken l.self) asked
