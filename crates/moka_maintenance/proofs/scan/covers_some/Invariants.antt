use Rattle.std.proofs.Common.{◌≡◌, ◌<◌, ℕ, Some, slice_get}
use Rattle.std.specs.FinMap as finite
use Rattle.moka_records.specs.declared.records.Record.{Record}
use Rattle.moka_parts.specs.declared.records.Registered.{Registered}
use Rattle.moka_parts.specs.Visibility.{Covers}
use Rattle.moka_maintenance.proofs.scan.covers_some.Given as goal

-- the predicate covers no record at the places that were looked at
abbrev pub invariant-loop-place : goal.invariant-loop-place
invariant-loop-place g l = (p : Registered g.row.P.Denot) → slice_get l.invalidator l.index ≡ Some p →
    (n at : ℕ) (r : Record g.row.K.Denot g.row.V.Denot) → finite.get l.store.places n ≡ Some at → at < l.place → finite.get l.store.records n ≡ Some r → Covers g.P.PredicateFn.says p r → ⊥
