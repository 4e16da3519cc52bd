use Rattle.std.proofs.Common.{◌≡◌, ◌==◌, ℕ, None, Option, take}
use Rattle.std.specs.FinMap as finite
use Rattle.std.specs.List.{IsDistinct}
use Rattle.moka_records.specs.Records.{counted_of, numbers_of, without_numbers}
use Rattle.moka_parts.specs.Writes.{left_with, without_victims}
use Rattle.moka_maintenance.specs.Choice.{AreSettled}
use Rattle.moka_maintenance.specs.Steps.{contents_in, Told}
use Rattle.moka_maintenance.specs.Upkeep.{SetsNoTimer}
use Rattle.moka_maintenance.proofs.choice.expel_front.Given as goal

abbrev pub invariant-loop-left : goal.invariant-loop-left
invariant-loop-left g l = record {
  settled : AreSettled (contents_in l.store) (take l.left l.store.access);
  once : IsDistinct (◌==◌) (numbers_of l.store.access);
  step : without_victims (take l.left l.store.access) (contents_in l.store) ≡ without_victims (take l.initial.left l.initial.store.access) (contents_in l.initial.store);
  written : without_numbers (take l.left l.store.access) l.store.written ≡ without_numbers (take l.initial.left l.initial.store.access) l.initial.store.written;
  told : (m : Option g.row.L.Denot) → Told g.L.Listener.tells l.notifier (left_with (take l.left l.store.access) l.store.records) m
      → Told g.L.Listener.tells l.initial.notifier (left_with (take l.initial.left l.initial.store.access) l.initial.store.records) m;
  others : (n : ℕ) → counted_of n l.initial.store.access ≡ None → (counted_of n l.store.access ≡ None) × (finite.get l.store.records n ≡ finite.get l.initial.store.records n) × (finite.get l.store.places n ≡ finite.get l.initial.store.places n);
  upkeep : SetsNoTimer l.initial.store l.store;
}

abbrev pub decreases-loop-left : goal.decreases-loop-left
decreases-loop-left g l = l.left
