use Rattle.std.proofs.Common.{◌≡◌, ◌≤◌, ◌-◌, ◌==◌, ℕ, ◌++◌, List, IfSome, option_map, slice_get}
use Rattle.std.specs.List.{IsDistinct}
use Rattle.moka_store.specs.Store.{IsOrdered}
use Rattle.moka_maintenance.specs.Scan.{IsWalked}
use Rattle.moka_maintenance.specs.Upkeep.{SetsNoTimer}
use Rattle.moka_maintenance.proofs.scan.scan_along.Given as goal

abbrev pub invariant-loop-passed : goal.invariant-loop-passed
invariant-loop-passed g l = record {
  walked : (before rest : List ℕ) → l.initial.store.written ≡ before ++ rest → option_map (λ h. h.number) l.initial.next ≡ slice_get rest 0
      → IsWalked g.L.Listener.tells g.P.PredicateFn.says l.invalidator l.initial.store l.store l.initial.notifier l.notifier before rest (option_map (λ h. h.number) l.next) l.looked l.passed;
  ordered : IfSome l.next (IsOrdered l.store);
  once : IsDistinct (◌==◌) l.store.written;
  most : l.passed ≤ l.reach.most;
  few : l.looked ≤ l.passed;
  batch : l.looked ≤ l.reach.batch;
  upkeep : SetsNoTimer l.initial.store l.store;
}

abbrev pub decreases-loop-passed : goal.decreases-loop-passed
decreases-loop-passed g l = l.reach.most - l.passed
