use Rattle.std.proofs.Common.{◌≡◌, ◌+◌, ◌-◌, ◌*◌, ◌^◌, ◌<◌, IfSome, IsSome, option_map}
use Rattle.moka_records.specs.Records.{counted_of, member}
use Rattle.moka_store.specs.Store.{IsPlaced}
use Rattle.moka_maintenance.specs.Steps.{contents_with}
use Rattle.moka_maintenance.proofs.Walking.{Walks}
use Rattle.moka_maintenance.proofs.choice.choose.Given as goal

abbrev pub invariant-loop-weights : goal.invariant-loop-weights
invariant-loop-weights g l = record {
  walks : Walks (contents_with l.sketch l.initial.store) l.weight l.fn.hash l.store.access (option_map (λ f. member f.0.number f.1) l.next) l.victims l.weights l.frequencies l.unsettled l.ahead;
  placed : IfSome l.next (λ f. IsPlaced l.store f.0);
  member : IfSome l.next (λ f. IsSome (counted_of f.0.number l.store.access));
  rest : l.store ≡ record l.initial.store { access = l.store.access };
  few : l.victims + l.ahead < 2 ^ 32;
}

abbrev pub decreases-loop-weights : goal.decreases-loop-weights
decreases-loop-weights g l = 7 * l.ahead + (6 - l.unsettled)
