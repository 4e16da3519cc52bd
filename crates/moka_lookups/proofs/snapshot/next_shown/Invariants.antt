use Rattle.std.proofs.Common.{IfSome, length, option_map}
use Rattle.moka_lookups.specs.Snapshot.{scene_at, members_from, StandsIn}
use Rattle.moka_lookups.proofs.Passing.{PassesTo}
use Rattle.moka_lookups.proofs.snapshot.next_shown.Given as goal

abbrev pub invariant-loop-at : goal.invariant-loop-at
invariant-loop-at g l = record {
  stands : IfSome l.at (StandsIn l.store);
  passes : PassesTo g.P.PredicateFn.says (scene_at l.store l.moments.policy.now l.moments.valid_after.now l.invalidator l.moments.now.0 l.fn.at) (members_from (option_map (λ h. h.number) l.at) l.store.access);
}

abbrev pub decreases-loop-at : goal.decreases-loop-at
decreases-loop-at g l = length (members_from (option_map (λ h. h.number) l.at) l.store.access)
