use Rattle.moka_wheel.proofs.Walk.{Walk}
use Rattle.moka_wheel.proofs.buckets.Buckets.overdue.Given as goal

abbrev pub invariant-loop : goal.invariant-loop
invariant-loop l = Walk l.self.nodes.items l.now l.slot l.counter
