use Rattle.std.proofs.Common.{◌≤◌, ◌-◌}
use Rattle.moka_links.specs.Links.{KeepsCapacity}
use Rattle.moka_wheel.specs.Buckets.{AreBuckets, Keeps}
use Rattle.moka_wheel.proofs.buckets.Buckets.due.Given as goal

abbrev pub invariant-loop-self : goal.invariant-loop-self
invariant-loop-self l = record {
  placed : AreBuckets l.self 2048;
  keeps : Keeps l.initial.self.nodes.items l.self.nodes.items;
  capacity : KeepsCapacity l.initial.self.nodes l.self.nodes;
  forward : l.initial.self.moment ≤ l.self.moment;
  late : l.self.moment ≤ l.now;
}

abbrev pub decreases-loop-self : goal.decreases-loop-self
decreases-loop-self l = l.now - l.self.moment
