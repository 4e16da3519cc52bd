use Rattle.std.proofs.Common.{◌≡◌}
use Rattle.moka_links.specs.Links.{KeepsCapacity}
use Rattle.moka_wheel.specs.Buckets.{AreBuckets, Keeps}
use Rattle.moka_wheel.proofs.Turns.{count}
use Rattle.moka_wheel.proofs.buckets.Buckets.spread.Given as goal

abbrev pub invariant-loop-self : goal.invariant-loop-self
invariant-loop-self l = record {
  placed : AreBuckets l.self l.bucket;
  keeps : Keeps l.initial.self.nodes.items l.self.nodes.items;
  moment : l.self.moment ≡ l.initial.self.moment;
  capacity : KeepsCapacity l.initial.self.nodes l.self.nodes;
}

abbrev pub decreases-loop-self : goal.decreases-loop-self
decreases-loop-self l = count l.bucket l.self.nodes.items
