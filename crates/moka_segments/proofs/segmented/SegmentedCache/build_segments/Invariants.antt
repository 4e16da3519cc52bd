use Rattle.std.proofs.Common.{◌≡◌, length}
use Rattle.moka_segments.specs.Built.{AreBuilt}
use Rattle.moka_segments.proofs.segmented.SegmentedCache.build_segments.Given as goal

abbrev pub invariant-loop-index : goal.invariant-loop-index
invariant-loop-index g l = record {
  as_many : length l.segments.items ≡ l.index;
  built : AreBuilt l.router l.max_capacity g.S.Clone.is_clone l.now.0 (λ index config. goal.F-post g l.make index config) l.segments.items;
}
