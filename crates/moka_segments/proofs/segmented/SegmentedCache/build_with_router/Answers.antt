use Rattle.moka_segments.proofs.Keys.{new_holds_none}
use Rattle.moka_segments.proofs.segmented.SegmentedCache.build_with_router.Goals as goal

pub invariant_of-result : goal.invariant_of-result
invariant_of-result g c = c.in_ok-segments.ensures.as_many

pub returns : goal.returns
returns g c = record {
  new = c.in_ok-segments.ensures;
  empty = new_holds_none c.args.router c.args.max_capacity g.S.Clone.is_clone c.args.now.0 (λ index config. goal.F-post g c.args.make index config) _ c.in_ok-segments.ensures;
}
