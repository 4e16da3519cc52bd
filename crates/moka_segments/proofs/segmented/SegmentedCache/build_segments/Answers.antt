use Rattle.std.proofs.Common.{◌<◌, [], ◌∷◌, subst, ap, length, length-append, arith}
use Rattle.moka_segments.proofs.NewSegments.{at_end, none_built, more_built, is_new}
use Rattle.moka_segments.proofs.segmented.SegmentedCache.build_segments.Goals as goal

pub loop-index-init : goal.loop-index-init
loop-index-init g c = record {
  as_many = ap length c.new-segments.ensures.items;
  built = none_built c.args.router.now c.args.max_capacity g.S.Clone.is_clone c.args.now.0 (λ index config. goal.F-post g c.args.make.now index config) c.new-segments.result.items c.new-segments.ensures.items;
}

pub make-requires : goal.make-requires
make-requires g c = c.requires c.loop-index.index (subst (λ n. c.loop-index.index < n) c.count-index-end.ensures.same (omega (arith, c.loop-index-test.true)))

pub loop-index-preserved : goal.loop-index-preserved
loop-index-preserved g c = record {
  as_many = omega (arith, ap length c.in-Ok.ensures.items, length-append c.loop-index.segments.items (c.in_ok-segment.segment ∷ []), c.loop-index.invariant.as_many);
  built = more_built c.args.router.now c.args.max_capacity g.S.Clone.is_clone c.args.now.0 (λ index config. goal.F-post g c.args.make.now index config) c.loop-index.segments.items c.push.new.self.items c.in_ok-segment.segment c.loop-index.index c.make.result c.loop-index.invariant.built c.loop-index.invariant.as_many c.in-Ok.ensures.items c.make.ensures (rw c.with_share-config.ensures at c.in_ok-segment.ensures);
}

pub returns : goal.returns
returns g c =
    let as_many = at_end (length c.loop-index.segments.items) c.loop-index.index c.count-index-end.result c.args.router.now.count c.loop-index.invariant.as_many c.loop-index-test.false c.loop-index.auto.index-end c.count-index-end.ensures.same in
    let some : 0 < c.args.router.now.count = subst (λ n. 0 < n) c.count-index-end.ensures.same c.count-index-end.ensures.some in
    is_new c.args.router.now c.args.max_capacity g.S.Clone.is_clone c.args.now.0 (λ index config. goal.F-post g c.args.make.now index config) c.loop-index.segments.items some as_many c.loop-index.invariant.built
