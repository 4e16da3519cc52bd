use Rattle.std.proofs.Common.{ap, max, ◌≡◌}
use Rattle.moka_router.specs.Routing.{Routing}
use Rattle.moka_segments.proofs.NewSegments.{new_by_its_own}
use Rattle.moka_segments.proofs.building.SegmentedCache+K+V+X+L+P+W.build.Goals as goal

pub returns-clause-new : goal.returns-clause-new
returns-clause-new g c = new_by_its_own c.new-router.result c.args.max_capacity (λ a b. b.initial ≡ a.initial) c.args.now.0 (λ index config. goal.F-post g c.args.make index config) c.in_ok-cache.cache (max c.args.count 1) (ap (λ (r : Routing _). r.count) c.new-router.ensures) c.in_ok-cache.ensures.new
