use Rattle.std.proofs.Common.{ap, ◌∙◌}
use Rattle.moka_segments.proofs.segmented.SegmentedCache.policy.Goals as goal

pub returns : goal.returns
returns g c =
    let live = c.time_to_live.ensures ∙ ap (λ p. p.time_to_live) c.policy-first.ensures in
    let idle = c.time_to_idle.ensures ∙ ap (λ p. p.time_to_idle) c.policy-first.ensures in
    record { one = c.first.result.now; there = c.first.ensures; is = c.new.ensures ∙ (λ i. record { max_capacity = c.max_capacity.ensures i; time_to_live = live i; time_to_idle = idle i }) }
