use Rattle.std.proofs.Common.{refl, ap, length, length-set, ◌∙◌}
use Rattle.moka_segments.proofs.segmented.SegmentedCache.insert.Goals as goal

pub insert_into_own-requires : goal.insert_into_own-requires
insert_into_own-requires g c = record { as_many = c.self.invariant }

pub invariant_of-self : goal.invariant_of-self
invariant_of-self g c =
    let step = c.insert_into_own.ensures.step in
    ap length step.others ∙ (length-set c.self.inside.segments.items _ step.after ∙ c.self.invariant)

pub returns-clause-step : goal.returns-clause-step
returns-clause-step g c = rw (← c.self.view_is) (record { routing = refl; one = c.insert_into_own.ensures.step })
