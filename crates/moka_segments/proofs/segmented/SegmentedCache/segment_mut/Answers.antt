use Rattle.std.proofs.Common.{refl, ◌∙◌, length-set}
use Rattle.moka_router.proofs.AtIndex.{is_at}
use Rattle.moka_segments.proofs.segmented.SegmentedCache.segment_mut.Goals as goal

pub invariant_of-self-lent : goal.invariant_of-self-lent
invariant_of-self-lent g c = λ written. length-set c.self.inside.segments.items c.args.index written ∙ c.self.invariant

pub returns : goal.returns
returns g c =
    let within = rw (← c.self.view_is) at c.requires in
    rw (← c.self.view_is) ((refl, λ written. refl), record { lends = tt; is = is_at c.self.inside.segments.items c.args.index c.index_mut.result.now within c.index_mut.ensures.value })
