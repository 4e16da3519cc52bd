use Rattle.std.proofs.Common.{refl}
use Rattle.moka_router.proofs.AtIndex.{is_at}
use Rattle.moka_router.proofs.router.select_mut.Goals as goal

pub returns : goal.returns
returns g c = rw (← c.segment_of-index.ensures.place) ((refl, λ written. refl), record { lends = tt; is = is_at c.args.segments.now.items c.segment_of-index.result c.index_mut.result.now (rw c.requires.as_many c.segment_of-index.ensures.within) c.index_mut.ensures.value })
