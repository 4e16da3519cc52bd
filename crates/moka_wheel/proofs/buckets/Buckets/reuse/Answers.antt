use Rattle.std.proofs.Common.{arith, refl}
use Rattle.moka_wheel.proofs.Writes.{reused}
use Rattle.moka_wheel.proofs.buckets.Buckets.reuse.Goals as goal

pub returns-clause-placed : goal.returns-clause-placed
returns-clause-placed c =
    rw (c.place.ensures.nodes, c.place.ensures.moment) (reused _ _ _ _ _ c.place.result _ c.requires.placed c.requires.past (omega (arith, c.requires.within)) c.requires.free refl c.place.ensures.home c.place.ensures.marked c.place.ensures.others).placed

pub returns-clause-puts : goal.returns-clause-puts
returns-clause-puts c =
    rw (c.place.ensures.nodes) (reused _ _ _ _ _ c.place.result _ c.requires.placed c.requires.past (omega (arith, c.requires.within)) c.requires.free refl c.place.ensures.home c.place.ensures.marked c.place.ensures.others).puts
