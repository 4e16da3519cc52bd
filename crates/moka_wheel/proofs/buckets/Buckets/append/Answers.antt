use Rattle.std.proofs.Common.{◌≡◌, length, arith, refl}
use Rattle.moka_wheel.proofs.Writes.{appended}
use Rattle.moka_wheel.proofs.buckets.Buckets.append.Goals as goal

pub returns-clause-placed : goal.returns-clause-placed
returns-clause-placed c =
    let e : c.len-slot.result ≡ length c.args.self.now.nodes.items = omega (arith, c.len-slot.ensures) in
    let home = rw (c.push_reserved.ensures.items, e) at c.place.ensures.home in
    rw (c.place.ensures.nodes, c.push_reserved.ensures.items, e, c.place.ensures.moment) (appended _ _ _ _ c.place.result _ c.requires.placed refl home c.place.ensures.marked c.place.ensures.others).placed

pub returns-clause-puts : goal.returns-clause-puts
returns-clause-puts c =
    let e : c.len-slot.result ≡ length c.args.self.now.nodes.items = omega (arith, c.len-slot.ensures) in
    let home = rw (c.push_reserved.ensures.items, e) at c.place.ensures.home in
    rw (c.place.ensures.nodes, c.push_reserved.ensures.items, e) (appended _ _ _ _ c.place.result _ c.requires.placed refl home c.place.ensures.marked c.place.ensures.others).puts
