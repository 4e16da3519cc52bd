use Rattle.moka_lookups.proofs.gets.look_at.Goals as goal

pub returns-in_default-clone : goal.returns-in_default-clone
returns-in_default-clone g c = (let at = c.in-Some.ensures in (at.0, at.1, (c.in-Some.handle, c.in-Some.found, at.2, rw c.value.ensures at c.in_default-clone.ensures.cases)))

pub returns : goal.returns
returns g c = (let at = c.in-Some.ensures in (at.0, at.1, (c.in-Some.found, at.2, (rw c.value.ensures at c.in-Ok.ensures.cases, c.hit_of-hit.ensures))))
