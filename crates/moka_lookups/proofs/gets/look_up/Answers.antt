use Rattle.moka_lookups.proofs.gets.look_up.Goals as goal

pub returns-in-Ok : goal.returns-in-Ok
returns-in-Ok g c = (let at = c.in-Some.ensures in (at.0, at.1, (c.in-Some.found, at.2, c.in-Ok.ensures)))

pub returns-in-Err : goal.returns-in-Err
returns-in-Err g c = (let at = c.in-Some.ensures in (at.0, at.1, (c.in-Some.handle, c.in-Some.found, at.2, c.in-Err.ensures)))
