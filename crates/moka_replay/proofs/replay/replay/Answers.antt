use Rattle.std.proofs.Common.{inl, refl}
use Rattle.moka_replay.proofs.replay.replay.Goals as goal

pub returns-in-Ok : goal.returns-in-Ok
returns-in-Ok g c = (c.in-Ok.ensures.0, c.in-Ok.ensures.1, inl (c.in-Ok.played, c.in-Ok.ensures.2, c.print.ensures, refl))
