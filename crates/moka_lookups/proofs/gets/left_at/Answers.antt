use Rattle.std.proofs.Common.{refl, ◌∙◌}
use Rattle.moka_lookups.proofs.gets.left_at.Goals as goal

pub returns : goal.returns
returns g c = c.remaining.ensures ∙ rw (c.time_to_live-live.ensures, c.time_to_idle-idle.ensures, c.expires.ensures, c.written.ensures, c.read.ensures) refl
