use Rattle.std.proofs.Common.{rules}
use Rattle.moka_parts.proofs.stats.Stats.count_look_up.Goals as goal

pub returns-in-Ok-Some : goal.returns-in-Ok-Some
returns-in-Ok-Some g c = search rules
