use Rattle.std.proofs.Common.{arith}
use Rattle.std.proofs.lemmas.Grind.{common_steps}
use Rattle.moka_sketch.proofs.words.least_count.Goals as goal

pub returns : goal.returns
returns c = grind (arith, common_steps)
