use Rattle.std.proofs.Common.{arith}
use Rattle.moka_wheel.proofs.Bits.{off-same, off-other}
use Rattle.moka_wheel.proofs.levels.unmark.Goals as goal

pub returns-clause-here : goal.returns-clause-here
returns-clause-here c = off-same _ c.args.bucket (omega arith)

pub returns-clause-others : goal.returns-clause-others
returns-clause-others c k ne = off-other _ c.args.bucket k (omega arith) ne
