use Rattle.std.proofs.Common.{arith}
use Rattle.moka_wheel.proofs.Bits.{on-same, on-other}
use Rattle.moka_wheel.proofs.levels.mark.Goals as goal

pub returns-clause-here : goal.returns-clause-here
returns-clause-here c = on-same _ c.args.bucket (omega arith)

pub returns-clause-others : goal.returns-clause-others
returns-clause-others c k ne = on-other _ c.args.bucket k (omega arith) ne
