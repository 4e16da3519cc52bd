use Rattle.std.proofs.Common.{arith}
use Rattle.moka_wheel.proofs.Parts.{home-level, home-is}
use Rattle.moka_wheel.proofs.levels.home.Goals as goal

pub overflow_sub-level : goal.overflow_sub-level
overflow_sub-level c = home-level c.args.moment c.args.at (omega arith) (omega arith)

pub returns : goal.returns
returns c = home-is c.args.moment c.args.at (omega arith) (omega arith)
