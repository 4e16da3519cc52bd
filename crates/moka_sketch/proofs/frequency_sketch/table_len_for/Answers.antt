use Rattle.std.proofs.Common.{arith}
use Rattle.moka_sketch.proofs.Lengths.{least_power, table_length_for-power}
use Rattle.moka_sketch.proofs.frequency_sketch.table_len_for.Goals as goal

pub returns-clause-value : goal.returns-clause-value
returns-clause-value c =
    table_length_for-power c.args.size _ c.next_power_of_two.ensures.power (omega arith) (omega arith)

pub returns-clause-least : goal.returns-clause-least
returns-clause-least c k l = least_power _ _ k c.next_power_of_two.ensures.power (omega arith) l

pub returns-clause-within : goal.returns-clause-within
returns-clause-within c =
    let top = least_power _ _ 30 c.next_power_of_two.ensures.power c.next_power_of_two.ensures.upper_bound (omega arith) in
    (omega arith, omega arith)
