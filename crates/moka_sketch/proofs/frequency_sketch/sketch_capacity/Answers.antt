use Rattle.std.proofs.Common.{arith}
use Rattle.moka_sketch.proofs.Lengths.{table_length_for-same}
use Rattle.moka_sketch.proofs.frequency_sketch.sketch_capacity.Goals as goal

pub returns-clause-same_table : goal.returns-clause-same_table
returns-clause-same_table c = table_length_for-same _ _ (omega arith)
