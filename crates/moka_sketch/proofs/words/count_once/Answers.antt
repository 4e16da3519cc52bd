use Rattle.std.proofs.Common.{arith, rules, sym, ◌∙◌}
use Rattle.moka_sketch.proofs.Counters.{counted_once-kept, power_pos}
use Rattle.moka_sketch.proofs.words.count_once.Goals as goal

pub returns-then-not-raise_all-clause-table : goal.returns-then-not-raise_all-clause-table
returns-then-not-raise_all-clause-table c =
    counted_once-kept _ _ c.args.size c.args.hash (power_pos _ c.requires.power) (c.raise_all.ensures.kept c.if-not-raise_all.true) (sym c.raise_all.ensures.rose ∙ c.if-not-raise_all.true)

pub returns-then-size-length-clause-table : goal.returns-then-size-length-clause-table
returns-then-size-length-clause-table c = search rules

pub returns-else-size-length-clause-table : goal.returns-else-size-length-clause-table
returns-else-size-length-clause-table c = search rules

pub returns-else-size-length-clause-size_below : goal.returns-else-size-length-clause-size_below
returns-else-size-length-clause-size_below c = omega (arith, c.requires.below)
