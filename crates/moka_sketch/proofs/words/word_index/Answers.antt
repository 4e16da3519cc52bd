use Rattle.moka_sketch.proofs.Counters.{and_power}
use Rattle.moka_sketch.proofs.words.word_index.Goals as goal

pub returns-clause-value : goal.returns-clause-value
returns-clause-value c = and_power _ _ c.requires
