use Rattle.std.proofs.Common.{arith}
use Rattle.moka_sketch.proofs.Counters.{counters_of-halved}
use Rattle.moka_sketch.proofs.words.halve_all.Goals as goal

pub returns : goal.returns
returns c =
    counters_of-halved _ _ c.loop-word.invariant.same_length (λ i q l m. c.loop-word.invariant.done i q (omega (arith, c.loop-word.invariant.same_length)) m)
