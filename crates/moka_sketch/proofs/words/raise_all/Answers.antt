use Rattle.std.proofs.Common.{arith}
use Rattle.moka_sketch.proofs.words.raise_all.Goals as goal

pub raise-second-requires-clause-power : goal.raise-second-requires-clause-power
raise-second-requires-clause-power c = rw (c.raise-first.auto.words) c.requires

pub raise-third-requires-clause-power : goal.raise-third-requires-clause-power
raise-third-requires-clause-power c = rw (c.raise-second.auto.words, c.raise-first.auto.words) c.requires

pub raise-fourth-requires-clause-power : goal.raise-fourth-requires-clause-power
raise-fourth-requires-clause-power c = rw (c.raise-third.auto.words, c.raise-second.auto.words, c.raise-first.auto.words) c.requires

pub returns-then-third-clause-counters : goal.returns-then-third-clause-counters
returns-then-third-clause-counters c = rw (
  c.raise-fourth.ensures.counters,
  c.raise-third.ensures.counters,
  c.raise-second.ensures.counters,
  c.raise-first.ensures.counters,
  c.raise-third.auto.words,
  c.raise-second.auto.words,
  c.raise-first.auto.words,
)

pub returns-else-third-clause-counters : goal.returns-else-third-clause-counters
returns-else-third-clause-counters c = rw (
  c.raise-fourth.ensures.counters,
  c.raise-third.ensures.counters,
  c.raise-second.ensures.counters,
  c.raise-first.ensures.counters,
  c.raise-third.auto.words,
  c.raise-second.auto.words,
  c.raise-first.auto.words,
)

-- `search` fails here at length, and is tried first where there is no answer
pub returns-then-third-clause-rose : goal.returns-then-third-clause-rose
returns-then-third-clause-rose c = grind arith

pub returns-else-third-clause-rose : goal.returns-else-third-clause-rose
returns-else-third-clause-rose c = grind arith
