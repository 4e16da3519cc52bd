use Rattle.moka_uses.proofs.selected.put_if_absent.Goals as goal

pub returns-clause-given : goal.returns-clause-given
returns-clause-given g c = rw (c.entry.ensures.key, c.entry.ensures.unchanged) at c.or_insert.ensures.step.7

pub returns-clause-succeeds : goal.returns-clause-succeeds
returns-clause-succeeds g c = rw (c.entry.ensures.key, c.entry.ensures.unchanged) at c.or_insert.ensures.succeeds
