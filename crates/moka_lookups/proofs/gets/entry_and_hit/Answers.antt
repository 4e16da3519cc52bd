use Rattle.moka_lookups.proofs.gets.entry_and_hit.Goals as goal

pub returns-in_default-clone : goal.returns-in_default-clone
returns-in_default-clone g c = λ succeed. c.in_default-clone.ensures.cases (rw c.key.ensures (succeed.1 c.if-need_key.true))
