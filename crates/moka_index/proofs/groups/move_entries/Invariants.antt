use Rattle.std.proofs.Common.{length}
use Rattle.moka_index.proofs.Moves.{Moved}
use Rattle.moka_index.proofs.groups.move_entries.Given as goal

abbrev pub invariant-loop-q : goal.invariant-loop-q
invariant-loop-q l = Moved l.from l.to.items (length l.fn.to.items) l.q
