use Rattle.moka_cache.proofs.Saving.{SavesTo}
use Rattle.moka_cache.proofs.cache.saves.clones_of.Given as goal

abbrev pub invariant-loop-entry : goal.invariant-loop-entry
invariant-loop-entry g l = record {
  can : (goal.iterator-loop-entry g).can_next l.entry-iterator;
  finite : (goal.iterator-loop-entry g).is_finite l.entry-iterator;
  saved : SavesTo g.P.PredicateFn.says g.K.Clone.is_clone g.V.Clone.is_clone l.fn.snapshot l.entry-iterator l.items.items;
}
