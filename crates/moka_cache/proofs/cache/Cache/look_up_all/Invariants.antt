use Rattle.std.proofs.Common.{◌≡◌, ◌+◌, ◌≤◌, ◌++◌, length, vec_len}
use Rattle.std.specs.Prelude.{vec_capacity}
use Rattle.std.specs.Vec.Iter.{into_iter_items}
use Rattle.moka_cache.specs.Visible.{LooksUp}
use Rattle.moka_cache.proofs.cache.Cache.look_up_all.Given as goal

abbrev pub invariant-loop-key : goal.invariant-loop-key
invariant-loop-key g l = record {
  can : (goal.iterator-loop-key g).can_next l.key-iterator;
  finite : (goal.iterator-loop-key g).is_finite l.key-iterator;
  found : LooksUp g.P.PredicateFn.says g.V.Clone.is_clone l.fn.engine.state l.fn.now.0 g.K.PartialEq.eq l.yielded l.found.items;
  rest : l.fn.keys.items ≡ l.yielded ++ into_iter_items l.key-iterator;
  room : vec_len l.found + length (into_iter_items l.key-iterator) ≤ vec_capacity l.found;
}
