use Rattle.std.proofs.Common.{◌≡◌, List, ◌++◌}
use Rattle.std.specs.Io.KnownBytes.{Appends}
use Rattle.std.specs.Vec.Iter.{into_iter_items}
use Rattle.moka_explain.specs.declared.explain.Explained.{Explained}
use Rattle.moka_explain.specs.Explained.{AreExplained, point_of}
use Rattle.moka_explain.specs.Text.{explained_texts}
use Rattle.moka_explain.proofs.explain.explain_calls.Given as goal

abbrev pub invariant-loop-call : goal.invariant-loop-call
invariant-loop-call g l = record {
  can : (goal.iterator-loop-call g).can_next l.call-iterator;
  finite : (goal.iterator-loop-call g).is_finite l.call-iterator;
  made : (all : List Explained) × AreExplained l.fn.choices.automatic l.yielded all (point_of l.fn.cache l.fn.outside) (point_of l.cache l.outside)
      × Appends (g.W.Write.contents l.fn.out) (g.W.Write.contents l.out) (explained_texts all l.fn.choices.policy);
  rest : l.fn.calls.items ≡ l.yielded ++ into_iter_items l.call-iterator;
}
