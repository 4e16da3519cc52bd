use Rattle.std.proofs.Common.{◌≡◌, ◌+◌, ◌≤◌, List, ◌++◌, length, vec_len}
use Rattle.std.specs.Prelude.{vec_capacity}
use Rattle.std.specs.Vec.Iter.{into_iter_items}
use Rattle.moka_parts.specs.Runs.{MakesCalls, PromisedRun, Step}
use Rattle.moka_parts.specs.Listed.{AreListedSteps}
use Rattle.moka_parts.specs.State.{meaning_of}
use Rattle.std.specs.List.{All}
use Rattle.moka_drive.specs.Replies.{AreInfallible, IsGranted}
use Rattle.moka_drive.proofs.driver.drive.Given as goal

abbrev pub invariant-loop-call : goal.invariant-loop-call
invariant-loop-call g l = record {
  can : (goal.iterator-loop-call g).can_next l.call-iterator;
  finite : (goal.iterator-loop-call g).is_finite l.call-iterator;
  ran : (steps : List (Step g.row.K.Denot g.row.V.Denot g.row.X.Denot g.row.P.Denot g.row.W.Denot))
      × MakesCalls (meaning_of g.K.PartialEq.eq g.L.Listener.tells g.P.PredicateFn.says g.W.Weigher.weighs g.C.Clock.reads g.I.IdSource.gives g.X.Expiry.created g.X.Expiry.read g.X.Expiry.updated) (PromisedRun g.P.PredicateFn.says g.X.Expiry.read) l.yielded l.replies.items steps l.fn.cache l.fn.clock l.fn.ids l.cache l.clock l.ids
      × AreListedSteps (meaning_of g.K.PartialEq.eq g.L.Listener.tells g.P.PredicateFn.says g.W.Weigher.weighs g.C.Clock.reads g.I.IdSource.gives g.X.Expiry.created g.X.Expiry.read g.X.Expiry.updated) l.fn.cache.state l.fn.cache.write_list steps l.cache.write_list;
  granted : AreInfallible g.K.Clone.is_infallible g.V.Clone.is_infallible → All IsGranted l.replies.items;
  rest : l.fn.calls.items ≡ l.yielded ++ into_iter_items l.call-iterator;
  room : vec_len l.replies + length (into_iter_items l.call-iterator) ≤ vec_capacity l.replies;
}
