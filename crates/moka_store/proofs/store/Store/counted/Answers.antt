use Rattle.std.proofs.Common.{sym, ◌∙◌}
use Rattle.moka_store.proofs.KnownOrders.{off-row}
use Rattle.moka_store.proofs.Gets.{none_by_test}
use Rattle.moka_store.proofs.Steps.{counted-placed, placed, unlisted}
use Rattle.moka_store.proofs.store.Store.counted.Goals as goal

pub returns : goal.returns
returns g c =
    let there = rw (← c.self.view_is) at c.requires in
    let counted = counted-placed _ _ _ _ c.self.invariant.tied _ _ there in
    record {
      counted = c.counted.ensures ∙ rw (← c.self.view_is) counted;
      off = λ none.
          let w = placed _ _ _ _ c.self.invariant.tied _ _ there in
          let alone = unlisted _ _ _ _ c.self.invariant.tied _ _ there w (sym counted ∙ sym c.counted.ensures ∙ none_by_test c.counted.result none) in
          rw (← c.self.view_is) (off-row _ _ _ _ c.self.invariant.tied c.self.inside.written c.self.invariant.written _ c.self.inside.timers c.self.invariant.timed _ w.row w.at_is alone _ w.number_is _ _ _);
    }
