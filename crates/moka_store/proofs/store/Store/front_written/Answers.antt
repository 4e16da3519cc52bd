use Rattle.std.proofs.Common.{ℕ, Some, refl, sym, ap, ◌∙◌}
use Rattle.std.specs.Option.{option_map}
use Rattle.moka_table.specs.RecordTable.{number_at}
use Rattle.moka_store.proofs.Orders.{written-place, written-handle}
use Rattle.moka_store.proofs.Written.{number-front}
use Rattle.moka_store.proofs.store.Store.front_written.Goals as goal

pub returns-in_err-place-clause-front : goal.returns-in_err-place-clause-front
returns-in_err-place-clause-front g c =
    rw (c.from_residual.ensures, ← c.self.view_is, number-front c.self.inside.table.rows c.self.inside.written.nodes) (ap (option_map (λ (m : ℕ × ℕ). number_at c.self.inside.table.rows m.1)) c.in_err-place.ensures.front)

pub handle_at-requires : goal.handle_at-requires
handle_at-requires g c = rw ((written-place _ _ _ _ c.self.invariant.tied c.self.inside.written c.self.invariant.written _ _ c.in_ok-place.ensures.found).at_is) refl

pub returns : goal.returns
returns g c =
    let n = written-place _ _ _ _ c.self.invariant.tied c.self.inside.written c.self.invariant.written _ _ c.in_ok-place.ensures.found in
    record {
      ordered = rw (← c.self.view_is) (written-handle _ _ _ _ c.self.invariant.tied _ c.self.inside.timers _ _ _ c.self.inside.written c.self.invariant.written _ _ c.in_ok-place.ensures.found c.handle_at.result c.handle_at.ensures.place c.handle_at.ensures.number);
      front = ap Some (c.handle_at.ensures.number _ n.at_is ∙ sym n.number_is) ∙ ap (option_map (λ (m : ℕ × ℕ). number_at c.self.inside.table.rows m.1)) c.in_ok-place.ensures.front ∙ sym (number-front c.self.inside.table.rows c.self.inside.written.nodes) ∙ rw (← c.self.view_is) refl;
    }
