use Rattle.std.specs.FinMap as finite
use Rattle.std.specs.Option.{option_and_then}
use Rattle.std.proofs.Common.{None, refl, sym, ◌∙◌, ap, subst}
use Rattle.moka_table.specs.RecordTable.{Row}
use Rattle.moka_records.specs.declared.records.Record.{Record}
use Rattle.moka_store.proofs.Orders.{untimes}
use Rattle.moka_store.proofs.Steps.{placed, retimed}
use Rattle.moka_store.proofs.Timed.{timer-held}
use Rattle.moka_store.proofs.Fitting.{still_fit}
use Rattle.moka_store.specs.Timers.{Timing}
use Rattle.moka_store.specs.Weights.{IsWeighed}
use Rattle.moka_store.specs.StoreTies.{AreNarrow}
use Rattle.moka_store.proofs.store.Store.clear_kept_timer.Goals as goal

pub set_timer-timer-requires : goal.set_timer-timer-requires
set_timer-timer-requires g c =
    let w = placed _ _ _ _ c.self.invariant.tied _ _ (rw (← c.self.view_is) at c.requires) in
    record { row = rw w.at_is refl; slot = tt }

pub set-none-requires-clause-held : goal.set-none-requires-clause-held
set-none-requires-clause-held g c =
    let w = placed _ _ _ _ c.self.invariant.tied _ _ (rw (← c.self.view_is) at c.requires) in
    let was = c.set_timer-timer.ensures.old ∙ ap (option_and_then (λ (row : Row (Record _ _)). row.timer)) w.at_is in
    rw was (timer-held _ _ c.self.invariant.timed _ w.row w.at_is)

pub invariant_of-self : goal.invariant_of-self
invariant_of-self g c =
    let w = placed _ _ _ _ c.self.invariant.tied _ _ (rw (← c.self.view_is) at c.requires) in
    let changes = c.set_timer-timer.ensures.changes _ w.at_is in
    let s = retimed _ g.met.K.Eq.laws _ _ _ _ _ c.self.invariant.tied w.row w.at_is None changes in
    let was = c.set_timer-timer.ensures.old ∙ ap (option_and_then (λ (row : Row (Record _ _)). row.timer)) w.at_is in
    let order = untimes c.self.inside.table.rows c.set_timer-timer.new.self.rows c.self.inside.written c.self.inside.timers.timers c.set-none.new.self.timers c.self.invariant.written c.self.invariant.timed c.self.invariant.tied.numbered _ w.row w.at_is changes _ was _ c.self.inside.timers.timed c.set-none.ensures.kept c.set-none.ensures.lookups in
    let most = ap (λ (t : Timing). t.most) c.set-none.ensures.rest in
    let rows = c.set_timer-timer.ensures.len in
    record { tied = s.tied; written = order.written; timed = order.timed; keyed = c.self.invariant.keyed ∙ sym (ap finite.len c.set_timer-timer.ensures.records); fits = still_fit _ _ _ _ _ _ _ _ _ _ rows refl refl most c.self.invariant.fits; few = c.self.invariant.few; narrow = subst AreNarrow (sym c.set_timer-timer.ensures.places) c.self.invariant.narrow; weighed = subst (λ members. IsWeighed members c.self.inside.weight) (sym s.access) c.self.invariant.weighed }

pub returns : goal.returns
returns g c =
    let w = placed _ _ _ _ c.self.invariant.tied _ _ (rw (← c.self.view_is) at c.requires) in
    let changes = c.set_timer-timer.ensures.changes _ w.at_is in
    let s = retimed _ g.met.K.Eq.laws _ _ _ _ _ c.self.invariant.tied w.row w.at_is None changes in
    let was = c.set_timer-timer.ensures.old ∙ ap (option_and_then (λ (row : Row (Record _ _)). row.timer)) w.at_is in
    let order = untimes c.self.inside.table.rows c.set_timer-timer.new.self.rows c.self.inside.written c.self.inside.timers.timers c.set-none.new.self.timers c.self.invariant.written c.self.invariant.timed c.self.invariant.tied.numbered _ w.row w.at_is changes _ was _ c.self.inside.timers.timed c.set-none.ensures.kept c.set-none.ensures.lookups in
    let most = ap (λ (t : Timing). t.most) c.set-none.ensures.rest in
    let timed = ap (λ (t : Timing). t.timed) c.set-none.ensures.rest in
    rw (s.access, order.written_is, order.cursor_is, order.timers_is, most, timed, c.set_timer-timer.ensures.records, c.set_timer-timer.ensures.places, c.set_timer-timer.ensures.len, c.set_timer-timer.ensures.room, w.number_is, ← c.self.view_is) refl
