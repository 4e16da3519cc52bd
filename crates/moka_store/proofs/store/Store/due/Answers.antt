use Rattle.std.specs.FinMap as finite
use Rattle.std.proofs.Common.{true, Some, None, refl, sym, ap, ◌∙◌, subst}
use Rattle.moka_store.proofs.Orders.{untimes, counted-member}
use Rattle.moka_table.proofs.TableCalls.{get-places}
use Rattle.moka_store.proofs.Steps.{retimed}
use Rattle.moka_store.proofs.Timed.{all-ahead, timer-row}
use Rattle.moka_store.proofs.Fitting.{still_fit}
use Rattle.moka_store.specs.Timers.{Timing}
use Rattle.moka_store.specs.Weights.{IsWeighed}
use Rattle.moka_store.specs.StoreTies.{AreNarrow}
use Rattle.moka_store.proofs.store.Store.due.Goals as goal

pub returns-in_err-due-clause-none : goal.returns-in_err-due-clause-none
returns-in_err-due-clause-none g c = rw (c.from_residual.ensures, ← c.self.view_is) (all-ahead c.self.inside.table.rows c.self.inside.timers.timers c.self.invariant.timed c.self.invariant.tied.numbered c.args.now.0 c.in_err-due.ensures.none)

pub set_timer-slot-requires : goal.set_timer-slot-requires
set_timer-slot-requires g c =
    let r = timer-row c.self.inside.table.rows c.self.inside.timers.timers c.self.invariant.timed c.self.invariant.tied.numbered _ _ _ c.in_ok-due.ensures.due in
    record { row = rw r.at_is refl; slot = tt }

pub handle_at-requires : goal.handle_at-requires
handle_at-requires g c =
    let r = timer-row c.self.inside.table.rows c.self.inside.timers.timers c.self.invariant.timed c.self.invariant.tied.numbered _ _ _ c.in_ok-due.ensures.due in
    let changes = c.set_timer-slot.ensures.changes _ r.at_is in
    rw changes.changed refl

pub invariant_of-self-2 : goal.invariant_of-self-2
invariant_of-self-2 g c =
    let r = timer-row c.self.inside.table.rows c.self.inside.timers.timers c.self.invariant.timed c.self.invariant.tied.numbered _ _ _ c.in_ok-due.ensures.due in
    let changes = c.set_timer-slot.ensures.changes _ r.at_is in
    let s = retimed _ g.met.K.Eq.laws _ _ _ _ _ c.self.invariant.tied r.row r.at_is None changes in
    let order = untimes c.self.inside.table.rows c.set_timer-slot.new.self.rows c.self.inside.written c.self.inside.timers.timers c.due.new.self.timers c.self.invariant.written c.self.invariant.timed c.self.invariant.tied.numbered _ r.row r.at_is changes (Some c.in_ok-due.due.slot) (sym r.timer_is) None true refl c.in_ok-due.ensures.lookups in
    let most = ap (λ (t : Timing). t.most) c.in_ok-due.ensures.rest in
    let rows = c.set_timer-slot.ensures.len in
    record { tied = s.tied; written = order.written; timed = order.timed; keyed = c.self.invariant.keyed ∙ sym (ap finite.len c.set_timer-slot.ensures.records); fits = still_fit _ _ _ _ _ _ _ _ _ _ rows refl refl most c.self.invariant.fits; few = c.self.invariant.few; narrow = subst AreNarrow (sym c.set_timer-slot.ensures.places) c.self.invariant.narrow; weighed = subst (λ members. IsWeighed members c.self.inside.weight) (sym s.access) c.self.invariant.weighed }

pub returns : goal.returns
returns g c =
    let r = timer-row c.self.inside.table.rows c.self.inside.timers.timers c.self.invariant.timed c.self.invariant.tied.numbered _ _ _ c.in_ok-due.ensures.due in
    let changes = c.set_timer-slot.ensures.changes _ r.at_is in
    let number = c.handle_at.ensures.number _ changes.changed in
    let s = retimed _ g.met.K.Eq.laws _ _ _ _ _ c.self.invariant.tied r.row r.at_is None changes in
    let order = untimes c.self.inside.table.rows c.set_timer-slot.new.self.rows c.self.inside.written c.self.inside.timers.timers c.due.new.self.timers c.self.invariant.written c.self.invariant.timed c.self.invariant.tied.numbered _ r.row r.at_is changes (Some c.in_ok-due.due.slot) (sym r.timer_is) None true refl c.in_ok-due.ensures.lookups in
    let most = ap (λ (t : Timing). t.most) c.in_ok-due.ensures.rest in
    let timed = ap (λ (t : Timing). t.timed) c.in_ok-due.ensures.rest in
    record {
      due = (c.in_ok-due.due.at, rw (number, ← c.self.view_is) r.moment_is, c.in_ok-due.ensures.late);
      placed = rw (number, c.handle_at.ensures.place) (get-places _ s.tied.numbered _ (record r.row { timer = None }) changes.changed);
      member = rw number (counted-member _ _ _ _ s.tied _ (record r.row { timer = None }) changes.changed r.member);
      step = rw (number, s.access, order.written_is, order.cursor_is, order.timers_is, most, timed, c.set_timer-slot.ensures.records, c.set_timer-slot.ensures.places, c.set_timer-slot.ensures.len, c.set_timer-slot.ensures.room, ← c.self.view_is) refl;
      none = tt;
      unchanged = tt;
    }

pub returns-in_err-due-clause-due : goal.returns-in_err-due-clause-due
returns-in_err-due-clause-due g c = rw c.from_residual.ensures tt

pub returns-in_err-due-clause-placed : goal.returns-in_err-due-clause-placed
returns-in_err-due-clause-placed g c = rw c.from_residual.ensures tt

pub returns-in_err-due-clause-member : goal.returns-in_err-due-clause-member
returns-in_err-due-clause-member g c = rw c.from_residual.ensures tt

pub returns-in_err-due-clause-step : goal.returns-in_err-due-clause-step
returns-in_err-due-clause-step g c = rw c.from_residual.ensures tt

pub returns-in_err-due-clause-unchanged : goal.returns-in_err-due-clause-unchanged
returns-in_err-due-clause-unchanged g c = rw (c.from_residual.ensures, c.in_err-due.ensures.unchanged, ← c.self.view_is) refl

pub invariant_of-self : goal.invariant_of-self
invariant_of-self g c = rw c.in_err-due.ensures.unchanged c.self.invariant
