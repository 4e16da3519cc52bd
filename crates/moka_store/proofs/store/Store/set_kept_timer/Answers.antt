use Rattle.std.specs.FinMap as finite
use Rattle.std.specs.Option.{option_and_then}
use Rattle.std.proofs.Common.{◌&&◌, map, is_some, refl, sym, ◌∙◌, ap, subst}
use Rattle.moka_table.specs.RecordTable.{Row}
use Rattle.moka_records.specs.declared.records.Record.{Record}
use Rattle.moka_records.specs.Records.{counted_of}
use Rattle.moka_records.specs.Time.{moment_of}
use Rattle.moka_records.specs.declared.instant.Instant.{Instant}
use Rattle.moka_records.proofs.Options.{mapped_is_some}
use Rattle.moka_store.proofs.Orders.{times, timer-room, member-of}
use Rattle.moka_store.proofs.Fitting.{still_fit, timed_fit}
use Rattle.moka_store.proofs.Steps.{handled, retimed}
use Rattle.moka_store.proofs.Timed.{timer-held}
use Rattle.moka_store.specs.Timers.{Timing}
use Rattle.moka_store.specs.Rows.{member_at}
use Rattle.moka_store.specs.Weights.{IsWeighed}
use Rattle.moka_store.specs.StoreTies.{AreNarrow}
use Rattle.moka_store.proofs.store.Store.set_kept_timer.Goals as goal

pub set-timer-requires : goal.set-timer-requires
set-timer-requires g c =
    let h = handled _ _ _ _ c.self.invariant.tied _ _ (rw (← c.self.view_is) at c.requires.handle.placed) (rw (← c.self.view_is) at c.requires.handle.stored) in
    let was = c.timing_at-before.ensures.timer ∙ ap (option_and_then (λ (row : Row (Record _ _)). row.timer)) h.at_is in
    record {
      held = rw was (timer-held _ _ c.self.invariant.timed _ h.row h.at_is);
      room = timer-room c.self.inside.table.rows c.self.inside.timers.timers c.self.invariant.timed _ h.row h.at_is _ c.self.inside.timers.most (timed_fit _ _ _ _ _ c.self.invariant.fits) _ was;
      slot = c.timing_at-before.ensures.slot;
    }

pub set_timer-before-requires : goal.set_timer-before-requires
set_timer-before-requires g c =
    let h = handled _ _ _ _ c.self.invariant.tied _ _ (rw (← c.self.view_is) at c.requires.handle.placed) (rw (← c.self.view_is) at c.requires.handle.stored) in
    record { row = rw h.at_is refl; slot = c.set-timer.ensures.slot }

pub invariant_of-self : goal.invariant_of-self
invariant_of-self g c =
    let h = handled _ _ _ _ c.self.invariant.tied _ _ (rw (← c.self.view_is) at c.requires.handle.placed) (rw (← c.self.view_is) at c.requires.handle.stored) in
    let was = c.timing_at-before.ensures.timer ∙ ap (option_and_then (λ (row : Row (Record _ _)). row.timer)) h.at_is in
    let member = member-of _ _ _ _ c.self.invariant.tied _ h.row h.at_is (ap (λ n. is_some (counted_of n (map (member_at c.self.inside.table.rows) c.self.inside.access.members))) h.number_is ∙ (rw (← c.self.view_is) at c.requires.member)) in
    let changes = c.set_timer-before.ensures.changes _ h.at_is in
    let s = retimed _ g.met.K.Eq.laws _ _ _ _ _ c.self.invariant.tied h.row h.at_is _ changes in
    let kept = c.set-timer.ensures.kept ∙ ap (λ b. c.self.inside.timers.timed && b) (sym (mapped_is_some (λ (i : Instant). i.0) c.timing_at-before.result.1)) in
    let order = times c.self.inside.table.rows c.set_timer-before.new.self.rows c.self.inside.written c.self.inside.timers.timers c.set-timer.new.self.timers c.self.invariant.written c.self.invariant.timed c.self.invariant.tied.numbered _ h.row h.at_is c.set-timer.result changes c.timing_at-before.result.0 was c.self.inside.timers.timed (moment_of c.timing_at-before.result.1) kept c.set-timer.ensures.fresh c.set-timer.ensures.lookups c.set-timer.ensures.untimed member in
    let most = ap (λ (t : Timing). t.most) c.set-timer.ensures.rest in
    let rows = c.set_timer-before.ensures.len in
    record { tied = s.tied; written = order.written; timed = order.timed; keyed = c.self.invariant.keyed ∙ sym (ap finite.len c.set_timer-before.ensures.records); fits = still_fit _ _ _ _ _ _ _ _ _ _ rows refl refl most c.self.invariant.fits; few = c.self.invariant.few; narrow = subst AreNarrow (sym c.set_timer-before.ensures.places) c.self.invariant.narrow; weighed = subst (λ members. IsWeighed members c.self.inside.weight) (sym s.access) c.self.invariant.weighed }

pub returns : goal.returns
returns g c =
    let h = handled _ _ _ _ c.self.invariant.tied _ _ (rw (← c.self.view_is) at c.requires.handle.placed) (rw (← c.self.view_is) at c.requires.handle.stored) in
    let was = c.timing_at-before.ensures.timer ∙ ap (option_and_then (λ (row : Row (Record _ _)). row.timer)) h.at_is in
    let member = member-of _ _ _ _ c.self.invariant.tied _ h.row h.at_is (ap (λ n. is_some (counted_of n (map (member_at c.self.inside.table.rows) c.self.inside.access.members))) h.number_is ∙ (rw (← c.self.view_is) at c.requires.member)) in
    let changes = c.set_timer-before.ensures.changes _ h.at_is in
    let s = retimed _ g.met.K.Eq.laws _ _ _ _ _ c.self.invariant.tied h.row h.at_is _ changes in
    let kept = c.set-timer.ensures.kept ∙ ap (λ b. c.self.inside.timers.timed && b) (sym (mapped_is_some (λ (i : Instant). i.0) c.timing_at-before.result.1)) in
    let order = times c.self.inside.table.rows c.set_timer-before.new.self.rows c.self.inside.written c.self.inside.timers.timers c.set-timer.new.self.timers c.self.invariant.written c.self.invariant.timed c.self.invariant.tied.numbered _ h.row h.at_is c.set-timer.result changes c.timing_at-before.result.0 was c.self.inside.timers.timed (moment_of c.timing_at-before.result.1) kept c.set-timer.ensures.fresh c.set-timer.ensures.lookups c.set-timer.ensures.untimed member in
    let most = ap (λ (t : Timing). t.most) c.set-timer.ensures.rest in
    let timed = ap (λ (t : Timing). t.timed) c.set-timer.ensures.rest in
    record {
      step = λ r there.
          let same = sym h.record_is ∙ (rw (← c.self.view_is) at there) in
          let expires = c.timing_at-before.ensures.expires r (h.stored_at_is ∙ same) in
          rw (s.access, order.written_is, order.cursor_is, order.timers_is, most, timed, c.set_timer-before.ensures.records, c.set_timer-before.ensures.places, c.set_timer-before.ensures.len, c.set_timer-before.ensures.room, h.number_is, expires, ← c.self.view_is) refl;
      rest = rw (s.access, order.written_is, order.cursor_is, most, timed, c.set_timer-before.ensures.records, c.set_timer-before.ensures.places, c.set_timer-before.ensures.len, c.set_timer-before.ensures.room, ← c.self.view_is) refl;
    }
