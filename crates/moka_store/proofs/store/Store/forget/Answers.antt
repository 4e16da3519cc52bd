use Rattle.std.specs.FinMap as finite
use Rattle.std.proofs.lemmas.Grind.{common_steps}
use Rattle.std.proofs.Common.{None, refl, ap, ◌∙◌, arith, sym, subst}
use Rattle.std.specs.FinMap.{get}
use Rattle.moka_links.proofs.FinMaps.{get-past_remove}
use Rattle.std.specs.Option.{option_and_then}
use Rattle.moka_table.specs.RecordTable.{Row}
use Rattle.moka_records.specs.declared.records.Record.{Record}
use Rattle.moka_store.proofs.Orders.{stays-bare}
use Rattle.moka_store.proofs.Gets.{after_remove}
use Rattle.moka_store.proofs.Steps.{placed, bare-row, forgotten}
use Rattle.moka_store.proofs.Fitting.{fewer_fit}
use Rattle.moka_store.specs.Weights.{IsWeighed}
use Rattle.moka_store.proofs.store.Store.forget.Goals as goal

pub forget-requires : goal.forget-requires
forget-requires g c =
    bare-row _ _ _ _ c.self.invariant.tied _ _ (rw (← c.self.view_is) at c.requires.placed) _ c.self.invariant.timed (rw (← c.self.view_is) at c.requires.gone) (rw (← c.self.view_is) at c.requires.apart)

pub invariant_of-self : goal.invariant_of-self
invariant_of-self g c =
    let bare = bare-row _ _ _ _ c.self.invariant.tied _ _ (rw (← c.self.view_is) at c.requires.placed) _ c.self.invariant.timed (rw (← c.self.view_is) at c.requires.gone) (rw (← c.self.view_is) at c.requires.apart) in
    let w = placed _ _ _ _ c.self.invariant.tied _ _ (rw (← c.self.view_is) at c.requires.placed) in
    let s = forgotten _ g.met.K.Eq.laws _ _ _ _ _ c.self.invariant.tied _ bare refl refl c.forget.ensures.changes in
    let stay = stays-bare c.self.inside.table.rows c.forget.new.self.rows c.self.inside.written c.self.inside.timers.timers c.self.invariant.written c.self.invariant.timed c.self.invariant.tied.numbered s.tied.numbered _ None c.forget.ensures.changes (ap (option_and_then (λ (row : Row (Record _ _)). row.membership)) bare) (ap (option_and_then (λ (row : Row (Record _ _)). row.timer)) bare) refl refl in
    let len = c.forget.ensures.len in
    record { tied = s.tied; written = stay.written; timed = stay.timed; keyed = c.self.invariant.keyed ∙ sym (ap finite.len c.forget.ensures.records); fits = fewer_fit _ _ _ _ _ _ len c.self.invariant.fits; few = c.self.invariant.few; narrow = λ n place there. c.self.invariant.narrow n place (after_remove _ _ n place (sym (ap (λ places. get places n) c.forget.ensures.places) ∙ there)).1; weighed = subst (λ members. IsWeighed members c.self.inside.weight) (sym s.access) c.self.invariant.weighed }

pub returns : goal.returns
returns g c =
    let bare = bare-row _ _ _ _ c.self.invariant.tied _ _ (rw (← c.self.view_is) at c.requires.placed) _ c.self.invariant.timed (rw (← c.self.view_is) at c.requires.gone) (rw (← c.self.view_is) at c.requires.apart) in
    let w = placed _ _ _ _ c.self.invariant.tied _ _ (rw (← c.self.view_is) at c.requires.placed) in
    let s = forgotten _ g.met.K.Eq.laws _ _ _ _ _ c.self.invariant.tied _ bare refl refl c.forget.ensures.changes in
    let stay = stays-bare c.self.inside.table.rows c.forget.new.self.rows c.self.inside.written c.self.inside.timers.timers c.self.invariant.written c.self.invariant.timed c.self.invariant.tied.numbered s.tied.numbered _ None c.forget.ensures.changes (ap (option_and_then (λ (row : Row (Record _ _)). row.membership)) bare) (ap (option_and_then (λ (row : Row (Record _ _)). row.timer)) bare) refl refl in
    record {
      step = rw (s.access, stay.written_is, stay.cursor_is, stay.timers_is, c.forget.ensures.records, c.forget.ensures.places, w.number_at_is, ← c.self.view_is) refl;
      room = rw (← c.self.view_is) (grind (arith, common_steps, c.forget.ensures.len, c.forget.ensures.room));
      kept = λ other ne e. rw (c.forget.ensures.places, w.number_at_is) (get-past_remove _ _ _ ne ∙ (rw (← c.self.view_is) at e));
      records = rw (← c.self.view_is) c.forget.ensures.records;
      access = rw (← c.self.view_is) s.access;
    }
