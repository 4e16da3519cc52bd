use Rattle.moka_store.proofs.Orders.{stays-row}
use Rattle.std.specs.FinMap as finite
use Rattle.std.proofs.Common.{◌-◌, None, refl, sym, ap, ◌∙◌, arith, subst}
use Rattle.std.specs.FinMap.{remove}
use Rattle.moka_table.specs.RecordTable.{records_of}
use Rattle.moka_links.proofs.FinMaps.{get-removed}
use Rattle.moka_store.proofs.Gets.{len-removed}
use Rattle.moka_store.proofs.Steps.{handled, index-of, taken}
use Rattle.moka_store.proofs.Fitting.{still_fit}
use Rattle.moka_store.specs.Weights.{IsWeighed}
use Rattle.moka_store.specs.StoreTies.{AreNarrow}
use Rattle.moka_store.proofs.store.Store.take_record.Goals as goal

pub take-taken-requires : goal.take-taken-requires
take-taken-requires g c =
    let h = handled _ _ _ _ c.self.invariant.tied _ _ (rw (← c.self.view_is) at c.requires.handle.placed) (rw (← c.self.view_is) at c.requires.handle.stored) in
    rw h.stored_at_is refl

pub remove-requires : goal.remove-requires
remove-requires g c =
    let h = handled _ _ _ _ c.self.invariant.tied _ _ (rw (← c.self.view_is) at c.requires.handle.placed) (rw (← c.self.view_is) at c.requires.handle.stored) in
    let hashed = rw (← c.self.view_is) at c.requires.hashed in
    rw (hashed h.stored h.record_is) (index-of _ g.met.K.Eq.laws _ _ _ c.self.invariant.tied _ _ h)

pub invariant_of-self : goal.invariant_of-self
invariant_of-self g c =
    let h = handled _ _ _ _ c.self.invariant.tied _ _ (rw (← c.self.view_is) at c.requires.handle.placed) (rw (← c.self.view_is) at c.requires.handle.stored) in
    let s = taken _ g.met.K.Eq.laws _ _ _ _ _ c.self.invariant.tied h.row h.at_is (c.take-taken.ensures.changes _ h.at_is) in
    let stay = stays-row c.self.inside.table.rows c.take-taken.new.self.rows c.self.inside.written c.self.inside.timers.timers c.self.invariant.written c.self.invariant.timed c.self.invariant.tied.numbered s.tied.numbered _ h.row (record h.row { stored = None }) h.at_is (c.take-taken.ensures.changes _ h.at_is) refl refl refl refl in
    let len = c.take-taken.ensures.len in
    let shorter = ap finite.len c.take-taken.ensures.records ∙ ap (λ n. finite.len (remove (records_of c.self.inside.table.rows) n)) h.number_at_is ∙ len-removed _ _ h.stored h.record_is in
    let fewer = ap finite.len c.remove.ensures.entries ∙ len-removed _ _ _ (index-of _ g.met.K.Eq.laws _ _ _ c.self.invariant.tied _ _ h) in
    record { tied = rw c.remove.ensures.entries s.tied; written = stay.written; timed = stay.timed; keyed = fewer ∙ ap (λ n. n - 1) c.self.invariant.keyed ∙ sym shorter; fits = still_fit _ _ _ _ _ _ _ _ _ _ len refl refl refl c.self.invariant.fits; few = c.self.invariant.few; narrow = subst AreNarrow (sym c.take-taken.ensures.places) c.self.invariant.narrow; weighed = subst (λ members. IsWeighed members c.self.inside.weight) (sym s.access) c.self.invariant.weighed }

pub returns : goal.returns
returns g c =
    let h = handled _ _ _ _ c.self.invariant.tied _ _ (rw (← c.self.view_is) at c.requires.handle.placed) (rw (← c.self.view_is) at c.requires.handle.stored) in
    let s = taken _ g.met.K.Eq.laws _ _ _ _ _ c.self.invariant.tied h.row h.at_is (c.take-taken.ensures.changes _ h.at_is) in
    let stay = stays-row c.self.inside.table.rows c.take-taken.new.self.rows c.self.inside.written c.self.inside.timers.timers c.self.invariant.written c.self.invariant.timed c.self.invariant.tied.numbered s.tied.numbered _ h.row (record h.row { stored = None }) h.at_is (c.take-taken.ensures.changes _ h.at_is) refl refl refl refl in
    record {
      taken = rw (← c.self.view_is) (h.record_is ∙ sym h.stored_at_is ∙ c.take-taken.ensures.taken);
      step = rw (s.access, stay.written_is, stay.cursor_is, stay.timers_is, c.take-taken.ensures.records, c.take-taken.ensures.places, h.number_at_is, ← c.self.view_is) refl;
      room = rw (c.take-taken.ensures.len, c.take-taken.ensures.room, ← c.self.view_is) (omega (arith, c.remove.ensures.room));
      gone = rw (c.take-taken.ensures.records, h.number_at_is) (get-removed _ _);
      places = rw (← c.self.view_is) c.take-taken.ensures.places;
      access = rw (← c.self.view_is) s.access;
    }
