use Rattle.moka_store.proofs.Orders.{stays-bare}
use Rattle.std.specs.Option.{option_and_then}
use Rattle.moka_table.specs.RecordTable.{Row, records_of, places_of}
use Rattle.moka_records.specs.declared.records.Record.{Record}
use Rattle.std.specs.FinMap as finite
use Rattle.std.proofs.Common.{◌≢◌, ◌+◌, inl, inr, refl, sym, ap, ◌∙◌, arith, subst}
use Rattle.std.specs.FinMap.{get}
use Rattle.moka_links.proofs.FinMaps.{get-inserted, get-past_insert}
use Rattle.moka_table.proofs.TableMaps.{row_at-within}
use Rattle.moka_store.proofs.Gets.{after_insert, len-inserted}
use Rattle.moka_store.proofs.Ties.{counted-unplaced}
use Rattle.moka_store.proofs.Places.{room-narrow, room-less}
use Rattle.moka_store.proofs.Steps.{key-fresh, index-vacant, inserted, unrecorded}
use Rattle.moka_store.specs.Weights.{IsWeighed}
use Rattle.moka_store.proofs.store.Store.insert_new.Goals as goal

pub invariant_of-self : goal.invariant_of-self
invariant_of-self g c =
    let fresh = rw (← c.self.view_is) at c.requires.fresh in
    let unknown = rw (← c.self.view_is) at c.requires.unknown in
    let hashed = rw (← c.self.view_is) at c.requires.hashed in
    let s = inserted _ g.met.K.Eq.laws _ _ _ _ _ c.self.invariant.tied c.args.stored c.insert-place.ensures.vacant fresh (key-fresh _ _ _ _ c.self.invariant.tied _ unknown) c.insert-place.ensures.changes in
    let stay = stays-bare c.self.inside.table.rows c.insert-place.new.self.rows c.self.inside.written c.self.inside.timers.timers c.self.invariant.written c.self.invariant.timed c.self.invariant.tied.numbered s.tied.numbered _ _ c.insert-place.ensures.changes (ap (option_and_then (λ (row : Row (Record _ _)). row.membership)) c.insert-place.ensures.vacant) (ap (option_and_then (λ (row : Row (Record _ _)). row.timer)) c.insert-place.ensures.vacant) refl refl in
    let room = rw (← c.self.view_is) at c.requires.room in
    let len = c.insert-place.ensures.len in
    let longer = ap finite.len c.insert-place.ensures.records ∙ len-inserted _ _ c.args.stored (unrecorded _ g.met.K.Eq.laws _ _ _ c.self.invariant.tied _ fresh) in
    let more = ap finite.len c.insert.ensures.entries ∙ len-inserted _ _ _ (index-vacant _ g.met.K.Eq.laws _ _ _ c.self.invariant.tied _ c.insert-place.ensures.vacant) in
    record {
      tied = rw (c.insert.ensures.entries, hashed) s.tied;
      written = stay.written;
      timed = stay.timed;
      keyed = more ∙ ap (λ n. n + 1) c.self.invariant.keyed ∙ sym longer;
      fits = omega arith;
      few = c.self.invariant.few;
      narrow = λ n place there. elim (after_insert _ _ _ n place (sym (ap (λ places. get places n) c.insert-place.ensures.places) ∙ there)) [
        | inl new ↦ (let inside = row_at-within c.insert-place.new.self.rows c.insert-place.result _ c.insert-place.ensures.changes.changed in let same = new.1 in let wide = room-narrow c.self.inside.table.rows c.self.inside.table.room (omega arith) in omega (arith, inside, same, wide))
        | inr old ↦ c.self.invariant.narrow n place old.1
      ];
      weighed = subst (λ members. IsWeighed members c.self.inside.weight) (sym s.access) c.self.invariant.weighed;
    }

pub returns : goal.returns
returns g c =
    let fresh = rw (← c.self.view_is) at c.requires.fresh in
    let unknown = rw (← c.self.view_is) at c.requires.unknown in
    let s = inserted _ g.met.K.Eq.laws _ _ _ _ _ c.self.invariant.tied c.args.stored c.insert-place.ensures.vacant fresh (key-fresh _ _ _ _ c.self.invariant.tied _ unknown) c.insert-place.ensures.changes in
    let stay = stays-bare c.self.inside.table.rows c.insert-place.new.self.rows c.self.inside.written c.self.inside.timers.timers c.self.invariant.written c.self.invariant.timed c.self.invariant.tied.numbered s.tied.numbered _ _ c.insert-place.ensures.changes (ap (option_and_then (λ (row : Row (Record _ _)). row.membership)) c.insert-place.ensures.vacant) (ap (option_and_then (λ (row : Row (Record _ _)). row.timer)) c.insert-place.ensures.vacant) refl refl in
    record {
      number = refl;
      step = rw (s.access, stay.written_is, stay.cursor_is, stay.timers_is, c.insert-place.ensures.records, c.insert-place.ensures.places, ← c.self.view_is) refl;
      room = rw (← c.self.view_is) (room-less c.self.inside.table.rows c.insert-place.new.self.rows _ _ _ _ _ (rw (← c.self.view_is) at c.requires.room) c.insert.ensures.room c.insert-place.ensures.room c.insert-place.ensures.len);
      apart = rw s.access (counted-unplaced _ _ _ _ c.self.invariant.tied _ fresh);
      handle = record {
        placed = rw c.insert-place.ensures.places (get-inserted _ _ _);
        stored = rw (c.insert-place.ensures.records, get-inserted (records_of c.self.inside.table.rows) c.args.stored.number c.args.stored) refl;
      };
      kept = λ other e.
          let there = rw (← c.self.view_is) at e in
          let apart : other.number ≢ c.args.stored.number = (λ q. let same = ap (get (places_of c.self.inside.table.rows)) q in cc) in
          rw c.insert-place.ensures.places (get-past_insert _ _ _ _ apart ∙ there);
      access = rw (s.access, ← c.self.view_is) refl;
    }
