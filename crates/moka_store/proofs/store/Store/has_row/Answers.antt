use Rattle.std.proofs.Common.{◌≡◌, ◌==◌, true, Some, None, sym, ap, ◌∙◌}
use Rattle.std.proofs.lemmas.Bool.{eq-eqb, eqb-true}
use Rattle.std.specs.FinMap as finite
use Rattle.std.specs.Option.{option_eq, option_map}
use Rattle.moka_records.specs.declared.records.Record.{Record}
use Rattle.moka_table.specs.RecordTable.{Row, row_at, places_of}
use Rattle.moka_table.proofs.TableCalls.{get-places, placed_row}
use Rattle.moka_table.proofs.TableMaps.{made-of}
use Rattle.moka_store.proofs.Places.{record-placed, member-placed, other-row}
use Rattle.moka_store.proofs.store.Store.has_row.Goals as goal

pub returns : goal.returns
returns g c =
    let tied = c.self.invariant.tied in
    let rows = c.self.inside.table.rows in
    let place = c.args.handle.place in
    let number = c.args.handle.number in
    record {
      placed = rw (c.eq.ensures, ← c.self.view_is) (elim c.number.result as (λ o. o ≡ option_map (λ (row : Row (Record g.row.K.Denot g.row.V.Denot)). row.number) (row_at rows place) →
          (option_eq (◌==◌) o (Some number) ≡ true → finite.get (places_of rows) number ≡ Some place) × (finite.get (places_of rows) number ≡ Some place → option_eq (◌==◌) o (Some number) ≡ true)) [
            | None ↦ λ told. (
              (λ never. cc),
              (λ there. (let w = placed_row rows tied.numbered place number there in let e : None ≡ Some w.0.number = told ∙ ap (option_map (λ (row : Row (Record g.row.K.Denot g.row.V.Denot)). row.number)) w.1 in cc)),
            )
            | Some own ↦ λ told. (
                let w = made-of (λ (row : Row (Record g.row.K.Denot g.row.V.Denot)). row.number) (row_at rows place) own (sym told) in (
                  (λ same. ap (finite.get (places_of rows)) (sym (w.2 ∙ eqb-true own number same)) ∙ get-places rows tied.numbered place w.0 w.1),
                  (λ there. eq-eqb own number (sym w.2 ∙ other-row g.K.PartialEq.eq rows _ _ tied place number w.0 w.1 there)),
                ))
          ] c.number.ensures);
      records = rw (← c.self.view_is) (record-placed g.K.PartialEq.eq rows _ _ tied);
      members = rw (← c.self.view_is) (member-placed g.K.PartialEq.eq rows _ _ tied);
    }
