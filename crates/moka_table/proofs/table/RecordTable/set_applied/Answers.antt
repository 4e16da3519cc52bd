use Rattle.std.proofs.Common.{ap, refl, sym, ◌∙◌, is_some, arith}
use Rattle.std.specs.Option.{option_and_then}
use Rattle.moka_records.specs.declared.record_ref.Cold.{Cold}
use Rattle.moka_records.specs.declared.records.Record.{Record}
use Rattle.moka_table.proofs.ColdRows.{same-table, keeps-stored, stored_within, record_parts, cold-read, counted-read, with_own, joined-applied, stored-beside, stored-table}
use Rattle.moka_table.proofs.TableCalls.{stored_row}
use Rattle.moka_table.proofs.table.RecordTable.set_applied.Goals as goal

pub index_mut-requires : goal.index_mut-requires
index_mut-requires g c = omega (arith, stored_within c.self.inside.rows c.self.inside.cold.items _ _ c.args.place c.self.invariant (keeps-stored _ _ _ (rw (← c.self.view_is) at c.requires)))

pub invariant_of-self : goal.invariant_of-self
invariant_of-self g c =
    let w = stored_row c.self.inside.rows.rows c.args.place (keeps-stored _ _ _ (rw (← c.self.view_is) at c.requires)) in
    let within = stored_within c.self.inside.rows c.self.inside.cold.items _ _ c.args.place c.self.invariant (keeps-stored _ _ _ (rw (← c.self.view_is) at c.requires)) in
    stored-beside c.self.inside.rows c.self.inside.cold.items _ _ c.args.place c.self.invariant c.self.inside.rows w.0 w.2 w.1 (with_own _ _ _ _ w.2 w.3) refl _ (counted-read c.self.inside.cold.items c.args.place c.index_mut.result.now within c.index_mut.ensures.value)

pub returns : goal.returns
returns g c = λ r at.
    let p = record_parts c.self.inside.rows.rows c.self.inside.cold.items c.args.place r (rw (← c.self.view_is) at at) in
    let within = stored_within c.self.inside.rows c.self.inside.cold.items _ _ c.args.place c.self.invariant (ap is_some (ap (option_and_then (λ row. row.stored)) p.2 ∙ p.3)) in
    let own = cold-read c.self.inside.cold.items c.args.place c.index_mut.result.now within c.index_mut.ensures.value in
    let cold : Cold = record c.index_mut.result.now { applied = c.args.generation } in
    let after = stored-table c.self.inside.rows c.self.inside.cold.items _ _ c.args.place c.self.invariant c.self.inside.rows p.0 p.2 p.1 (with_own _ _ _ _ p.2 p.3) refl cold (ap (λ (x : Cold). x.counted) own) in
    let same = joined-applied p.0.number p.1 c.args.generation c.index_mut.result.now _ own ∙ ap (λ (x : Record g.row.K.Denot g.row.V.Denot). record x { applied = c.args.generation }) (sym p.4) in
    rw (← c.self.view_is) (after ∙ same-table _ _ _ _ _ same)
