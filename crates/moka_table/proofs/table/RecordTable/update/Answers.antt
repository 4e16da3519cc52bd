use Rattle.std.proofs.Common.{ap, sym, ◌∙◌, is_some, ◌+◌, arith}
use Rattle.std.specs.Option.{option_map, option_and_then}
use Rattle.moka_records.specs.declared.record_ref.Cold.{Cold}
use Rattle.moka_records.specs.RecordParts.{joined}
use Rattle.moka_table.specs.States.{rewritten}
use Rattle.moka_table.specs.Updates.{updated}
use Rattle.moka_table.specs.Rows.{cold_at}
use Rattle.moka_table.proofs.ColdRows.{same-table, keeps-stored, stored_within, record_parts, cold-read, counted-read, joined-updated, stored-beside, stored-table, row_whole}
use Rattle.moka_table.proofs.TableCalls.{stored_row}
use Rattle.moka_table.proofs.table.RecordTable.update.Goals as goal

pub index_mut-cold-requires : goal.index_mut-cold-requires
index_mut-cold-requires g c = omega (arith, stored_within c.self.inside.rows c.self.inside.cold.items _ _ c.args.place c.self.invariant (keeps-stored _ _ _ (rw (← c.self.view_is) at c.requires.stored)))

pub overflow_add-cold : goal.overflow_add-cold
overflow_add-cold g c =
    let w = stored_row c.self.inside.rows.rows c.args.place (keeps-stored _ _ _ (rw (← c.self.view_is) at c.requires.stored)) in
    let whole = ap (option_and_then (λ row. row.stored)) (row_whole c.self.inside.rows.rows c.self.inside.cold.items c.args.place w.0 w.2) ∙ ap (option_map (λ f. joined w.0.number f (cold_at c.self.inside.cold.items c.args.place))) w.3 in
    let bound = rw (← c.self.view_is) at c.requires.generation _ whole in
    let within = stored_within c.self.inside.rows c.self.inside.cold.items _ _ c.args.place c.self.invariant (ap is_some (ap (option_and_then (λ row. row.stored)) w.2 ∙ w.3)) in
    let own = ap (λ x. x.generation) (cold-read c.self.inside.cold.items c.args.place c.index_mut-cold.result.now within c.index_mut-cold.ensures.value) in
    omega (arith, bound, own)

pub replace_value-requires : goal.replace_value-requires
replace_value-requires g c = keeps-stored _ _ _ (rw (← c.self.view_is) at c.requires.stored)

pub invariant_of-self : goal.invariant_of-self
invariant_of-self g c =
    let w = stored_row c.self.inside.rows.rows c.args.place (keeps-stored _ _ _ (rw (← c.self.view_is) at c.requires.stored)) in
    let stored = ap (option_and_then (λ row. row.stored)) w.2 ∙ w.3 in
    let within = stored_within c.self.inside.rows c.self.inside.cold.items _ _ c.args.place c.self.invariant (keeps-stored _ _ _ (rw (← c.self.view_is) at c.requires.stored)) in
    stored-beside c.self.inside.rows c.self.inside.cold.items _ _ c.args.place c.self.invariant c.replace_value.new.self w.0 w.2 (rewritten c.args.update w.1) (c.replace_value.ensures.rows w.1 stored) c.replace_value.ensures.room _ (counted-read c.self.inside.cold.items c.args.place c.index_mut-cold.result.now within c.index_mut-cold.ensures.value)

pub returns-clause-value : goal.returns-clause-value
returns-clause-value g c = λ r at.
    let p = record_parts c.self.inside.rows.rows c.self.inside.cold.items c.args.place r (rw (← c.self.view_is) at at) in
    c.replace_value.ensures.value p.1 (ap (option_and_then (λ row. row.stored)) p.2 ∙ p.3) ∙ ap (λ x. x.value) (sym p.4)

pub returns-clause-table : goal.returns-clause-table
returns-clause-table g c = λ r at.
    let p = record_parts c.self.inside.rows.rows c.self.inside.cold.items c.args.place r (rw (← c.self.view_is) at at) in
    let stored = ap (option_and_then (λ row. row.stored)) p.2 ∙ p.3 in
    let within = stored_within c.self.inside.rows c.self.inside.cold.items _ _ c.args.place c.self.invariant (ap is_some stored) in
    let own = cold-read c.self.inside.cold.items c.args.place c.index_mut-cold.result.now within c.index_mut-cold.ensures.value in
    let cold : Cold = record { expires = c.moment_of-cold.result; generation = c.index_mut-cold.result.now.generation + 1; applied = c.index_mut-cold.result.now.applied; weight = c.args.update.weight; counted = c.index_mut-cold.result.now.counted } in
    let after = stored-table c.self.inside.rows c.self.inside.cold.items _ _ c.args.place c.self.invariant c.replace_value.new.self p.0 p.2 (rewritten c.args.update p.1) (c.replace_value.ensures.rows p.1 stored) c.replace_value.ensures.room cold (ap (λ (x : Cold). x.counted) own) in
    let same = joined-updated p.0.number p.1 c.args.update c.moment_of-cold.result c.index_mut-cold.result.now _ c.moment_of-cold.ensures own ∙ ap (updated c.args.update) (sym p.4) in
    rw (← c.self.view_is) (after ∙ same-table _ _ _ _ _ same)
