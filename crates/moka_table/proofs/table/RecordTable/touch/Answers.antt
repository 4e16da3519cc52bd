use Rattle.std.proofs.Common.{ap, sym, ◌∙◌, is_some, arith}
use Rattle.std.specs.Option.{option_map, option_and_then}
use Rattle.moka_records.specs.RecordParts.{joined}
use Rattle.moka_records.specs.declared.record_ref.Cold.{Cold}
use Rattle.moka_records.specs.declared.records.Record.{Record}
use Rattle.moka_table.specs.RecordTable.{number_at}
use Rattle.moka_table.specs.States.{touched}
use Rattle.moka_table.specs.Rows.{cold_at}
use Rattle.moka_table.proofs.ColdRows.{same-table, keeps-stored, stored_within, stored-whole, record_parts, cold-read, counted-read, expiring-is, joined-renewed, joined-read, stored-beside, stored-table, front-beside, front-table}
use Rattle.moka_table.proofs.TableCalls.{stored_row}
use Rattle.moka_table.proofs.table.RecordTable.touch.Goals as goal

pub touch-requires : goal.touch-requires
touch-requires g c = record {
  stored = keeps-stored _ _ _ (rw (← c.self.view_is) at c.requires.stored);
  kept = λ kept f is.
      let whole = stored-whole c.self.inside.rows.rows c.self.inside.cold.items c.args.place ∙ ap (option_map (λ f. joined (number_at c.self.inside.rows.rows c.args.place) f (cold_at c.self.inside.cold.items c.args.place))) is in
      let same = rw (← c.self.view_is) at c.requires.kept kept _ whole in
      c.is_some.ensures ∙ ap is_some same ∙ expiring-is _ _;
}

pub index_mut-requires : goal.index_mut-requires
index_mut-requires g c = omega (arith, stored_within c.self.inside.rows c.self.inside.cold.items _ _ c.args.place c.self.invariant (keeps-stored _ _ _ (rw (← c.self.view_is) at c.requires.stored)))

pub invariant_of-self : goal.invariant_of-self
invariant_of-self g c =
    let w = stored_row c.self.inside.rows.rows c.args.place (keeps-stored _ _ _ (rw (← c.self.view_is) at c.requires.stored)) in
    let stored = ap (option_and_then (λ row. row.stored)) w.2 ∙ w.3 in
    let within = stored_within c.self.inside.rows c.self.inside.cold.items _ _ c.args.place c.self.invariant (keeps-stored _ _ _ (rw (← c.self.view_is) at c.requires.stored)) in
    stored-beside c.self.inside.rows c.self.inside.cold.items _ _ c.args.place c.self.invariant c.touch.new.self w.0 w.2 (touched c.args.read c.is_some.result w.1) (c.touch.ensures.rows w.1 stored) c.touch.ensures.room _ (counted-read c.self.inside.cold.items c.args.place c.index_mut.result.now within c.index_mut.ensures.value)

pub invariant_of-self-else-is_renewed : goal.invariant_of-self-else-is_renewed
invariant_of-self-else-is_renewed g c =
    let w = stored_row c.self.inside.rows.rows c.args.place (keeps-stored _ _ _ (rw (← c.self.view_is) at c.requires.stored)) in
    let stored = ap (option_and_then (λ row. row.stored)) w.2 ∙ w.3 in
    front-beside c.self.inside.rows c.self.inside.cold.items _ _ c.args.place c.self.invariant c.touch.new.self w.0 w.2 (touched c.args.read c.is_some.result w.1) (c.touch.ensures.rows w.1 stored) c.touch.ensures.room

pub returns-then-is_renewed : goal.returns-then-is_renewed
returns-then-is_renewed g c = λ r at.
    let p = record_parts c.self.inside.rows.rows c.self.inside.cold.items c.args.place r (rw (← c.self.view_is) at at) in
    let stored = ap (option_and_then (λ row. row.stored)) p.2 ∙ p.3 in
    let within = stored_within c.self.inside.rows c.self.inside.cold.items _ _ c.args.place c.self.invariant (ap is_some stored) in
    let own = cold-read c.self.inside.cold.items c.args.place c.index_mut.result.now within c.index_mut.ensures.value in
    let cold : Cold = record c.index_mut.result.now { expires = c.moment_of.result } in
    let after = stored-table c.self.inside.rows c.self.inside.cold.items _ _ c.args.place c.self.invariant c.touch.new.self p.0 p.2 (touched c.args.read c.is_some.result p.1) (c.touch.ensures.rows p.1 stored) c.touch.ensures.room cold (ap (λ (x : Cold). x.counted) own) in
    let same = joined-renewed p.0.number p.1 c.args.read c.args.expires c.is_some.result c.is_some.ensures c.moment_of.result c.index_mut.result.now _ c.moment_of.ensures own ∙ ap (λ (x : Record g.row.K.Denot g.row.V.Denot). record x { read = c.args.read; expires = c.args.expires }) (sym p.4) in
    rw (← c.self.view_is) (after ∙ same-table _ _ _ _ _ same)

pub returns-else-is_renewed : goal.returns-else-is_renewed
returns-else-is_renewed g c = λ r at.
    let there = rw (← c.self.view_is) at at in
    let p = record_parts c.self.inside.rows.rows c.self.inside.cold.items c.args.place r there in
    let stored = ap (option_and_then (λ row. row.stored)) p.2 ∙ p.3 in
    let kept = rw (← c.self.view_is) at c.requires.kept c.if-is_renewed.false r there ∙ ap (λ x. x.expires) p.4 in
    let after = front-table c.self.inside.rows c.self.inside.cold.items _ _ c.args.place c.self.invariant c.touch.new.self p.0 p.2 (touched c.args.read c.is_some.result p.1) (c.touch.ensures.rows p.1 stored) c.touch.ensures.room in
    let same = joined-read p.0.number p.1 c.args.read c.args.expires c.is_some.result c.is_some.ensures (cold_at c.self.inside.cold.items c.args.place) kept ∙ ap (λ (x : Record g.row.K.Denot g.row.V.Denot). record x { read = c.args.read; expires = c.args.expires }) (sym p.4) in
    rw (← c.self.view_is) (after ∙ same-table _ _ _ _ _ same)
