use Rattle.std.proofs.Common.{sym, ap, ◌∙◌, arith}
use Rattle.std.proofs.lemmas.List.{length-set}
use Rattle.std.specs.Option.{option_map}
use Rattle.moka_table.specs.RecordTable.{membership_at}
use Rattle.moka_table.specs.Slots.{counted_as}
use Rattle.moka_table.proofs.ColdRows.{count-whole, cold-read, keeps-row, row_within, membership-whole, whole-member, beside_after}
use Rattle.moka_table.proofs.WholeMaps.{whole-counted}
use Rattle.moka_table.proofs.table.RecordTable.set_membership.Goals as goal

pub index_mut-cold-requires : goal.index_mut-cold-requires
index_mut-cold-requires g c = omega (arith, row_within c.self.inside.rows c.self.inside.cold.items _ _ c.self.invariant c.args.place (rw (← c.self.view_is) at c.requires.row))

pub replace_membership-old-requires-clause-row : goal.replace_membership-old-requires-clause-row
replace_membership-old-requires-clause-row g c = keeps-row _ _ _ (rw (← c.self.view_is) at c.requires.row)

pub invariant_of-self : goal.invariant_of-self
invariant_of-self g c =
    let s = whole-counted c.self.inside.rows c.self.inside.cold.items _ _ c.args.place c.self.invariant c.index_mut-cold.result.now c.index_mut-cold.ensures.value c.replace_membership-old.new.self.rows c.args.membership (rw (← c.self.view_is) at c.requires.row) c.replace_membership-old.ensures.changes in
    beside_after _ _ _ _ _ _ c.self.invariant c.replace_membership-old.ensures.length (length-set _ _ _) (omega (arith, c.replace_membership-old.ensures.len, c.replace_membership-old.ensures.room)) s.numbered

pub returns : goal.returns
returns g c =
    let there = rw (← c.self.view_is) at c.requires.row in
    let within = row_within c.self.inside.rows c.self.inside.cold.items _ _ c.self.invariant c.args.place there in
    let own = cold-read c.self.inside.cold.items c.args.place c.index_mut-cold.result.now within c.index_mut-cold.ensures.value in
    let s = whole-counted c.self.inside.rows c.self.inside.cold.items _ _ c.args.place c.self.invariant c.index_mut-cold.result.now c.index_mut-cold.ensures.value c.replace_membership-old.new.self.rows c.args.membership there c.replace_membership-old.ensures.changes in
    let old = c.counted_as.ensures ∙ ap (option_map (counted_as c.index_mut-cold.result.now.counted)) c.replace_membership-old.ensures.old ∙ ap (λ n. option_map (counted_as n) (membership_at c.self.inside.rows.rows c.args.place)) (ap (λ x. x.counted) own) in
    record {
      old = rw (← c.self.view_is) (old ∙ sym (membership-whole c.self.inside.rows.rows c.self.inside.cold.items c.args.place));
      changes = rw (← c.self.view_is) (whole-member c.self.inside.rows.rows c.self.inside.cold.items c.args.place c.index_mut-cold.result.now own within c.replace_membership-old.new.self.rows c.args.membership c.replace_membership-old.ensures.changes);
      records = rw (← c.self.view_is) s.records_is;
      counted = rw (← c.self.view_is) s.counted_is;
      places = rw (← c.self.view_is) s.places_is;
      len = rw (← c.self.view_is) (count-whole _ _ ∙ c.replace_membership-old.ensures.len ∙ sym (count-whole c.self.inside.rows.rows c.self.inside.cold.items));
      room = rw (← c.self.view_is) (omega (arith, c.replace_membership-old.ensures.len));
    }
