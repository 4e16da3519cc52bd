use Rattle.std.proofs.Common.{None, refl, sym, ap, ◌∙◌, arith}
use Rattle.std.specs.Option.{option_map}
use Rattle.moka_table.specs.RecordTable.{membership_at}
use Rattle.moka_table.specs.Slots.{counted_as}
use Rattle.moka_table.proofs.ColdRows.{count-whole, counted-read, keeps-row, row_within, membership-whole, beside_after, whole-step}
use Rattle.moka_table.proofs.WholeMaps.{whole-uncounted}
use Rattle.moka_table.proofs.table.RecordTable.clear_membership.Goals as goal

pub replace_membership-old-requires-clause-row : goal.replace_membership-old-requires-clause-row
replace_membership-old-requires-clause-row g c = keeps-row _ _ _ (rw (← c.self.view_is) at c.requires)

pub invariant_of-self : goal.invariant_of-self
invariant_of-self g c =
    let s = whole-uncounted _ _ _ _ c.self.invariant.numbered (rw (← c.self.view_is) at c.requires) c.replace_membership-old.ensures.changes in
    beside_after _ _ _ _ _ _ c.self.invariant c.replace_membership-old.ensures.length refl (omega (arith, c.replace_membership-old.ensures.len, c.replace_membership-old.ensures.room)) s.numbered

pub index-requires : goal.index-requires
index-requires g c = omega (arith, row_within c.self.inside.rows c.self.inside.cold.items _ _ c.self.invariant c.args.place (rw (← c.self.view_is) at c.requires))

pub returns : goal.returns
returns g c =
    let there = rw (← c.self.view_is) at c.requires in
    let within = row_within c.self.inside.rows c.self.inside.cold.items _ _ c.self.invariant c.args.place there in
    let own = counted-read c.self.inside.cold.items c.args.place c.index.result.now within c.index.ensures in
    let s = whole-uncounted _ _ _ _ c.self.invariant.numbered there c.replace_membership-old.ensures.changes in
    let old = c.counted_as.ensures ∙ ap (option_map (counted_as c.index.result.now.counted)) c.replace_membership-old.ensures.old ∙ ap (λ n. option_map (counted_as n) (membership_at c.self.inside.rows.rows c.args.place)) own in
    record {
      old = rw (← c.self.view_is) (old ∙ sym (membership-whole c.self.inside.rows.rows c.self.inside.cold.items c.args.place));
      changes = rw (← c.self.view_is) (whole-step c.self.inside.rows.rows c.self.inside.cold.items c.args.place c.replace_membership-old.new.self.rows (λ row. record row { membership = None }) (λ row. record row { membership = None }) (λ cold row. refl) c.replace_membership-old.ensures.changes);
      records = rw (← c.self.view_is) s.records_is;
      counted = rw (← c.self.view_is) s.counted_is;
      places = rw (← c.self.view_is) s.places_is;
      len = rw (← c.self.view_is) (count-whole _ _ ∙ c.replace_membership-old.ensures.len ∙ sym (count-whole c.self.inside.rows.rows c.self.inside.cold.items));
      room = rw (← c.self.view_is) (omega (arith, c.replace_membership-old.ensures.len));
    }
