use Rattle.std.proofs.Common.{refl, sym, ◌∙◌, arith}
use Rattle.std.proofs.lemmas.List.{length-set}
use Rattle.moka_table.proofs.ColdRows.{count-whole, cold-read, member_within, whole-recounts, beside_after}
use Rattle.moka_table.proofs.WholeMaps.{whole-recounted}
use Rattle.moka_table.proofs.table.RecordTable.set_counted.Goals as goal

pub index_mut-requires : goal.index_mut-requires
index_mut-requires g c = omega (arith, member_within c.self.inside.rows c.self.inside.cold.items _ _ c.self.invariant c.args.place (rw (← c.self.view_is) at c.requires))

pub invariant_of-self : goal.invariant_of-self
invariant_of-self g c =
    let s = whole-recounted c.self.inside.rows c.self.inside.cold.items _ _ c.args.place c.self.invariant c.index_mut.result.now c.index_mut.ensures.value c.args.weight (rw (← c.self.view_is) at c.requires) in
    beside_after _ _ _ _ _ _ c.self.invariant refl (length-set _ _ _) refl s.numbered

pub returns : goal.returns
returns g c =
    let there = rw (← c.self.view_is) at c.requires in
    let within = member_within c.self.inside.rows c.self.inside.cold.items _ _ c.self.invariant c.args.place there in
    let own = cold-read c.self.inside.cold.items c.args.place c.index_mut.result.now within c.index_mut.ensures.value in
    let s = whole-recounted c.self.inside.rows c.self.inside.cold.items _ _ c.args.place c.self.invariant c.index_mut.result.now c.index_mut.ensures.value c.args.weight there in
    record {
      changes = rw (← c.self.view_is) (whole-recounts c.self.inside.rows.rows c.self.inside.cold.items c.args.place c.index_mut.result.now own within c.args.weight);
      records = rw (← c.self.view_is) s.records_is;
      counted = rw (← c.self.view_is) s.counted_is;
      places = rw (← c.self.view_is) s.places_is;
      len = rw (← c.self.view_is) (count-whole _ _ ∙ sym (count-whole c.self.inside.rows.rows c.self.inside.cold.items));
      room = rw (← c.self.view_is) refl;
    }
