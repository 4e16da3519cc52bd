use Rattle.std.proofs.Common.{arith}
use Rattle.std.proofs.lemmas.Option.{slice_get_within}
use Rattle.slab.specs.declared.Entry.TheVariants.{Vacant, Occupied}
use Rattle.slab.proofs.EntryLemmas.{occupied_at, count-set, IsSound-vacate}
use Rattle.moka_table.proofs.RowCalls.{set-changes, length-rows}
use Rattle.moka_table.proofs.table.rows.Rows.remove.Goals as goal

pub index_mut-requires : goal.index_mut-requires
index_mut-requires g c =
    let found = occupied_at c.self.inside.slots.items c.args.place (rw (← c.self.view_is) at c.requires) in
    omega (arith, slice_get_within c.self.inside.slots.items c.args.place (Occupied found.0) found.1)

pub invariant_of-self : goal.invariant_of-self
invariant_of-self g c =
    let found = occupied_at c.self.inside.slots.items c.args.place (rw (← c.self.view_is) at c.requires) in
    rw (c.replace-row.ensures.after, c.vacant.ensures) (IsSound-vacate _ _ _ c.args.place found.0 c.self.invariant found.1)

pub overflow_sub-self : goal.overflow_sub-self
overflow_sub-self g c =
    let found = occupied_at c.self.inside.slots.items c.args.place (rw (← c.self.view_is) at c.requires) in
    let counted = count-set c.self.inside.slots.items c.args.place (Occupied found.0) (Vacant c.self.inside.vacant) found.1 in
    omega (arith, counted, c.self.invariant.counted)

pub returns : goal.returns
returns g c =
    let found = occupied_at c.self.inside.slots.items c.args.place (rw (← c.self.view_is) at c.requires) in
    let counted = count-set c.self.inside.slots.items c.args.place (Occupied found.0) (Vacant c.self.inside.vacant) found.1 in
    record {
      changes = rw (← c.self.view_is, c.replace-row.ensures.after, c.vacant.ensures) (set-changes _ _ (Vacant c.self.inside.vacant) (slice_get_within _ _ _ found.1));
      length = rw (← c.self.view_is, c.replace-row.ensures.after) (length-rows _ _ _);
      len = rw (← c.self.view_is, c.replace-row.ensures.after, c.vacant.ensures) (omega arith);
      room = rw (← c.self.view_is) (omega (arith, counted, c.self.invariant.counted, c.self.invariant.total));
    }
