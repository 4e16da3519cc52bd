use Rattle.std.proofs.Common.{◌++◌, ◌∷◌, [], Some, None, ap, sym, ◌∙◌, arith}
use Rattle.std.proofs.lemmas.List.{length-map, length_push}
use Rattle.slab.specs.declared.Entry.TheVariants.{Vacant, Occupied}
use Rattle.slab.proofs.EntryLemmas.{full_at_end, next_within, next_is_vacant, vacant_before_end, count-set, IsSound-push, IsSound-fill}
use Rattle.slab.specs.Entry.{value_of}
use Rattle.moka_table.proofs.RowCalls.{set-changes, push-changes, length-rows, read_next}
use Rattle.moka_table.proofs.table.rows.Rows.insert.Goals as goal

pub push_reserved-requires : goal.push_reserved-requires
push_reserved-requires g c =
    let room = rw (← c.self.view_is) at c.requires in
    omega (arith, full_at_end _ _ _ c.self.invariant (omega arith))

pub index_mut-requires : goal.index_mut-requires
index_mut-requires g c = omega (arith, next_within _ _ _ c.self.invariant (λ e. omega arith))

pub into_next-self-inside-requires : goal.into_next-self-inside-requires
into_next-self-inside-requires g c = ap value_of (c.replace.ensures.value ∙ (read_next _ _ _ _ c.self.invariant (λ e. omega arith) c.index_mut.ensures.value).1)

pub invariant_of-self : goal.invariant_of-self
invariant_of-self g c = rw (c.push_reserved.ensures.items, c.full-slot.ensures) (IsSound-push _ _ _ _ c.self.invariant (omega arith))

pub invariant_of-self-2 : goal.invariant_of-self-2
invariant_of-self-2 g c =
    let there = vacant_before_end _ _ _ c.self.invariant (λ e. omega arith) in
    let read = read_next _ _ _ _ c.self.invariant (λ e. omega arith) c.index_mut.ensures.value in
    let old = sym c.into_next-self-inside.ensures ∙ c.replace.ensures.value ∙ read.1 in
    rw (c.replace.ensures.after, c.full-slot.ensures) (IsSound-fill _ _ _ _ _ c.self.invariant (read.2 ∙ ap Some (sym old)))

pub returns-then-place-len : goal.returns-then-place-len
returns-then-place-len g c =
    let room = rw (← c.self.view_is) at c.requires in
    let full = full_at_end _ _ _ c.self.invariant (omega arith) in
    let counted = (IsSound-push c.self.inside.slots.items c.self.inside.len c.self.inside.vacant (record { number = c.args.number; stored = Some c.args.front; membership = None; timer = None }) c.self.invariant (omega arith)).counted in
    record {
      vacant = rw (← c.self.view_is) (next_is_vacant _ _ _ c.self.invariant);
      pushed = λ last. rw (← c.self.view_is, c.push_reserved.ensures.items) (
        omega (arith, length-map (c.self.inside.slots.items ++ c.full-slot.result ∷ []) value_of, length-map c.self.inside.slots.items value_of, length_push c.self.inside.slots.items c.full-slot.result),
        omega (arith, full, c.self.invariant.counted, length-map c.self.inside.slots.items value_of),
      );
      filled = λ other. absurd (other (rw (← c.self.view_is) (omega (arith, length-map c.self.inside.slots.items value_of))));
      changes = rw (← c.self.view_is, c.push_reserved.ensures.items, c.full-slot.ensures) (push-changes _ _ _ (omega arith));
      len = rw (← c.self.view_is, c.push_reserved.ensures.items, c.full-slot.ensures) (omega (arith, counted, c.self.invariant.counted));
      room = rw (← c.self.view_is) (omega (arith, c.push_reserved.ensures.capacity));
    }

pub returns : goal.returns
returns g c =
    let room = rw (← c.self.view_is) at c.requires in
    let within = next_within _ _ _ c.self.invariant (λ e. omega arith) in
    let read = read_next _ _ _ _ c.self.invariant (λ e. omega arith) c.index_mut.ensures.value in
    let counted = count-set c.self.inside.slots.items _ (Vacant read.0) (Occupied (record { number = c.args.number; stored = Some c.args.front; membership = None; timer = None })) read.2 in
    record {
      vacant = rw (← c.self.view_is) (next_is_vacant _ _ _ c.self.invariant);
      pushed = λ same. absurd (omega (arith, length-map c.self.inside.slots.items value_of, rw (← c.self.view_is) at same));
      filled = λ other. rw (← c.self.view_is, c.replace.ensures.after, c.full-slot.ensures) (length-rows _ _ _, omega (arith, within, length-map c.self.inside.slots.items value_of));
      changes = rw (← c.self.view_is, c.replace.ensures.after, c.full-slot.ensures) (set-changes _ _ _ within);
      len = rw (← c.self.view_is, c.replace.ensures.after, c.full-slot.ensures) (omega (arith, counted));
      room = rw (← c.self.view_is) (omega arith);
    }
