use Rattle.std.proofs.Common.{◌≡◌, ◌+◌, length, Option, Some, None, is_some, option_map, true, refl, sym, ◌∙◌, arith, rules}
use Rattle.std.specs.FinMap.{get}
use Rattle.std.proofs.lemmas.List.{length-map, map-append}
use Rattle.moka_records.proofs.Values.{remove_absent}
use Rattle.moka_store.proofs.Gets.{none_by_test}
use Rattle.moka_maintenance.specs.declared.queued.PlacedWrite.{PlacedWrite}
use Rattle.moka_inner.proofs.InnerLemmas.{inner-sent, inner-unsent}
use Rattle.moka_inner.proofs.ValuesLemmas.{get-map_values, map_values-none, map_values-remove}
use Rattle.moka_inner.proofs.inner.Inner.send.Goals as goal

-- what is there is there with its operation alone
there_too : (o : Option PlacedWrite) → is_some o ≡ true → option_map (λ (w : PlacedWrite). w.operation) o ≡ None → ⊥
there_too None h e = cc
there_too (Some w) h e = cc

pub returns-then-contains-clause-unknown : goal.returns-then-contains-clause-unknown
returns-then-contains-clause-unknown g c =
    rw (← c.self.view_is, get-map_values) (λ e. cc, λ none. absurd (there_too (get c.self.inside.outstanding.items c.args.ticket.0) (sym c.contains.ensures ∙ c.if-contains.true) none))

pub returns-then-is_full-clause-unknown : goal.returns-then-is_full-clause-unknown
returns-then-is_full-clause-unknown g c =
    rw (← c.self.view_is) (λ _. map_values-none (λ (w : PlacedWrite). w.operation) c.self.inside.outstanding.items c.args.ticket.0 (none_by_test (get c.self.inside.outstanding.items c.args.ticket.0) (sym c.contains.ensures ∙ c.if-contains.false)), λ _. refl)

pub invariant_of-self : goal.invariant_of-self
invariant_of-self g c =
    inner-unsent c.self.inside.store c.self.inside.outstanding c.take.new.self c.self.inside.writes c.self.inside.reads (c.self.inside.last_ticket + 1) c.self.inside.next_number c.self.invariant c.args.ticket.0
    (sym c.take.ensures.item ∙ c.in_default.is) c.take.ensures.items c.take.ensures.room

pub returns-in_default-clause-unknown : goal.returns-in_default-clause-unknown
returns-in_default-clause-unknown g c =
    rw (← c.self.view_is) (λ _. map_values-none (λ (w : PlacedWrite). w.operation) c.self.inside.outstanding.items c.args.ticket.0 (sym c.take.ensures.item ∙ c.in_default.is), λ _. refl)

pub returns-in_default-clause-err : goal.returns-in_default-clause-err
returns-in_default-clause-err g c =
    let same = c.take.ensures.items ∙ remove_absent c.self.inside.outstanding.items c.args.ticket.0 (sym c.take.ensures.item ∙ c.in_default.is) in
    rw (same, ← c.self.view_is) refl

pub invariant_of-self-2 : goal.invariant_of-self-2
invariant_of-self-2 g c =
    let there = sym c.take.ensures.item ∙ c.in-Some.is in
    rw (c.in-Ok.ensures.ok) (inner-sent c.self.inside.store c.self.inside.outstanding c.take.new.self c.self.inside.writes c.self.inside.reads (c.self.inside.last_ticket + 1) c.self.inside.next_number c.self.invariant c.args.ticket.0 c.in-Some.write there c.take.ensures.items c.take.ensures.room (c.in-Ok.ensures.variant.0 refl))

pub returns-clause-unknown : goal.returns-clause-unknown
returns-clause-unknown g c =
    let there = sym c.take.ensures.item ∙ c.in-Some.is in
    rw (← c.self.view_is, get-map_values, there) (λ e. cc, λ none. cc)

pub returns-clause-ok : goal.returns-clause-ok
returns-clause-ok g c =
    let there = sym c.take.ensures.item ∙ c.in-Some.is in
    rw (← c.self.view_is, get-map_values, there, c.in-Ok.ensures.ok, c.take.ensures.items, map_values-remove, map-append) (c.in-Some.write.operation, refl, refl)

pub returns-clause-room : goal.returns-clause-room
returns-clause-room g c =
    let fits = c.in-Ok.ensures.variant.0 refl in
    let q = c.self.invariant.write_queue in
    rw (← c.self.view_is, length-map) (omega arith)

pub returns-then-contains-clause-full : goal.returns-then-contains-clause-full
returns-then-contains-clause-full g c =
    let q = c.self.invariant.write_queue in
    let full : length c.self.inside.writes.items ≡ c.self.inside.writes.capacity = search rules in
    rw (← c.self.view_is, length-map) (λ _. omega arith)
