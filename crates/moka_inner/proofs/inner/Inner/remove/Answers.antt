use Rattle.std.proofs.Common.{◌+◌, refl, ap, ◌∙◌, arith}
use Rattle.std.specs.FinMap as finite
use Rattle.moka_records.specs.declared.records.Operation.TheVariants.{Removal}
use Rattle.moka_store.specs.Store.{Kept}
use Rattle.moka_inner.specs.Interior.{Interior}
use Rattle.moka_store.proofs.Gets.{len-some, some_is}
use Rattle.moka_inner.proofs.InnerLemmas.{inner-removed}
use Rattle.moka_inner.proofs.ValuesLemmas.{map_values-insert}
use Rattle.moka_inner.proofs.inner.Inner.remove.Goals as goal

pub overflow_add-ticket : goal.overflow_add-ticket
overflow_add-ticket g c =
    let same = ap (λ (i : Interior g.row.K.Denot g.row.V.Denot g.row.S.Denot). finite.get i.kept.records c.args.handle.number) c.self.view_is in
    let found = some_is (finite.get c.args.self.now.kept.records c.args.handle.number) c.requires.handle.stored in
    let one = len-some c.self.inside.store.records c.args.handle.number found.0 (same ∙ found.1) in
    let tickets = c.self.invariant.tickets in
    omega arith

pub overflow_add-operation : goal.overflow_add-operation
overflow_add-operation g c =
    let there = c.take_record-record.ensures.taken in
    let one = len-some c.self.inside.store.records c.args.handle.number c.take_record-record.result there in
    let tickets = c.self.invariant.tickets in
    let below = c.self.invariant.generations c.args.handle.number c.take_record-record.result there in
    omega arith

pub hand_out-requires-clause-room : goal.hand_out-requires-clause-room
hand_out-requires-clause-room g c =
    let one = len-some c.self.inside.store.records c.args.handle.number c.take_record-record.result c.take_record-record.ensures.taken in
    let removals = c.self.invariant.removals in
    omega arith

pub invariant_of-self : goal.invariant_of-self
invariant_of-self g c =
    let here = ap (λ (i : Interior g.row.K.Denot g.row.V.Denot g.row.S.Denot). finite.get i.kept.places c.args.handle.number) c.self.view_is ∙ c.requires.handle.placed in
    let taken = c.take_record-record.result in
    inner-removed c.self.inside.store c.take_record-record.new.self c.self.inside.outstanding c.hand_out.new.self c.self.inside.writes c.self.inside.reads (c.self.inside.last_ticket + 1) c.self.inside.next_number c.self.invariant
    c.args.handle.number taken
    (record { place = c.args.handle.place; operation = Removal c.args.handle.number (taken.generation + 1) })
    (taken.generation + 1) c.take_record-record.ensures.taken
    (ap (λ (k : Kept g.row.K.Denot g.row.V.Denot g.row.S.Denot). k.records) c.take_record-record.ensures.step)
    c.take_record-record.ensures.places c.hand_out.ensures.items
    refl here c.hand_out.ensures.room

pub returns-clause-step : goal.returns-clause-step
returns-clause-step g c =
    rw (c.take_record-record.ensures.step, c.hand_out.ensures.items, map_values-insert, ← c.self.view_is) refl
