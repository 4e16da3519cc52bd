use Rattle.std.proofs.Common.{ℕ, ◌<◌, ◌≤◌, ◌+◌, ◌-◌, refl, ap, arith}
use Rattle.moka_records.specs.declared.records.Operation.TheVariants.{Upsert}
use Rattle.moka_records.specs.declared.records.Record.{Record}
use Rattle.moka_store.specs.Store.{Kept}
use Rattle.moka_inner.specs.Interior.{first_record}
use Rattle.moka_inner.proofs.InnerLemmas.{inner-inserted}
use Rattle.moka_inner.proofs.ValuesLemmas.{map_values-insert}
use Rattle.moka_inner.proofs.inner.Inner.restore.Goals as goal

-- what was handed out leaves room for the removals
fits : (records room handed : ℕ) → 1 < room - records → room ≤ handed + 1 → records + 1 ≤ handed
fits records room handed some left = omega arith

pub invariant_of-self : goal.invariant_of-self
invariant_of-self g c =
    let step = c.insert_new-handle.ensures.step in
    let first : Record g.row.K.Denot g.row.V.Denot = first_record c.self.inside.next_number c.args.key c.args.hashes.hash c.args.update in
    inner-inserted c.self.inside.store c.insert_new-handle.new.self c.self.inside.outstanding c.hand_out.new.self c.self.inside.writes c.self.inside.reads (c.self.inside.last_ticket + 1) c.self.inside.next_number c.self.invariant
    (record first { read = c.args.read })
    (record { place = c.insert_new-handle.result.place; operation = Upsert c.self.inside.next_number 1 c.args.update.weight c.args.hashes.hash })
    (rw c.first_record-stored.ensures at (ap (λ (k : Kept g.row.K.Denot g.row.V.Denot g.row.S.Denot). k.records) step))
    (rw c.first_record-stored.ensures at (ap (λ (k : Kept g.row.K.Denot g.row.V.Denot g.row.S.Denot). k.places) step))
    c.hand_out.ensures.items
    refl refl
    (rw (← c.self.view_is) at c.requires.tickets)
    (fits _ c.self.inside.outstanding.room c.hand_out.new.self.room (rw (← c.self.view_is) at c.requires.operations) c.hand_out.ensures.room)

pub returns-clause-step : goal.returns-clause-step
returns-clause-step g c =
    rw (c.insert_new-handle.ensures.step, c.first_record-stored.ensures, c.hand_out.ensures.items, map_values-insert, ← c.self.view_is) refl
