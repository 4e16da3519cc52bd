use Rattle.std.proofs.Common.{◌≡◌, ◌+◌, refl, ap, sym, ◌∙◌, arith}
use Rattle.std.specs.FinMap as finite
use Rattle.std.proofs.lemmas.Option.{same_Some}
use Rattle.moka_records.specs.declared.records.Operation.TheVariants.{Upsert}
use Rattle.moka_store.specs.Store.{Kept}
use Rattle.moka_table.specs.Updates.{updated}
use Rattle.moka_inner.specs.Interior.{Interior}
use Rattle.moka_inner.proofs.InnerLemmas.{inner-updated}
use Rattle.moka_inner.proofs.ValuesLemmas.{map_values-insert}
use Rattle.moka_inner.proofs.inner.Inner.update.Goals as goal

pub invariant_of-self : goal.invariant_of-self
invariant_of-self g c =
    let tickets = ap (λ (i : Interior g.row.K.Denot g.row.V.Denot g.row.S.Denot). i.next_ticket + finite.len i.kept.records) c.self.view_is in
    let room = ap (λ (i : Interior g.row.K.Denot g.row.V.Denot g.row.S.Denot). i.operation_room) c.self.view_is in
    let here = ap (λ (i : Interior g.row.K.Denot g.row.V.Denot g.row.S.Denot). finite.get i.kept.places c.args.handle.number) c.self.view_is ∙ c.requires.handle.placed in
    let there = sym (c.in-Some.ensures.found here) in
    let old = c.in-Some.found in
    let step = c.update-old.ensures.step old there in
    inner-updated c.self.inside.store c.update-old.new.self c.self.inside.outstanding c.hand_out.new.self c.self.inside.writes c.self.inside.reads (c.self.inside.last_ticket + 1) c.self.inside.next_number c.self.invariant
    c.args.handle.number old (updated c.args.update old)
    (record { place = c.args.handle.place; operation = Upsert c.args.handle.number (c.generation.result + 1) c.args.update.weight c.args.hash })
    there
    (ap (λ (k : Kept g.row.K.Denot g.row.V.Denot g.row.S.Denot). k.records) step)
    (ap (λ (k : Kept g.row.K.Denot g.row.V.Denot g.row.S.Denot). k.places) step)
    c.hand_out.ensures.items
    refl here
    (let t = c.requires.tickets in omega arith)
    (let o = c.requires.operations in let r = c.hand_out.ensures.room in omega arith)

pub returns-clause-step : goal.returns-clause-step
returns-clause-step g c = λ r there.
    let here = ap (λ (i : Interior g.row.K.Denot g.row.V.Denot g.row.S.Denot). finite.get i.kept.places c.args.handle.number) c.self.view_is ∙ c.requires.handle.placed in
    let same = ap (λ (i : Interior g.row.K.Denot g.row.V.Denot g.row.S.Denot). finite.get i.kept.records c.args.handle.number) c.self.view_is in
    let found : c.in-Some.found ≡ r = same_Some _ _ (c.in-Some.ensures.found here ∙ (same ∙ there)) in
    rw (c.update-old.ensures.step r (same ∙ there), c.hand_out.ensures.items, map_values-insert, c.generation.ensures, found, ← c.self.view_is) refl
