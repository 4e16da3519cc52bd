use Rattle.std.proofs.Common.{◌+◌, refl, ap, ◌∙◌}
use Rattle.std.specs.FinMap as finite
use Rattle.moka_store.specs.Store.{Kept}
use Rattle.moka_inner.specs.Interior.{Interior}
use Rattle.moka_store.proofs.Gets.{some_is, len-kept}
use Rattle.moka_inner.proofs.InnerLemmas.{inner-touched}
use Rattle.moka_inner.proofs.inner.Inner.touch.Goals as goal

pub invariant_of-self : goal.invariant_of-self
invariant_of-self g c =
    let same = ap (λ (i : Interior g.row.K.Denot g.row.V.Denot g.row.S.Denot). finite.get i.kept.records c.args.handle.number) c.self.view_is in
    let found = some_is (finite.get c.args.self.now.kept.records c.args.handle.number) c.requires.handle.stored in
    let old = found.0 in
    let there = same ∙ found.1 in
    let step = c.touch.ensures.step old there in
    inner-touched c.self.inside.store c.touch.new.self c.self.inside.outstanding c.self.inside.outstanding c.self.inside.writes c.self.inside.reads (c.self.inside.last_ticket + 1) c.self.inside.next_number c.self.invariant
    c.args.handle.number old (record old { read = c.args.read; expires = c.args.expires }) there
    (ap (λ (k : Kept g.row.K.Denot g.row.V.Denot g.row.S.Denot). k.records) step)
    (ap (λ (k : Kept g.row.K.Denot g.row.V.Denot g.row.S.Denot). k.places) step)
    refl

pub returns-clause-rest : goal.returns-clause-rest
returns-clause-rest g c =
    let same = ap (λ (i : Interior g.row.K.Denot g.row.V.Denot g.row.S.Denot). finite.get i.kept.records c.args.handle.number) c.self.view_is in
    let found = some_is (finite.get c.args.self.now.kept.records c.args.handle.number) c.requires.handle.stored in
    let count = ap finite.len (ap (λ (k : Kept g.row.K.Denot g.row.V.Denot g.row.S.Denot). k.records) (c.touch.ensures.step found.0 (same ∙ found.1))) ∙ len-kept c.self.inside.store.records c.args.handle.number (record found.0 { read = c.args.read; expires = c.args.expires }) found.0 (same ∙ found.1) in
    rw (count, ← c.self.view_is) refl
