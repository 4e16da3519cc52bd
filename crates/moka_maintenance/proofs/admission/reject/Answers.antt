use Rattle.std.proofs.Common.{◌≡◌, ℕ, Option, Some, sym, ap, ◌∙◌, is_some}
use Rattle.moka_records.specs.declared.records.Record.{Record}
use Rattle.std.proofs.lemmas.Bool.{eq-eqb}
use Rattle.moka_store.specs.Store.{Kept}
use Rattle.moka_maintenance.proofs.Fates.{rejected-gone}
use Rattle.moka_maintenance.specs.Steps.{Stock, contents_in}
use Rattle.moka_records.proofs.WriteList.{unlisted_taken_out}
use Rattle.moka_maintenance.proofs.admission.reject.Goals as goal
use Rattle.moka_maintenance.proofs.Upkeep.{upkeep-outside}

-- the record that was found has this generation
its_generation : {K V : Type 0} (o : Option (Record K V)) (r s : Record K V) (n m : ℕ) → o ≡ Some r → Some s ≡ o → n ≡ s.generation → n ≡ m → r.generation ≡ m
its_generation o r s n m found there kept equal = cc

pub returns-then-generation-clause-step : goal.returns-then-generation-clause-step
returns-then-generation-clause-step g c = λ r found.
    let same = its_generation _ r c.in-Some.present _ _ found (c.in-Some.ensures.found c.requires.outside.handle.placed) c.generation.ensures c.if-generation.true in
    rejected-gone (contents_in c.args.store.now) (contents_in c.expel.new.store) c.args.handle.number c.args.generation r same c.requires.outside.apart (ap (λ (s : Stock g.row.K.Denot g.row.V.Denot). s.contents) c.expel.ensures.step)

pub returns-then-generation-clause-written : goal.returns-then-generation-clause-written
returns-then-generation-clause-written g c = λ kept.
    ap (λ (s : Stock g.row.K.Denot g.row.V.Denot). s.written) c.expel.ensures.step ∙ unlisted_taken_out c.args.handle.number c.args.store.now.written ((c.invariant_holds.ensures.listed kept).1 c.args.handle.number ∙ ap is_some c.requires.outside.apart)

pub returns-else-generation-clause-written : goal.returns-else-generation-clause-written
returns-else-generation-clause-written g c = λ _. ap (λ (k : Kept g.row.K.Denot g.row.V.Denot g.row.S.Denot). k.written) (c.set_applied.ensures.step c.in-Some.present (sym (c.in-Some.ensures.found c.requires.outside.handle.placed)))

pub returns-then-generation-clause-upkeep : goal.returns-then-generation-clause-upkeep
returns-then-generation-clause-upkeep g c = c.expel.ensures.upkeep.keeps

pub returns-else-generation-clause-upkeep : goal.returns-else-generation-clause-upkeep
returns-else-generation-clause-upkeep g c =
    upkeep-outside c.args.store.now c.set_applied.new.self c.args.handle.number (record c.in-Some.present { applied = c.args.generation }) c.requires.outside.apart
    (c.set_applied.ensures.step c.in-Some.present (sym (c.in-Some.ensures.found c.requires.outside.handle.placed)))

pub returns-then-generation-clause-told : goal.returns-then-generation-clause-told
returns-then-generation-clause-told g c = λ r found.
    let same = its_generation _ r c.in-Some.present _ _ found (c.in-Some.ensures.found c.requires.outside.handle.placed) c.generation.ensures c.if-generation.true in
    rw (eq-eqb r.generation c.args.generation same) (rw found at c.expel.ensures.told)
