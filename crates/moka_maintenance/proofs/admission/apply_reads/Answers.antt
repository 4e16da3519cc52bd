use Rattle.std.proofs.Common.{List, sym, ap, ◌∙◌, subst, Contains}
use Rattle.std.proofs.lemmas.List.Elements.{Contains-append_left, Contains-append_right}
use Rattle.moka_parts.specs.State.{Contents}
use Rattle.moka_maintenance.specs.declared.queued.QueuedRead.{QueuedRead}
use Rattle.moka_maintenance.specs.Queued.{counted_all}
use Rattle.moka_maintenance.specs.Admission.{AppliesReads}
use Rattle.moka_maintenance.specs.Steps.{contents_with}
use Rattle.moka_maintenance.proofs.ReadsApplied.{applies-both, counted-both, located-on, reads-apart}
use Rattle.moka_maintenance.proofs.admission.apply_reads.Goals as goal

pub apply_all_reads-requires : goal.apply_all_reads-requires
apply_all_reads-requires g c =
    record { located = λ q there. c.requires.located q (subst (λ (qs : List QueuedRead). Contains qs q) c.as_slices.ensures (Contains-append_left c.as_slices.result.0.now c.as_slices.result.1.now q there)) }

pub apply_all_reads-requires-2 : goal.apply_all_reads-requires-2
apply_all_reads-requires-2 g c = record {
  located = λ q there.
      located-on _ _ _ q c.apply_all_reads.ensures
      (c.requires.located q (subst (λ (qs : List QueuedRead). Contains qs q) c.as_slices.ensures (Contains-append_right c.as_slices.result.0.now c.as_slices.result.1.now q there)));
}

pub returns-clause-applied : goal.returns-clause-applied
returns-clause-applied g c =
    let made = subst (λ qs. AppliesReads qs c.args.store.now c.apply_all_reads-2.new.store) c.as_slices.ensures (applies-both _ _ _ _ _ c.apply_all_reads.ensures c.apply_all_reads-2.ensures) in
    let counted =
    c.count_reads-2.ensures
    ∙ ap (λ sketch. counted_all sketch c.as_slices.result.1.now) c.count_reads.ensures
    ∙ sym (counted-both c.args.sketch.now c.as_slices.result.0.now c.as_slices.result.1.now)
    ∙ ap (λ (qs : List QueuedRead). counted_all c.args.sketch.now qs) c.as_slices.ensures in
    ap (λ sketch. contents_with sketch c.apply_all_reads-2.new.store) counted
    ∙ ap (λ (d : Contents g.row.K.Denot g.row.V.Denot). record d { sketch = counted_all c.args.sketch.now c.args.reads.now.items }) made.applied
    ∙ sym (reads-apart (contents_with c.args.sketch.now c.args.store.now) c.args.reads.now.items)

pub returns-clause-served : goal.returns-clause-served
returns-clause-served g c =
    let made = subst (λ qs. AppliesReads qs c.args.store.now c.apply_all_reads-2.new.store) c.as_slices.ensures (applies-both _ _ _ _ _ c.apply_all_reads.ensures c.apply_all_reads-2.ensures) in
    made.served
