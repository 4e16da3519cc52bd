use Rattle.std.proofs.Common.{◌≡◌, ◌+◌, [], length, drop, refl, sym, ap, ◌∙◌, arith}
use Rattle.std.proofs.Math.Seq.{drop-length}
use Rattle.std.proofs.lemmas.List.{drop_more}
use Rattle.moka_maintenance.specs.Queued.{counted_all}
use Rattle.moka_maintenance.proofs.ReadsApplied.{counted-off}
use Rattle.moka_maintenance.proofs.admission.count_reads.Goals as goal

pub returns-then-table_len-eq0 : goal.returns-then-table_len-eq0
returns-then-table_len-eq0 c =
    let off = c.table_len.ensures.off c.if-table_len-eq0.true in
    off ∙ sym (ap (λ sketch. counted_all sketch c.args.reads.now) off ∙ counted-off c.args.reads.now)

pub loop-read-init : goal.loop-read-init
loop-read-init c = refl

pub loop-read-preserved : goal.loop-read-preserved
loop-read-preserved c =
    let reads = c.args.reads.now in
    let behind = drop (c.loop-read.read-index + 1) reads in
    ap (λ sketch. counted_all sketch behind) c.increment.ensures.counted
    ∙ sym (ap (counted_all c.loop-read.sketch) (drop_more reads c.loop-read.read-index _ c.loop-read-test.true))
    ∙ c.loop-read.invariant

pub returns : goal.returns
returns c =
    let reads = c.args.reads.now in
    let end : c.loop-read.read-index ≡ length reads = omega arith in
    let empty : drop c.loop-read.read-index reads ≡ [] = ap (λ i. drop i reads) end ∙ drop-length reads in
    sym (ap (counted_all c.loop-read.sketch) empty) ∙ c.loop-read.invariant
