use Rattle.std.proofs.Common.{◌≡◌, ◌++◌, List, sym, ◌∙◌, subst, length, Contains}
use Rattle.std.proofs.lemmas.Bool.{eqb-true}
use Rattle.std.proofs.lemmas.List.{take-append-drop, nil_from_length}
use Rattle.std.proofs.lemmas.List.Elements.{Contains-append_left}
use Rattle.moka_store.specs.Store.{Kept}
use Rattle.moka_maintenance.specs.declared.queued.QueuedRead.{QueuedRead}
use Rattle.moka_maintenance.specs.Queued.{IsReadAt, read_of}
use Rattle.moka_maintenance.proofs.ReadsApplied.{AreLeft, all-left, fewer-left, none-left, left-located}
use Rattle.moka_maintenance.proofs.admission.apply_all_reads.Goals as goal

pub apply_each_read-requires : goal.apply_each_read-requires
apply_each_read-requires g c =
    let split : c.split_at.result.0.now ++ c.split_at.result.1.now ≡ c.loop-rest.rest.now = rw (c.split_at.ensures.front, c.split_at.ensures.back) (take-append-drop c.min.result c.loop-rest.rest.now) in
    record {
      located = λ q there.
          (let inside = subst (λ (qs : List QueuedRead). Contains qs q) split (Contains-append_left c.split_at.result.0.now c.split_at.result.1.now q there) in
          subst (λ (k : Kept g.row.K.Denot g.row.V.Denot g.row.S.Denot). IsReadAt k.places q.place (read_of q)) (sym c.read_nodes.ensures)
          (left-located c.args.reads.now c.loop-rest.rest.now c.args.store.now c.loop-rest.store q c.loop-rest.invariant c.requires.located inside));
    }

pub loop-rest-preserved : goal.loop-rest-preserved
loop-rest-preserved g c =
    let split : c.split_at.result.0.now ++ c.split_at.result.1.now ≡ c.loop-rest.rest.now = rw (c.split_at.ensures.front, c.split_at.ensures.back) (take-append-drop c.min.result c.loop-rest.rest.now) in
    let made = rw c.read_nodes.ensures at c.apply_each_read.ensures in
    fewer-left _ _ _ _ _ _ _ c.loop-rest.invariant split made

pub loop-rest-init : goal.loop-rest-init
loop-rest-init g c = all-left _ _

pub returns : goal.returns
returns g c =
    let empty = nil_from_length c.loop-rest.rest.now (eqb-true (length c.loop-rest.rest.now) 0 (sym c.is_empty.ensures ∙ c.loop-rest-test.false)) in
    none-left _ _ _ (subst (λ (qs : List QueuedRead). AreLeft c.args.reads.now qs c.args.store.now c.loop-rest.store) empty c.loop-rest.invariant)
