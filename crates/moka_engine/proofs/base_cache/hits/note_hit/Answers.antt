use Rattle.std.proofs.Common.{ap, arith}
use Rattle.std.specs.FinMap.{get}
use Rattle.moka_store.specs.Store.{Kept}
use Rattle.moka_store.proofs.Gets.{some_is}
use Rattle.moka_inner.specs.Interior.{Interior}
use Rattle.moka_engine.proofs.base_cache.hits.note_hit.Goals as goal

pub queue_read-requires : goal.queue_read-requires
queue_read-requires g c =
    let found = some_is (get c.args.inner.now.kept.records c.args.handle.number) c.requires.handle.stored in
    let places = ap (λ (k : Kept g.row.K.Denot g.row.V.Denot g.row.S.Denot). get k.places c.args.handle.number) (c.touch.ensures.step found.0 found.1) in
    let next = ap (λ (i : Interior g.row.K.Denot g.row.V.Denot g.row.S.Denot). i.next_number) c.touch.ensures.rest in
    let given = c.requires.given in
    let here = c.requires.handle.placed in
    record { given = omega arith; at = λ p there. cc }
