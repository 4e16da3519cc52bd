use Rattle.std.proofs.Common.{refl, sym}
use Rattle.moka_records.specs.declared.records.Record.{Record}
use Rattle.moka_table.specs.RecordTable.{Row, row_at}
use Rattle.moka_table.proofs.TableMaps.{read-of}
use Rattle.moka_store.proofs.Ties.{access-of}
use Rattle.moka_store.proofs.store.Store.slot_behind.Goals as goal

pub next-requires : goal.next-requires
next-requires g c =
    let w = read-of (λ (row : Row (Record _ _)). row.membership) (row_at c.self.inside.table.rows c.args.place) c.in-Some.membership (sym c.in-Some.ensures.membership) in
    rw (access-of _ _ _ _ c.self.invariant.tied c.args.place w.0 w.1 c.in-Some.membership w.2) refl
