use Rattle.std.proofs.Common.{arith}
use Rattle.moka_table.proofs.TableMaps.{row_at-within}
use Rattle.moka_table.proofs.TableCalls.{placed_row}
use Rattle.moka_store.proofs.Places.{record-placed}
use Rattle.moka_store.proofs.store.Store.place_count.Goals as goal

pub returns : goal.returns
returns g c =
    let rows = c.self.inside.table.rows in
    record {
      places = rw (← c.self.view_is) (λ n place there.
          (let w = placed_row rows c.self.invariant.tied.numbered place n there in
          let within = row_at-within rows place w.0 w.1 in
          let most = c.place_count.ensures in
          omega arith));
      rowed = rw (← c.self.view_is) (record-placed g.K.PartialEq.eq rows _ _ c.self.invariant.tied);
    }
