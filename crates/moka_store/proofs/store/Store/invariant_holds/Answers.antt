use Rattle.moka_store.proofs.KnownOrders.{each-once, known-order, unkept-order}
use Rattle.moka_store.proofs.Places.{record-placed, member-placed}
use Rattle.moka_store.proofs.Steps.{one-each}
use Rattle.moka_store.proofs.store.Store.invariant_holds.Goals as goal

pub returns : goal.returns
returns g c = record {
  one_each = rw (← c.self.view_is) (one-each _ _ _ _ c.self.invariant.tied g.met.K.Eq.laws);
  records = rw (← c.self.view_is) (record-placed _ _ _ _ c.self.invariant.tied);
  members = rw (← c.self.view_is) (member-placed _ _ _ _ c.self.invariant.tied);
  narrow = rw (← c.self.view_is) c.self.invariant.narrow;
  distinct = rw (← c.self.view_is) c.self.invariant.weighed.once;
  once = rw (← c.self.view_is) (each-once _ _ _ _ c.self.invariant.tied c.self.inside.written c.self.invariant.written);
  listed = rw (← c.self.view_is) (known-order _ _ _ _ c.self.invariant.tied c.self.inside.written c.self.invariant.written);
  unlisted = rw (← c.self.view_is) (λ off. unkept-order c.self.inside.table.rows c.self.inside.written.nodes (c.invariant_holds.ensures off));
}
