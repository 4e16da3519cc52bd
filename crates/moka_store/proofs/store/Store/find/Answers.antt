use Rattle.std.proofs.Common.{◌≡◌, IsSome, is_some, true, rules, subst}
use Rattle.std.specs.FinMap.{get}
use Rattle.moka_table.specs.RecordTable.{records_of}
use Rattle.moka_store.proofs.Steps.{one-each}
use Rattle.moka_store.proofs.store.Store.find.Goals as goal

pub returns-clause-found : goal.returns-clause-found
returns-clause-found g c = search rules

pub returns-clause-elsewhere : goal.returns-clause-elsewhere
returns-clause-elsewhere g c = search rules

pub returns-clause-handle : goal.returns-clause-handle
returns-clause-handle g c h =
    let placed = c.find.ensures.placed h in
    let some : IsSome (get (records_of c.self.inside.table.rows) c.args.handle.number) = subst (λ o. is_some o ≡ true) (c.find.ensures.found placed) h in
    rw (← c.self.view_is) (record { placed = placed; stored = some })

pub returns-clause-one_each : goal.returns-clause-one_each
returns-clause-one_each g c =
    rw (← c.self.view_is) (one-each _ _ _ _ c.self.invariant.tied g.met.K.Eq.laws)
