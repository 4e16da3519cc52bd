use Rattle.std.proofs.Common.{◌+◌, refl, ap, arith}
use Rattle.moka_store.specs.Store.{Kept}
use Rattle.moka_inner.proofs.InnerLemmas.{inner-roomier}
use Rattle.moka_inner.proofs.inner.Inner.reserve_record.Goals as goal

pub invariant_of-self : goal.invariant_of-self
invariant_of-self g c = inner-roomier c.self.inside.store c.self.inside.outstanding c.self.inside.outstanding c.self.inside.writes c.self.inside.reads (c.self.inside.last_ticket + 1) c.self.inside.next_number c.self.invariant c.reserve.new.self (ap (λ (k : Kept g.row.K.Denot g.row.V.Denot g.row.S.Denot). k.records) c.reserve.ensures.rest) (ap (λ (k : Kept g.row.K.Denot g.row.V.Denot g.row.S.Denot). k.places) c.reserve.ensures.rest) refl (omega arith)

pub invariant_of-self-2 : goal.invariant_of-self-2
invariant_of-self-2 g c = inner-roomier c.self.inside.store c.self.inside.outstanding c.self.inside.outstanding c.self.inside.writes c.self.inside.reads (c.self.inside.last_ticket + 1) c.self.inside.next_number c.self.invariant c.reserve.new.self (ap (λ (k : Kept g.row.K.Denot g.row.V.Denot g.row.S.Denot). k.records) c.reserve.ensures.rest) (ap (λ (k : Kept g.row.K.Denot g.row.V.Denot g.row.S.Denot). k.places) c.reserve.ensures.rest) refl (omega arith)
