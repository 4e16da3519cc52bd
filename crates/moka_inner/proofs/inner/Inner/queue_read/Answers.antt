use Rattle.std.proofs.Common.{◌≡◌, ◌+◌, ◌<◌, ◌^◌, arith, sym, subst}
use Rattle.moka_inner.specs.Interior.{Interior, IsReadLocated}
use Rattle.moka_inner.proofs.InnerLemmas.{inner-read, read_located-narrow}
use Rattle.moka_inner.proofs.inner.Inner.queue_read.Goals as goal

pub invariant_of-self : goal.invariant_of-self
invariant_of-self g c =
    let placed = subst (λ (i : Interior g.row.K.Denot g.row.V.Denot g.row.S.Denot). IsReadLocated i.kept.places i.next_number c.args.place c.args.read) (sym c.self.view_is) c.requires in
    let same : c.args.place < 2 ^ 32 → c.new.result.place ≡ c.args.place = λ few. omega (arith, few) in
    let short = read_located-narrow c.self.inside.store.places c.self.inside.next_number c.args.place c.new.result.place c.args.read c.invariant_holds.ensures.narrow same placed in
    let e = c.try_push_back-full.ensures in
    inner-read c.self.inside.store c.self.inside.outstanding c.self.inside.outstanding c.self.inside.writes c.self.inside.reads (c.self.inside.last_ticket + 1) c.self.inside.next_number c.self.invariant c.new.result c.try_push_back-full.result c.try_push_back-full.new.self
    (subst (IsReadLocated c.self.inside.store.places c.self.inside.next_number c.new.result.place) (sym c.new.ensures.0) short) e.variant.0 e.ok e.err
