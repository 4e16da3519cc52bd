use Rattle.std.proofs.Common.{◌≡◌, ◌+◌, ◌-◌, refl, arith}
use Rattle.moka_inner.proofs.ValuesLemmas.{map_values-empty}
use Rattle.moka_inner.proofs.InnerLemmas.{inner-new}
use Rattle.moka_inner.proofs.inner.Inner.new.Goals as goal

pub invariant_of-result : goal.invariant_of-result
invariant_of-result g c =
    let made = c.in_ok-store.ensures in
    let rest = c.in_ok-reserve.ensures.rest in
    inner-new c.reserve.new.self c.in_ok-outstanding.outstanding c.in_ok-writes.writes c.in_ok-reads.reads (c.args.first_ticket - 1 + 1)
    (rw rest made.records) (rw rest made.places) c.in_ok-outstanding.ensures.items c.in_ok-writes.ensures c.in_ok-reads.ensures
    (omega (arith, c.requires)) (omega (arith, c.ranges.first_ticket.fits))

pub returns-clause-empty : goal.returns-clause-empty
returns-clause-empty g c =
    let made = c.in_ok-store.ensures in
    let first : c.args.first_ticket - 1 + 1 ≡ c.args.first_ticket = omega (arith, c.requires) in
    rw (c.in_ok-outstanding.ensures.items, map_values-empty, c.in_ok-writes.ensures, c.in_ok-reads.ensures, c.in_ok-reserve.ensures.rest, made.empty, c.in_ok-sketch.ensures, first) refl

pub returns-clause-hasher : goal.returns-clause-hasher
returns-clause-hasher g c = rw (c.in_ok-reserve.ensures.rest, c.in_ok-store.ensures.empty) refl

pub returns-clause-room : goal.returns-clause-room
returns-clause-room g c = c.in_ok-reserve.ensures.room
