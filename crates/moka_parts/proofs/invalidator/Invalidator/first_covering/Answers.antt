-- A search of the registry for the first predicate that covers a record.
use Rattle.std.proofs.Common.{◌≡◌}
use Rattle.moka_parts.proofs.Registry.{none_by_loop, first_by_loop}
use Rattle.moka_parts.proofs.invalidator.Invalidator.first_covering.Goals as goal

pub returns-then-covers : goal.returns-then-covers
returns-then-covers g c =
    let loop = c.loop-registered in
    let same : c.deref-registered-items.result.now ≡ c.args.self.now = cc in
    first_by_loop g.P.PredicateFn.says c.args.entry.now c.args.self.now c.registered-item.result loop.registered-index (rw same at c.loop-registered-test.true) (rw same at c.registered-item.is) (c.covers.ensures.0 c.if-covers.true) loop.invariant

pub returns : goal.returns
returns g c =
    let loop = c.loop-registered in
    let same : c.deref-registered-items.result.now ≡ c.args.self.now = cc in
    none_by_loop g.P.PredicateFn.says c.args.entry.now c.args.self.now loop.registered-index (rw same at c.loop-registered-test.false) loop.invariant
