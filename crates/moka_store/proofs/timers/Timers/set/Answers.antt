use Rattle.std.specs.FinMap.{get-empty}
use Rattle.std.specs.Ordering.{nat_cmp}
use Rattle.std.proofs.Common.{◌≡◌, None, sym}
use Rattle.moka_store.proofs.Timed.{none-after}
use Rattle.moka_store.proofs.timers.Timers.set.Goals as goal

pub returns-in_err-as_mut-clause-lookups : goal.returns-in_err-as_mut-clause-lookups
returns-in_err-as_mut-clause-lookups c other =
    let none : c.self.inside.wheel ≡ None = sym c.in_err-as_mut.ensures.value in
    rw (c.from_residual.ensures, ← c.self.view_is, none) (none-after c.args.before c.args.place None other)

pub returns-in_err-as_mut-clause-untimed : goal.returns-in_err-as_mut-clause-untimed
returns-in_err-as_mut-clause-untimed c _ slot =
    let none : c.self.inside.wheel ≡ None = sym c.in_err-as_mut.ensures.value in
    rw (← c.self.view_is, none) (get-empty nat_cmp slot)
