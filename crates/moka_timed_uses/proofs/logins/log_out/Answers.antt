use Rattle.std.proofs.Common.{◌==◌, subst}
use Rattle.moka_engine.specs.Settling.{IsValid}
use Rattle.moka_uses.proofs.Covered.{back, unchanged}
use Rattle.moka_timed_uses.proofs.LoggedOut.{logs_out}
use Rattle.moka_timed_uses.proofs.logins.log_out.Goals as goal

pub returns : goal.returns
returns g c =
    let called = c.invalidate_entries_if-registered.ensures.made in
    let old = c.args.logins.now.cache.engine in
    let new = c.invalidate_entries_if-registered.new.self.cache.engine in
    let step = called.2.1 in
    let valid = subst (λ e. IsValid (λ a b. a == b) e.state) c.engine.ensures c.invariant_holds.ensures.valid in
    record {
      ended = (called.0, called.1, logs_out g.C.Clock.reads g.I.IdSource.gives old new c.args.user called.0 called.2.0.ids c.stays_hidden.ensures valid c.invalidate_entries_if-registered.result step, called.2);
      back = back old.state new.state (record { 0 = c.args.user }) called.0 called.2.0.ids c.invalidate_entries_if-registered.result step;
      unchanged = unchanged old.state new.state (record { 0 = c.args.user }) called.0 called.2.0.ids c.invalidate_entries_if-registered.result step;
    }
