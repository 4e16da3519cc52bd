use Rattle.std.proofs.Common.{◌≡◌, true, subst}
use Rattle.moka_engine.specs.Order.{IsWriteList}
use Rattle.moka_engine.specs.Settling.{IsValid}
use Rattle.moka_engine.specs.State.{keeps_write_list}
use Rattle.moka_uses.proofs.released.close.Goals as goal

pub returns-clause-closed : goal.returns-clause-closed
returns-clause-closed g c =
    let closed = c.invalidate.ensures.step.made.2 in
    let old = c.args.cache.now.engine in
    let new = c.invalidate.new.self.engine in
    let valid = subst (λ e. IsValid g.K.PartialEq.eq e.state) c.engine.ensures c.invariant_holds.ensures.valid in
    let listed = subst (λ e. keeps_write_list e.state.settings ≡ true → IsWriteList e.state e.write_list) c.engine.ensures c.invariant_holds.ensures.listed in
    let heard = c.hears_themselves.ensures c.requires.keys c.requires.values closed.0 closed.1 old new c.args.clock.now c.invalidate.new.clock closed.3 in
    let made = c.invalidate.ensures.step.made in
    (made.0, made.1, (_, closed.0, closed.1, closed.2, c.keeps_promises.ensures closed.0 closed.1 old new c.args.clock.now c.invalidate.new.clock valid listed heard))
