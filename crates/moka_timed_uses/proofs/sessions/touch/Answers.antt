use Rattle.std.proofs.Common.{◌≡◌, ◌==◌, false, Ok, sym, true≢false}
use Rattle.std.specs.Prelude.{is_some}
use Rattle.moka_uses.specs.Made.{plain_meaning}
use Rattle.moka_timed_uses.proofs.Idle.{found_within}
use Rattle.moka_timed_uses.proofs.LookedUp.{looked_up}
use Rattle.moka_timed_uses.proofs.sessions.touch.Goals as goal

pub returns-clause-found : goal.returns-clause-found
returns-clause-found g c =
    let (now, read, told, got) = c.in-Ok.ensures.made in
    let (own, copied, made) = got.made in
    let found = found_within (λ _ _ _ answer. answer ≡ false) c.args.sessions.now.cache.engine.state now.0 c.args.user (is_some c.in-Ok.token) got.shown in
    (now, read, told, found, looked_up (plain_meaning (λ a b. a == b) g.C.Clock.reads) c.args.user _ now c.args.sessions.now.cache.engine read c.get.new.self.cache.engine c.get.new.self.clock own (Ok c.in-Ok.token) copied made)

pub unreachable-requires : goal.unreachable-requires
unreachable-requires g c = true≢false (sym (c.in-Err.ensures.succeeds (λ r there. tt)))
