use Rattle.moka_timed_uses.specs.Logins.{meaning}
use Rattle.moka_timed_uses.proofs.LookedUp.{looked_up}
use Rattle.moka_timed_uses.proofs.logins.find.Goals as goal

pub returns-clause-shown : goal.returns-clause-shown
returns-clause-shown g c =
    let (now, read, told, got) = c.get.ensures.made in
    let (own, copied, made) = got.made in
    (now, read, told, got.shown, looked_up (meaning g.C.Clock.reads (λ _ _ _. ⊥)) c.args.number _ now c.args.logins.now.cache.engine read c.get.new.self.cache.engine c.get.new.self.clock own c.get.result copied made)
