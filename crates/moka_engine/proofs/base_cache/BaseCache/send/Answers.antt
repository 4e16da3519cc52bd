use Rattle.std.proofs.Common.{refl}
use Rattle.moka_engine.proofs.SendSteps.{whole-sent, befalls-sent, step-sent}
use Rattle.moka_engine.proofs.base_cache.BaseCache.send.Goals as goal

pub invariant_of-self : goal.invariant_of-self
invariant_of-self g c = whole-sent c.self.inside.inner c.send.new.self c.args.ticket.0 c.self.invariant refl c.send.result (c.send.ensures.ok, c.send.ensures.err)

pub returns-clause-events : goal.returns-clause-events
returns-clause-events g c = befalls-sent c.self.inside.inner c.send.new.self c.args.ticket.0 g.L.Listener.tells c.self.view_is refl c.send.result (c.send.ensures.ok, c.send.ensures.err)

pub returns-clause-step : goal.returns-clause-step
returns-clause-step g c = step-sent c.self.inside.inner c.send.new.self c.args.ticket.0 c.self.view_is refl c.send.result c.send.ensures.unknown c.send.ensures.full c.send.ensures.room (c.send.ensures.ok, c.send.ensures.err)
