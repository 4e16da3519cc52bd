use Rattle.std.proofs.Common.{refl, Some, None, Ok, Err}
use Rattle.moka_engine.proofs.GetSteps.{IsNoted, whole-noted}
use Rattle.moka_engine.proofs.PeekSteps.{peek_misses, peek_hits, peek_refused}
use Rattle.moka_engine.proofs.base_cache.BaseCache.do_get_without_recording.Given.{Over}
use Rattle.moka_engine.proofs.base_cache.BaseCache.do_get_without_recording.Goals as goal
use Rattle.moka_engine.proofs.base_cache.BaseCache.do_get_without_recording.Goals.{After-touch}

pub returns-in-Missed-clause-step : goal.returns-in-Missed-clause-step
returns-in-Missed-clause-step g c =
    let at = c.in-Missed.ensures in
    let missed = peek_misses g.P.PredicateFn.says g.X.Expiry.read g.L.Listener.tells g.K.PartialEq.eq c.self.view_is c.args.key.now at.0 c.args.now (rw c.store.ensures at at.2) in
    (at.0, rw (← c.self.view_is) (rw c.store.ensures at at.1), (Ok None, missed.0, refl), missed.1)

pub returns-in-Refused-clause-step : goal.returns-in-Refused-clause-step
returns-in-Refused-clause-step g c =
    let at = c.in-Refused.ensures in
    let refused = peek_refused g.P.PredicateFn.says g.X.Expiry.read g.L.Listener.tells g.K.PartialEq.eq c.self.view_is c.args.key.now at.0 c.args.now c.self.inside.inner c.self.invariant (rw c.store.ensures at at.2.2) refl (record {}) in
    (at.0, rw (← c.self.view_is) (rw c.store.ensures at at.1), (Err (record {}), refused.0, refl), refused.1)

pub returns-in-Refused-clause-succeeds : goal.returns-in-Refused-clause-succeeds
returns-in-Refused-clause-succeeds g c =
    let (handle, r, at, refused) = c.in-Refused.ensures.2 in
    rw (← c.self.view_is) (λ granted. absurd (refused (granted r (rw c.store.ensures at at.found))))

-- the hit, as it was noted in the record
noted : (g : Over) (c : After-touch g) → IsNoted g.X.Expiry.read c.self.inside.expiration_policy c.self.inside.inner c.touch.new.self c.in-Found.handle.number c.in-Found.ensures.2.0 c.args.now.0 c.in-Found.hit.read c.in-Found.hit.expires c.in-Found.hit.is_renewed
noted g c =
    let there = rw c.store.ensures at c.in-Found.ensures.2.1.numbered in
    record { there = there; touches = c.in-Found.ensures.2.2.1; rest = c.touch.ensures.rest; kept = c.touch.ensures.step c.in-Found.ensures.2.0 there }

pub invariant_of-self : goal.invariant_of-self
invariant_of-self g c = whole-noted c.self.invariant (noted g (goal.at.invariant_of-self g c).After-touch) refl g.met.K.Eq.laws

pub returns-in-Found-clause-step : goal.returns-in-Found-clause-step
returns-in-Found-clause-step g c =
    let at = c.in-Found.ensures in
    let hit = peek_hits g.P.PredicateFn.says g.X.Expiry.read g.L.Listener.tells g.K.PartialEq.eq c.self.view_is c.args.key.now at.0 c.args.now c.self.inside.inner c.self.invariant (rw c.store.ensures at at.2.1) refl (noted g (goal.at.returns-in-Found-clause-step g c).After-touch) in
    (at.0, rw (← c.self.view_is) (rw c.store.ensures at at.1), (Ok (Some c.in-Found.ensures.2.0.value), hit.0, c.in-Found.ensures.2.2.0), hit.1)
