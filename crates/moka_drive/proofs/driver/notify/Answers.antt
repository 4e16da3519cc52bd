use Rattle.std.proofs.Common.{refl, []}
use Rattle.moka_laws.proofs.Copies.{notified-same}
use Rattle.moka_laws.proofs.Quiet.{befalls-nothing}
use Rattle.moka_drive.proofs.driver.notify.Goals as goal

pub returns-in-None-clause-step : goal.returns-in-None-clause-step
returns-in-None-clause-step g c = ([], (λ ticket. rw c.in-None.is (refl, refl)), refl, befalls-nothing g.L.Listener.tells c.args.cache.now)

pub returns-in-Some-clause-step : goal.returns-in-Some-clause-step
returns-in-Some-clause-step g c =
    let told = c.notify_invalidate.ensures.step in
    let step = notified-same g.K.Clone.is_clone g.V.Clone.is_clone c.requires.keys c.requires.values c.args.cache.now.state.settings c.args.entry.now c.in-Some.now c.notify_invalidate.result told.0 told.1 in
    (told.0, (λ ticket. rw c.in-Some.is step), told.2, told.3)

pub returns-in-Some-clause-granted : goal.returns-in-Some-clause-granted
returns-in-Some-clause-granted g c = λ infallible. c.notify_invalidate.ensures.succeeds (λ listening. (infallible.0 c.args.entry.now.key, infallible.1 c.args.entry.now.value))
