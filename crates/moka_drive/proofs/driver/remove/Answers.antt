use Rattle.std.proofs.Common.{refl, sym, subst, Some}
use Rattle.moka_parts.specs.Calls.{only_notices, RemoveStep, NotifiesAfter}
use Rattle.moka_laws.proofs.Quiet.{befalls_then, removal_keeps}
use Rattle.moka_drive.proofs.Reports.{granted_removal}
use Rattle.moka_drive.proofs.driver.remove.Goals as goal

pub returns-clause-step : goal.returns-clause-step
returns-clause-step g c =
    let told = c.notify-told.ensures.step in
    let step = c.in-Some.ensures.step in
    let settings = (removal_keeps g.K.PartialEq.eq c.args.cache.now.state c.remove_entry.new.self.state c.args.key.now (Some (c.in-Some.entry, c.in-Some.ticket)) step).0 in (
      only_notices told.0,
      (
        subst (λ t. RemoveStep g.K.PartialEq.eq c.args.cache.now.state c.args.key.now (Some (c.in-Some.entry, c.in-Some.ticket)) t) (sym told.2) step,
        subst (λ s. NotifiesAfter s (Some (c.in-Some.entry, c.in-Some.ticket)) c.args.now c.notify-told.result told.0) settings (told.1 c.in-Some.ticket),
        refl,
      ),
      befalls_then g.L.Listener.tells told.0 c.args.cache.now c.remove_entry.new.self c.notify-told.new.cache c.in-Some.ensures.events told.3,
    )

pub returns-clause-granted : goal.returns-clause-granted
returns-clause-granted g c = λ infallible. granted_removal g.row.K.Denot g.row.V.Denot g.row.P.Denot (Some (c.in-Some.entry, c.in-Some.ticket)) c.notify-told.result (c.notify-told.ensures.granted infallible)
