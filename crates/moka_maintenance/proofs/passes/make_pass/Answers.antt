use Rattle.std.proofs.Common.{Bool, ◌+◌, ◌||◌, ◌∙◌, sym, subst}
use Rattle.moka_maintenance.specs.Steps.{stock_in}
use Rattle.moka_maintenance.specs.Timers.{AreOnTime}
use Rattle.moka_maintenance.specs.Passes.{IsPass}
use Rattle.moka_maintenance.proofs.PassSteps.{pass-five}
use Rattle.moka_maintenance.proofs.Timing.{lasts-on_time}
use Rattle.moka_maintenance.specs.declared.passes.Pass.{Pass}
use Rattle.moka_maintenance.proofs.Upkeep.{still-upkept, upkept-on_time}
use Rattle.moka_maintenance.proofs.passes.make_pass.Goals as goal

pub returns-clause-pass : goal.returns-clause-pass
returns-clause-pass g c =
    let due = c.expire_due-due in
    let first = c.take_step-by_write in
    let second = c.take_step-by_read in
    let last = c.take_step-surplus in
    let before = stock_in c.args.store.now in
    let after = stock_in last.new.store in
    let scan = c.scan-scan_has_more in
    let ps = c.args.invalidator.now in
    let qs = scan.new.invalidator in
    let ordered = second.ensures.upkeep.keeps.timers.ordered ∙ first.ensures.upkeep.keeps.timers.ordered ∙ due.ensures.kept.upkeep.timers.ordered in
    subst (λ (p : Pass). IsPass g.L.Listener.tells g.P.PredicateFn.says c.args.terms.tests c.args.terms.batch c.args.store.now.ordered (AreOnTime c.args.store.now) ps qs before after c.args.notifier.now last.new.notifier p.removed p.has_more p.scan_has_more) (sym c.joined.ensures)
    (subst (λ (b : Bool). IsPass g.L.Listener.tells g.P.PredicateFn.says c.args.terms.tests c.args.terms.batch b (AreOnTime c.args.store.now) ps qs before after c.args.notifier.now last.new.notifier (due.result + first.result.removed + second.result.removed + last.result.removed) (first.result.has_more || second.result.has_more || last.result.has_more) scan.result) ordered
    (pass-five g.L.Listener.tells g.P.PredicateFn.says ps qs c.args.terms.tests c.args.terms.batch before (stock_in due.new.store) (stock_in first.new.store) second.new.store scan.new.store after
    c.args.notifier.now due.new.notifier first.new.notifier second.new.notifier scan.new.notifier last.new.notifier due.result first.result.removed second.result.removed last.result.removed first.result.has_more second.result.has_more last.result.has_more scan.result (AreOnTime c.args.store.now)
    (λ none. c.invariant_holds.ensures.unlisted (sym ordered ∙ none))
    due.ensures.expired (λ on_time. lasts-on_time c.args.terms.tests.now.0 due.new.store (upkept-on_time c.args.store.now due.new.store due.ensures.kept.upkeep.timers due.ensures.expired.by.steps due.ensures.expired.by.led on_time) due.ensures.kept.none) first.ensures.swept second.ensures.swept scan.ensures last.ensures.swept first.ensures.idle second.ensures.idle last.ensures.idle))

pub returns-clause-kept : goal.returns-clause-kept
returns-clause-kept g c =
    let old = c.args.store.now in
    let now = c.args.terms.tests.now.0 in
    let due = c.expire_due-due in
    let first = c.take_step-by_write in
    let second = c.take_step-by_read in
    let scan = c.scan-scan_has_more in
    let last = c.take_step-surplus in
    still-upkept now old scan.new.store last.new.store last.ensures.upkeep
    (still-upkept now old second.new.store scan.new.store scan.ensures.upkeep
    (still-upkept now old first.new.store second.new.store second.ensures.upkeep
    (still-upkept now old due.new.store first.new.store first.ensures.upkeep due.ensures.kept)))
