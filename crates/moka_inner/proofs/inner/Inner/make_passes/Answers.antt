use Rattle.std.proofs.Common.{◌+◌, subst}
use Rattle.moka_maintenance.specs.Steps.{MayRun}
use Rattle.moka_maintenance.specs.Sweep.{tests_in}
use Rattle.moka_maintenance.specs.Timers.{KeepsTimers}
use Rattle.moka_inner.specs.Interior.{Interior}
use Rattle.moka_inner.proofs.InnerLemmas.{inner-passed}
use Rattle.moka_inner.proofs.inner.Inner.make_passes.Goals as goal

pub invariant_of-self : goal.invariant_of-self
invariant_of-self g c =
    inner-passed g.L.Listener.tells c.self.inside.store c.make_passes.new.store c.self.inside.outstanding c.self.inside.writes c.self.inside.reads (c.self.inside.last_ticket + 1) c.self.inside.next_number c.self.invariant c.args.notifier.now c.make_passes.new.notifier
    (MayRun g.P.PredicateFn.says c.args.invalidator.now (tests_in c.args.terms.tests)) c.make_passes.ensures.ran.by c.make_passes.ensures.kept.upkeep.places c.make_passes.ensures.kept.upkeep.rows

pub returns-clause-timers : goal.returns-clause-timers
returns-clause-timers g c = subst (λ (i : Interior g.row.K.Denot g.row.V.Denot g.row.S.Denot). KeepsTimers i.kept c.make_passes.new.store) c.self.view_is c.make_passes.ensures.kept.upkeep.timers

pub returns-clause-none : goal.returns-clause-none
returns-clause-none g c = c.make_passes.ensures.kept.none

pub returns-clause-ran : goal.returns-clause-ran
returns-clause-ran g c = rw (← c.self.view_is) c.make_passes.ensures.ran
