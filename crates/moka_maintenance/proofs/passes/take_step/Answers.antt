use Rattle.std.proofs.Common.{sym, ◌∙◌}
use Rattle.moka_maintenance.specs.Steps.{stock_in}
use Rattle.moka_maintenance.proofs.PassSteps.{swept-none, left-idle, not_taken}
use Rattle.moka_maintenance.proofs.Upkeep.{untimed-none}
use Rattle.moka_maintenance.proofs.passes.take_step.Goals as goal

pub returns-then-not-is_taken-clause-swept : goal.returns-then-not-is_taken-clause-swept
returns-then-not-is_taken-clause-swept g c = swept-none g.L.Listener.tells c.args.terms.tests c.args.sweep c.args.terms.batch (stock_in c.args.store.now) c.args.notifier.now
    (not_taken c.args.terms.tests c.args.sweep (stock_in c.args.store.now) (sym c.is_taken.ensures ∙ c.if-not-is_taken.true))

pub returns-clause-idle : goal.returns-clause-idle
returns-clause-idle g c = λ none.
    c.sweep_along.ensures.left (left-idle g.L.Listener.tells c.args.terms.tests c.args.sweep c.args.terms.batch _ _ _ _ _ _ c.sweep_along.ensures.swept none) ∙ sym (sym c.is_taken.ensures ∙ c.if-not-is_taken.false)

pub returns-then-not-is_taken-clause-upkeep : goal.returns-then-not-is_taken-clause-upkeep
returns-then-not-is_taken-clause-upkeep g c = untimed-none c.args.store.now

pub returns-then-not-is_taken-clause-idle : goal.returns-then-not-is_taken-clause-idle
returns-then-not-is_taken-clause-idle g c = λ none. sym (sym c.is_taken.ensures ∙ c.if-not-is_taken.true)

pub returns-clause-swept : goal.returns-clause-swept
returns-clause-swept g c = rw c.read_ahead.ensures at c.sweep_along.ensures.swept

pub returns-clause-upkeep : goal.returns-clause-upkeep
returns-clause-upkeep g c = rw c.read_ahead.ensures at c.sweep_along.ensures.upkeep
