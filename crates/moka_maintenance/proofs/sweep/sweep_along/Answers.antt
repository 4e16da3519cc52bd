use Rattle.std.proofs.Common.{arith, refl, ◌∙◌}
use Rattle.moka_maintenance.specs.Steps.{stock_in}
use Rattle.moka_maintenance.proofs.Sweeping.{sweeping-none, sweeping-removed, sweeping-passed, sweeping-rounds, sweeping-ended, sweeping-over, sweeping-all, is_along}
use Rattle.moka_maintenance.proofs.Upkeep.{untimed-none, untimed-on}
use Rattle.moka_maintenance.proofs.sweep.sweep_along.Goals as goal

pub loop-turns-init : goal.loop-turns-init
loop-turns-init g c = record {
  sweeping = sweeping-none g.L.Listener.tells c.args.tests c.args.sweep c.args.batch (stock_in c.args.store.now) c.args.notifier.now c.invariant_holds.ensures.distinct (is_along c.args.sweep (stock_in c.args.store.now) c.args.store.now.ordered c.invariant_holds.ensures.listed c.invariant_holds.ensures.unlisted);
  upkeep = untimed-none c.args.store.now;
}

pub returns-in-Ended-clause-swept : goal.returns-in-Ended-clause-swept
returns-in-Ended-clause-swept g c = sweeping-ended g.L.Listener.tells c.args.tests c.args.sweep c.args.batch _ _ _ _ _ _ _ _ _ _ c.loop-turns.invariant.sweeping c.loop-turns-test.true c.in-Ended.ensures.turn

pub loop-turns-preserved-in-Removed : goal.loop-turns-preserved-in-Removed
loop-turns-preserved-in-Removed g c =
    let inv = c.loop-turns.invariant in
    record {
      sweeping = sweeping-removed g.L.Listener.tells c.args.tests c.args.sweep c.args.batch _ _ _ _ _ _ _ _ _ _ inv.sweeping _ (let some = c.loop-turns-test.true in omega arith) c.in-Removed.ensures.turn;
      upkeep = untimed-on c.args.store.now c.loop-turns.store c.take_turn.new.store inv.upkeep c.in-Removed.ensures.upkeep;
    }

pub loop-turns-preserved-then-passed-member_count : goal.loop-turns-preserved-then-passed-member_count
loop-turns-preserved-then-passed-member_count g c =
    let inv = c.loop-turns.invariant in
    record {
      sweeping = sweeping-rounds g.L.Listener.tells c.args.tests c.args.sweep c.args.batch _ _ _ _ _ _ _ _ (c.if-passed-member_count.true ∙ c.member_count.ensures.value) refl
          (sweeping-passed g.L.Listener.tells c.args.tests c.args.sweep c.args.batch _ _ _ _ _ _ _ _ _ _ inv.sweeping _ (let some = c.loop-turns-test.true in omega arith) c.in-Passed.ensures.turn);
      upkeep = untimed-on c.args.store.now c.loop-turns.store c.take_turn.new.store inv.upkeep c.in-Passed.ensures.upkeep;
    }

pub loop-turns-preserved : goal.loop-turns-preserved
loop-turns-preserved g c =
    let inv = c.loop-turns.invariant in
    record {
      sweeping = sweeping-passed g.L.Listener.tells c.args.tests c.args.sweep c.args.batch _ _ _ _ _ _ _ _ _ _ inv.sweeping _ (let some = c.loop-turns-test.true in omega arith) c.in-Passed.ensures.turn;
      upkeep = untimed-on c.args.store.now c.loop-turns.store c.take_turn.new.store inv.upkeep c.in-Passed.ensures.upkeep;
    }

pub returns-clause-swept : goal.returns-clause-swept
returns-clause-swept g c = sweeping-over g.L.Listener.tells c.args.tests c.args.sweep c.args.batch _ _ _ _ _ _ _ _ (let over = c.loop-turns-test.false in omega arith) c.loop-turns.invariant.sweeping

pub returns-in-Ended-clause-left : goal.returns-in-Ended-clause-left
returns-in-Ended-clause-left g c = λ used. (let most = c.loop-turns.invariant.sweeping.most in let some = c.loop-turns-test.true in absurd (omega arith))

pub returns-clause-left : goal.returns-clause-left
returns-clause-left g c = sweeping-all g.L.Listener.tells c.args.tests c.args.sweep c.args.batch _ _ _ _ _ _ _ _ c.loop-turns.invariant.sweeping

pub overflow_sub-turns : goal.overflow_sub-turns
overflow_sub-turns g c = let some = c.loop-turns-test.true in omega arith

pub overflow_add-removed : goal.overflow_add-removed
overflow_add-removed g c = let some = c.loop-turns-test.true in let most = c.loop-turns.invariant.sweeping.most in omega arith

pub overflow_add-passed : goal.overflow_add-passed
overflow_add-passed g c = let some = c.loop-turns-test.true in let few = c.loop-turns.invariant.sweeping.few in omega arith

pub nonzero_rem-turns : goal.nonzero_rem-turns
nonzero_rem-turns g c = omega arith

pub loop-turns-smaller-in-Removed : goal.loop-turns-smaller-in-Removed
loop-turns-smaller-in-Removed g c = let some = c.loop-turns-test.true in omega arith

pub loop-turns-smaller-then-passed-member_count : goal.loop-turns-smaller-then-passed-member_count
loop-turns-smaller-then-passed-member_count g c = let some = c.loop-turns-test.true in omega arith

pub loop-turns-smaller : goal.loop-turns-smaller
loop-turns-smaller g c = let some = c.loop-turns-test.true in omega arith

pub returns-in-Ended-clause-upkeep : goal.returns-in-Ended-clause-upkeep
returns-in-Ended-clause-upkeep g c = untimed-on c.args.store.now c.loop-turns.store c.take_turn.new.store c.loop-turns.invariant.upkeep c.in-Ended.ensures.upkeep

pub returns-clause-upkeep : goal.returns-clause-upkeep
returns-clause-upkeep g c = c.loop-turns.invariant.upkeep
