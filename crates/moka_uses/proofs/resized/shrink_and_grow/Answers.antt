use Rattle.std.proofs.Common.{refl}
use Rattle.moka_engine.specs.Calls.{no_events}
use Rattle.moka_uses.proofs.resized.shrink_and_grow.Goals as goal

pub returns-clause-made : goal.returns-clause-made
returns-clause-made c =
    let run = c.run_pending_tasks.ensures.step in (
      c.set_max_capacity.new.self,
      c.run_pending_tasks.new.self,
      c.run_pending_tasks.result,
      (no_events, (c.in_ok-set_max_capacity.ensures.step, refl), c.in_ok-set_max_capacity.ensures.events, tt),
      (run.0, run.1, run.2, tt),
      (no_events, (c.in_ok-set_max_capacity-2.ensures.step, refl), c.in_ok-set_max_capacity-2.ensures.events, tt),
    )
