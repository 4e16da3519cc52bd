use Rattle.std.proofs.Common.{◌++◌}
use Rattle.moka_timed_uses.proofs.shared.put_and_find.Goals as goal

pub returns-clause-made : goal.returns-clause-made
returns-clause-made g c = (c.insert-put.new.self, c.insert-put.new.clock, c.insert-put.ensures.step, c.get-found.ensures.step)

pub returns-clause-runs : goal.returns-clause-runs
returns-clause-runs g c =
    let laws = c.calls_by_key_are_moves.ensures in
    let (first, inserts, moved) = laws.insert c.args.entry.0 c.args.now c.args.clock.now c.insert-put.new.clock c.args.entry.1 c.insert-put.result c.args.cache.now c.insert-put.new.self c.insert-put.ensures.step in
    let (later, gets, moved_on) = laws.get c.args.sought.now c.args.now c.insert-put.new.clock c.get-found.new.clock c.get-found.result c.insert-put.new.self c.get-found.new.self c.get-found.ensures.step in (
      c.insert-put.new.self,
      first,
      later,
      inserts,
      gets,
      c.own_calls_run.ensures.runs (first ++ later) c.args.cache.now c.get-found.new.self c.args.clock.now c.get-found.new.clock
          (c.own_calls_run.ensures.go_on first later c.args.cache.now c.insert-put.new.self c.get-found.new.self c.args.clock.now c.insert-put.new.clock c.get-found.new.clock moved moved_on),
    )

pub returns-clause-found : goal.returns-clause-found
returns-clause-found g c = λ granted. c.get-found.ensures.succeeds.one.step (λ r there. granted r.value)
