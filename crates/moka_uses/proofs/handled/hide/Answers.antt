use Rattle.std.proofs.Common.{refl}
use Rattle.moka_engine.specs.Calls.{no_events}
use Rattle.moka_uses.proofs.handled.hide.Goals as goal
use Rattle.moka_uses.proofs.handled.hide.Goals.{in-Ok, in-Err}

pub returns-clause-made : goal.returns-clause-made
returns-clause-made g c = elim c.match-invalidate_entries_if.branch [
  | in-Ok w ↦ rw (w.result-is, w.cache-is) w.in-Ok.ensures.made
  | in-Err w ↦ rw (w.result-is, w.cache-is) (w.in-Err.field-0, c.invalidate_entries_if.new.self.engine, w.in-Err.ensures.made, (no_events, (w.invalidate_all.ensures.step, refl), w.invalidate_all.ensures.events, tt))
]
