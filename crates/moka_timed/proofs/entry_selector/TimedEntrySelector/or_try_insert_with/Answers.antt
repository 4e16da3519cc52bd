use Rattle.moka_timed.proofs.entry_selector.TimedEntrySelector.or_try_insert_with.Goals as goal

pub returns-clause-made : goal.returns-clause-made
returns-clause-made g c = (c.now-now.result, c.now-now.new.self, c.now-now.ensures, rw (c.entry.ensures.key, c.entry.ensures.unchanged) at c.or_try_insert_with.ensures.step)
