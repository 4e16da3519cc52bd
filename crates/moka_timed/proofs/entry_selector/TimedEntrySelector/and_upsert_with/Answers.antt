use Rattle.moka_timed.proofs.entry_selector.TimedEntrySelector.and_upsert_with.Goals as goal

pub returns-clause-made : goal.returns-clause-made
returns-clause-made g c = (c.now-now.result, c.now-now.new.self, c.now-now.ensures, rw (c.entry.ensures.key, c.entry.ensures.unchanged) at c.and_upsert_with.ensures.step)
