use Rattle.moka_timed.proofs.entry_selector.TimedEntrySelector.or_insert_with.Goals as goal

pub returns-clause-made : goal.returns-clause-made
returns-clause-made g c = (c.now-now.result, c.now-now.new.self, c.now-now.ensures, rw (c.entry.ensures.key, c.entry.ensures.unchanged) at c.or_insert_with.ensures.step)

pub returns-clause-looks_up : goal.returns-clause-looks_up
returns-clause-looks_up g c = rw (c.entry.ensures.key, c.entry.ensures.unchanged) at c.or_insert_with.ensures.looks_up

pub returns-clause-disabled : goal.returns-clause-disabled
returns-clause-disabled g c = rw c.entry.ensures.unchanged at c.or_insert_with.ensures.disabled
