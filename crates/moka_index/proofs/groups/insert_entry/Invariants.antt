use Rattle.std.proofs.Common.{◌≡◌}
use Rattle.moka_index.proofs.Search.{Full}
use Rattle.moka_index.proofs.groups.insert_entry.Given as goal

abbrev pub invariant-loop-step : goal.invariant-loop-step
invariant-loop-step l = record { same : l.groups ≡ l.fn.groups; full : Full l.groups.items l.first l.step }
