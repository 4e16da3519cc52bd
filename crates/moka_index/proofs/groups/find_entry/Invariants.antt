use Rattle.std.proofs.Common.{ℕ, false}
use Rattle.moka_index.proofs.Search.{IsAt}
use Rattle.moka_index.proofs.groups.find_entry.Given as goal

abbrev pub invariant-loop-step : goal.invariant-loop-step
invariant-loop-step g l = IsAt (λ (p : ℕ). goal.F-post g l.is_match p false) l.groups l.hash l._step l.at
