use Rattle.std.proofs.Common.{ℕ, false}
use Rattle.moka_index.proofs.Search.{LanesLeft}
use Rattle.moka_index.proofs.groups.find_in_group.Given as goal

abbrev pub invariant-loop-matches : goal.invariant-loop-matches
invariant-loop-matches g l = LanesLeft (λ (p : ℕ). goal.F-post g l.is_match p false) l.group l.hash l.matches

abbrev pub decreases-loop-matches : goal.decreases-loop-matches
decreases-loop-matches g l = l.matches
