-- What stays is no less.
use Rattle.std.proofs.Common.{ℕ, ◌≤◌, arith}

pub no_less : (n : ℕ) → n ≤ n
no_less n = omega arith
