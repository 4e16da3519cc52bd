-- A ring of slots, over plain functions that lead from slot to slot.
use Rattle.std.specs.Prelude.{◌≡◌, ◌≢◌, ℕ, ◌+◌, ◌<◌, ◌≤◌}

-- from the places 0 to n, at each of which r names a slot, f leads on and g leads back; place n + 1 is place 0 again
pub record Ring (f g r : ℕ → ℕ) (n size : ℕ) : Type 0 where
  pub start : r 0 ≡ 0
  pub close : r (n + 1) ≡ 0
  pub behind : (i : ℕ) → i ≤ n → f (r i) ≡ r (i + 1)
  pub before : (i : ℕ) → i ≤ n → g (r (i + 1)) ≡ r i
  pub apart : (i j : ℕ) → i < j → j ≤ n → r i ≢ r j
  pub within : (i : ℕ) → i ≤ n → r i < size
