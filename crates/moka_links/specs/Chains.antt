-- Chains of free slots, over a plain function that leads from slot to slot.
use Rattle.std.specs.Prelude.{◌≡◌, ◌≢◌, ℕ, ◌+◌, ◌<◌, List, slice_index_or}

-- q names the m free slots, of which each leads to the next
pub record Frees (f q : ℕ → ℕ) (m free size : ℕ) : Type 0 where
  pub first : 0 < m → free ≡ q 0
  pub next : (i : ℕ) → i + 1 < m → f (q i) ≡ q (i + 1)
  pub apart : (i j : ℕ) → i < j → j < m → q i ≢ q j
  pub within : (i : ℕ) → i < m → q i < size

-- the free slot at each place of the chain
abbrev pub free_of : List ℕ → ℕ → ℕ
free_of fs i = slice_index_or fs i 0
