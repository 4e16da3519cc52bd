-- The finite map that entries at places make, each a key with its value.
use Rattle.std.specs.Prelude.{◌≡◌, ℕ, zero, suc, Option, Some, None}
use Rattle.std.specs.FinMap.{FinMap, empty, insert}
use Rattle.std.specs.Ordering.{nat_cmp}

module _ {X : Type 0} where
  -- the map with this entry, if there is one
  abbrev pub put_entry : Option (ℕ × X) → FinMap nat_cmp X → FinMap nat_cmp X
  put_entry None m = m
  put_entry (Some e) m = insert m e.0 e.1

  -- the map that the entries at the first places make
  abbrev pub upto : (ℕ → Option (ℕ × X)) → ℕ → FinMap nat_cmp X
  upto at zero = empty
  upto at (suc k) = put_entry (at k) (upto at k)

-- no key stands at two places
pub record IsApart {X : Type 0} (at : ℕ → Option (ℕ × X)) : Type 0 where
  pub same : (p q : ℕ) (a b : ℕ × X) → at p ≡ Some a → at q ≡ Some b → a.0 ≡ b.0 → p ≡ q
