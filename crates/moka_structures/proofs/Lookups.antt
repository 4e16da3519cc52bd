use Rattle.std.proofs.Common.{◌≡◌, ℕ, cond, List, [], ◌∷◌, ◌++◌, Some, None, nat_eq, refl, ap, arith}
use Rattle.std.proofs.lemmas.Bool.Decides.{nat_tests}
use Rattle.std.proofs.lemmas.Bool.{eqb-true}
use Rattle.std.proofs.lemmas.Map.{lookup-remove_entry}
use Rattle.std.specs.Cmp.{nat_eq_equiv}
use Rattle.std.specs.List.{IsDistinct}
use Rattle.std.specs.Map.{lookup, remove_entry, keys_of}

module _ {T : Type 0} where
  -- a look-up after a slot was taken out
  pub lookup-without : (ms : List (ℕ × T)) (slot s : ℕ) → IsDistinct nat_eq (keys_of ms) → lookup (nat_eq s) (remove_entry (nat_eq slot) ms) ≡ cond (nat_eq slot s) None (lookup (nat_eq s) ms)
  lookup-without ms slot s d =
      lookup-remove_entry nat_eq_equiv (nat_eq slot) (λ x y t. ap (λ k. nat_eq k y) (eqb-true slot x t)) s ms d

  -- every look-up after a push of a slot that was not there
  pub lookup-pushed : (ms : List (ℕ × T)) (s : ℕ) (t : T) (k : ℕ) → lookup (nat_eq s) ms ≡ None → lookup (nat_eq k) (ms ++ (s, t) ∷ []) ≡ cond (nat_eq k s) (Some t) (lookup (nat_eq k) ms)
  lookup-pushed [] s t k none = refl
  lookup-pushed (m ∷ ms) s t k none = grind (arith, nat_tests, lookup-pushed ms s t k)

  -- every look-up after a move to the back
  pub lookup-moved : (ms : List (ℕ × T)) (s : ℕ) (t : T) (k : ℕ) → IsDistinct nat_eq (keys_of ms) → lookup (nat_eq s) ms ≡ Some t → lookup (nat_eq k) (remove_entry (nat_eq s) ms ++ (s, t) ∷ []) ≡ lookup (nat_eq k) ms
  lookup-moved ms s t k d found =
      let gone : lookup (nat_eq s) (remove_entry (nat_eq s) ms) ≡ None = grind (arith, nat_tests, lookup-without ms s s d) in
      grind (arith, nat_tests, lookup-without ms s k d, lookup-pushed (remove_entry (nat_eq s) ms) s t k gone)
