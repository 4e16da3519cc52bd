-- Finite maps whose keys are numbers: what is found after a change, and how many keys there are.
use Rattle.std.proofs.Common.{◌≡◌, ◌≢◌, ℕ, ◌+◌, ◌-◌, ◌<◌, cond, nat_eq, Option, Some, None, is_some, ◌⊎◌, inl, inr, refl, sym, ap, ◌∙◌, arith}
use Rattle.std.proofs.lemmas.Bool.{cases_eq, cond-true, cond-false, eq-eqb, ne_eqb, false≢true}
use Rattle.std.specs.Cmp.{nat_cmp_total, unsigned_tied}
use Rattle.std.specs.FinMap.{FinMap, get, insert, remove, len, get-empty, get-insert, get-remove, len-insert, len-remove, empty_of_len}
use Rattle.std.specs.Ordering.{nat_cmp}

-- found or not
pub option-cases : {X : Type 0} (o : Option X) → (o ≡ None) ⊎ ((x : X) × (o ≡ Some x))
option-cases None = inl refl
option-cases (Some x) = inr (x, refl)

module _ {X : Type 0} (m : FinMap nat_cmp X) (n : ℕ) where
  -- every look-up after one more
  pub get-put : (x : X) (q : ℕ) → get (insert m n x) q ≡ cond (nat_eq q n) (Some x) (get m q)
  get-put x q = get-insert nat_cmp_total m n x q ∙ ap (λ b. cond b (Some x) (get m q)) (unsigned_tied q n)

  pub get-inserted : (x : X) → get (insert m n x) n ≡ Some x
  get-inserted x = get-put x n ∙ cond-true (nat_eq n n) (Some x) (get m n) (eq-eqb n n refl)

  pub get-past_insert : (x : X) (q : ℕ) → q ≢ n → get (insert m n x) q ≡ get m q
  get-past_insert x q ne = get-put x q ∙ cond-false (nat_eq q n) (Some x) (get m q) (ne_eqb q n ne)

  -- every look-up after one less
  pub get-taken : (q : ℕ) → get (remove m n) q ≡ cond (nat_eq q n) None (get m q)
  get-taken q = get-remove nat_cmp_total m n q ∙ ap (λ b. cond b None (get m q)) (unsigned_tied q n)

  pub get-removed : get (remove m n) n ≡ None
  get-removed = get-taken n ∙ cond-true (nat_eq n n) None (get m n) (eq-eqb n n refl)

  pub get-past_remove : (q : ℕ) → q ≢ n → get (remove m n) q ≡ get m q
  get-past_remove q ne = get-taken q ∙ cond-false (nat_eq q n) None (get m q) (ne_eqb q n ne)

  -- a key that is new counts, and one that was there does not
  pub len-inserted : (x : X) → get m n ≡ None → len (insert m n x) ≡ len m + 1
  len-inserted x none = len-insert nat_cmp_total m n x ∙ cond-false (is_some (get m n)) (len m) (len m + 1) (ap is_some none)

  pub len-kept : (x y : X) → get m n ≡ Some y → len (insert m n x) ≡ len m
  len-kept x y some = len-insert nat_cmp_total m n x ∙ cond-true (is_some (get m n)) (len m) (len m + 1) (ap is_some some)

  pub len-removed : (x : X) → get m n ≡ Some x → len (remove m n) ≡ len m - 1
  len-removed x some = len-remove nat_cmp_total m n ∙ cond-true (is_some (get m n)) (len m - 1) (len m) (ap is_some some)

  -- a map with a value is not empty
  pub len-some : (x : X) → get m n ≡ Some x → 0 < len m
  len-some x some = elim (cases_eq (len m) 0) as (λ _. 0 < len m) [
    | inl e ↦ absurd (false≢true (ap is_some (sym (get-empty nat_cmp n) ∙ ap (λ m. get m n) (sym (empty_of_len m e)) ∙ some)))
    | inr ne ↦ omega arith
  ]
