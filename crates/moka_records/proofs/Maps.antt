-- Numbers as keys of finite maps: what is found after a change.
use Rattle.std.proofs.Common.{◌≡◌, ℕ, ◌<◌, ◌≤◌, true, false, cond, length, [], Some, None, ap, sym, ◌∙◌, ◌⊎◌, inl, inr, ◌==◌, eqb→eq, arith, subst}
use Rattle.std.specs.Bool.{passes}
use Rattle.std.specs.Ordering.{nat_cmp, eq_by_cmp}
use Rattle.std.specs.Cmp.{nat_cmp_total, eq_by_cmp_equiv, IsEquivalence, unsigned_tied}
use Rattle.std.specs.FinMap.{FinMap, get, insert, remove, empty, from_sorted, entries, entries-from_sorted, len-entries, empty_of_len, get-empty, get-insert, get-remove}
use Rattle.std.proofs.lemmas.Option.{none-some, same_Some}
use Rattle.std.proofs.lemmas.Bool.{cases_eq, ne_eqb}

-- two numbers that differ, by each test
pub record AreApart (a b : ℕ) : Type 0 where
  pub ordered : eq_by_cmp nat_cmp a b ≡ false
  pub forth : (a == b) ≡ false
  pub back : (b == a) ≡ false

-- numbers are told apart by their order as by equality
pub numbers_alike : IsEquivalence (λ (a b : ℕ). a == b)
numbers_alike = subst IsEquivalence (λ i a b. unsigned_tied a b i) (eq_by_cmp_equiv nat_cmp_total)

-- a number ties with itself
pub itself_ordered : (n : ℕ) → eq_by_cmp nat_cmp n n ≡ true
itself_ordered n = (eq_by_cmp_equiv nat_cmp_total).refl n

-- a number is equal to itself
pub itself_tested : (n : ℕ) → (n == n) ≡ true
itself_tested n = numbers_alike.refl n

-- numbers that test equal are the same
pub same_by_test : (a b : ℕ) → (a == b) ≡ true → a ≡ b
same_by_test a b e = eqb→eq a b (passes _ e)

-- numbers that tie are the same
pub one_by_order : (a b : ℕ) → eq_by_cmp nat_cmp a b ≡ true → a ≡ b
one_by_order a b e = same_by_test a b (sym (unsigned_tied a b) ∙ e)

-- two numbers are the same or differ by each test
pub same_or_apart : (a b : ℕ) → (a ≡ b) ⊎ AreApart a b
same_or_apart a b = elim (cases_eq a b) [
  | inl same ↦ inl same
  | inr differ ↦ inr (record { ordered = unsigned_tied a b ∙ ne_eqb a b differ; forth = ne_eqb a b differ; back = ne_eqb b a (λ same. differ (sym same)) })
]

-- numbers that differ, differ the other way round
pub apart_turned : (a b : ℕ) → (a == b) ≡ false → (b == a) ≡ false
apart_turned a b e = numbers_alike.symm b a ∙ e

-- a number differs from a greater one
pub apart_below : (a b : ℕ) → a < b → (a == b) ≡ false
apart_below a b less = grind (arith, less)

-- numbers of which none is below the other are the same
pub same_by_order : (a b : ℕ) → a ≤ b → (a < b → ⊥) → (a == b) ≡ true
same_by_order a b le differ = elim (same_or_apart a b) [ inl e ↦ grind (arith, e) | inr apart ↦ let d = apart.forth in absurd (differ (grind (arith, le, d))) ]

module _ {X : Type 0} where
  -- at the key that was put in
  pub get_inserted : (m : FinMap nat_cmp X) (n : ℕ) (x : X) → get (insert m n x) n ≡ Some x
  get_inserted m n x = get-insert nat_cmp_total m n x n ∙ ap (λ b. cond b (Some x) (get m n)) (itself_ordered n)

  -- at the key that was taken out
  pub get_removed : (m : FinMap nat_cmp X) (n : ℕ) → get (remove m n) n ≡ None
  get_removed m n = get-remove nat_cmp_total m n n ∙ ap (λ b. cond b None (get m n)) (itself_ordered n)

  -- at another key than was put in
  pub get_past_insert : (m : FinMap nat_cmp X) (n : ℕ) (x : X) (k : ℕ) → AreApart k n → get (insert m n x) k ≡ get m k
  get_past_insert m n x k a = get-insert nat_cmp_total m n x k ∙ ap (λ b. cond b (Some x) (get m k)) a.ordered

  -- at another key than was taken out
  pub get_past_remove : (m : FinMap nat_cmp X) (n k : ℕ) → AreApart k n → get (remove m n) k ≡ get m k
  get_past_remove m n k a = get-remove nat_cmp_total m n k ∙ ap (λ b. cond b None (get m k)) a.ordered

  -- what is found after one more was put in is that one, or was there
  pub found_inserted : (m : FinMap nat_cmp X) (n : ℕ) (x : X) (k : ℕ) (y : X) → get (insert m n x) k ≡ Some y → ((k ≡ n) × (x ≡ y)) ⊎ (AreApart k n × (get m k ≡ Some y))
  found_inserted m n x k y found = elim (same_or_apart k n) [
    | inl same ↦ inl (same, same_Some x y (sym (get_inserted m n x) ∙ sym (ap (get (insert m n x)) same) ∙ found))
    | inr apart ↦ inr (apart, sym (get_past_insert m n x k apart) ∙ found)
  ]

  -- what is found after one was taken out was there, at another key
  pub found_removed : (m : FinMap nat_cmp X) (n k : ℕ) (x : X) → get (remove m n) k ≡ Some x → AreApart k n × (get m k ≡ Some x)
  found_removed m n k x found = elim (same_or_apart k n) [
    | inl same ↦ absurd (none-some x (sym (get_removed m n) ∙ sym (ap (get (remove m n)) same) ∙ found))
    | inr apart ↦ (apart, sym (get_past_remove m n k apart) ∙ found)
  ]

  -- an empty map has no entries
  pub entries-empty : entries (empty {X = X} {R = nat_cmp}) ≡ []
  entries-empty =
      let none = entries-from_sorted {X = X} nat_cmp [] tt in
      let one : from_sorted {X = X} {R = nat_cmp} [] ≡ empty = empty_of_len (from_sorted []) (len-entries (from_sorted []) ∙ ap length none) in
      sym (ap entries one) ∙ none

  -- an empty map has nothing
  pub nothing_at : (n : ℕ) (x : X) → get (empty {X = X} {R = nat_cmp}) n ≡ Some x → ⊥
  nothing_at n x e = let no : None ≡ Some x = sym (get-empty nat_cmp n) ∙ e in cc
