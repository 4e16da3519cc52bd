-- Keys in the order in which they came: one more, and the first one less.
use Rattle.std.proofs.Common.{◌≡◌, refl, ℕ, Bool, true, false, not, ◌==◌, ◌&&◌, ◌||◌, List, [], ◌∷◌, ◌++◌, inl, inr, ap, sym, ◌∙◌, cond, ◌⊎◌}
use Rattle.std.proofs.lemmas.Bool.{and_parts, cases_eq, eq-eqb, ne_eqb, or_parts, or_right}
use Rattle.moka_hit_ratio.specs.Fifo.{is_kept, are_distinct}

or-none : (b : Bool) → b || false ≡ b
or-none true = refl
or-none false = refl

-- of one key more
kept-more : (x k : ℕ) (ks : List ℕ) → is_kept x (ks ++ k ∷ []) ≡ is_kept x ks || x == k
kept-more x k [] = or-none (x == k)
kept-more x k (y ∷ ks) = ap (λ b. x == y || b) (kept-more x k ks) ∙ regroup (x == y) (is_kept x ks) (x == k)
  where
    regroup : (a b c : Bool) → a || (b || c) ≡ (a || b) || c
    regroup true b c = refl
    regroup false b c = refl

same-turned : (a b : ℕ) → (a == b) ≡ (b == a)
same-turned a b = elim (cases_eq a b) [
  | inl same ↦ eq-eqb a b same ∙ sym (eq-eqb b a (sym same))
  | inr other ↦ ne_eqb a b other ∙ sym (ne_eqb b a (λ same. other (sym same)))
]

none-of-both : (a b : Bool) → a ≡ false → b ≡ false → a || b ≡ false
none-of-both a b first second = ap (λ x. x || b) first ∙ second

not-false : (b : Bool) → b ≡ false → not b ≡ true
not-false b is = ap not is

not-true : (b : Bool) → not b ≡ true → b ≡ false
not-true true is = sym is
not-true false is = refl

pub distinct-more : (k : ℕ) (ks : List ℕ) → is_kept k ks ≡ false → are_distinct ks ≡ true → are_distinct (ks ++ k ∷ []) ≡ true
distinct-more k [] fresh distinct = refl
distinct-more k (x ∷ ks) fresh distinct =
    let apart = or_parts (k == x) (is_kept k ks) fresh in
    let parts = and_parts (not (is_kept x ks)) (are_distinct ks) distinct in
    let first : not (is_kept x (ks ++ k ∷ [])) ≡ true = not-false (is_kept x (ks ++ k ∷ [])) (kept-more x k ks ∙ none-of-both (is_kept x ks) (x == k) (not-true (is_kept x ks) parts.0) (same-turned x k ∙ apart.0)) in
    ap (λ b. b && are_distinct (ks ++ k ∷ [])) first ∙ distinct-more k ks apart.1 parts.1

-- a set that has these keys has those with one more
pub tied-more : (k : ℕ) (ks : List ℕ) (before after : ℕ → Bool) → ((q : ℕ) → before q ≡ is_kept q ks) → ((q : ℕ) → after q ≡ cond (k == q) true (before q)) → (q : ℕ) → after q ≡ is_kept q (ks ++ k ∷ [])
tied-more k ks before after tied updates q = updates q ∙ go (cases_eq k q) ∙ sym (kept-more q k ks)
  where
    go : (k ≡ q) ⊎ (k ≡ q → ⊥) → cond (k == q) true (before q) ≡ is_kept q ks || q == k
    go (inl same) = ap (λ b. cond b true (before q)) (eq-eqb k q same) ∙ sym (or_right (is_kept q ks) (q == k) (eq-eqb q k (sym same)))
    go (inr other) = ap (λ b. cond b true (before q)) (ne_eqb k q other) ∙ tied q ∙ sym (or-none (is_kept q ks)) ∙ sym (ap (λ b. is_kept q ks || b) (ne_eqb q k (λ same. other (sym same))))

-- and once it lacks the first one those without it
pub tied-less : (o : ℕ) (ks : List ℕ) (before after : ℕ → Bool) → are_distinct (o ∷ ks) ≡ true → ((q : ℕ) → before q ≡ is_kept q (o ∷ ks)) → ((q : ℕ) → after q ≡ cond (o == q) false (before q)) → (q : ℕ) → after q ≡ is_kept q ks
tied-less o ks before after distinct tied updates q = updates q ∙ go (cases_eq o q)
  where
    go : (o ≡ q) ⊎ (o ≡ q → ⊥) → cond (o == q) false (before q) ≡ is_kept q ks
    go (inl same) =
        let parts = and_parts (not (is_kept o ks)) (are_distinct ks) distinct in
        ap (λ b. cond b false (before q)) (eq-eqb o q same) ∙ sym (ap (λ x. is_kept x ks) (sym same) ∙ not-true (is_kept o ks) parts.0)
    go (inr other) = ap (λ b. cond b false (before q)) (ne_eqb o q other) ∙ tied q ∙ ap (λ b. b || is_kept q ks) (ne_eqb q o (λ same. other (sym same)))

pub distinct-less : (o : ℕ) (ks : List ℕ) → are_distinct (o ∷ ks) ≡ true → are_distinct ks ≡ true
distinct-less o ks distinct = (and_parts (not (is_kept o ks)) (are_distinct ks) distinct).1
