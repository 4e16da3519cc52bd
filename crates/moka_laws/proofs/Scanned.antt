-- A scan of the predicates, stretch by stretch: over a list `before ++ stretch ++ after` it says what stands in the
-- stretch, a whole round is `before ++ stretch`, and what leaves the map in between takes nothing back.
use Rattle.std.proofs.Common.{◌≡◌, ℕ, Bool, true, false, ◌==◌, List, [], ◌∷◌, ◌++◌, Some, ap, sym, ◌∙◌, ◌⊎◌, ⊎_elim, true≢false, Contains}
use Rattle.std.specs.FinMap.{get}
use Rattle.std.specs.List.{All}
use Rattle.std.proofs.lemmas.Bool.{or_cases}
use Rattle.std.proofs.lemmas.List.Elements.{All-nil, All-cons, All-contains}
use Rattle.std.proofs.lemmas.List.Folds.{list_any-append}
use Rattle.moka_laws.proofs.Types.{Record, Registered, Records}
use Rattle.moka_records.specs.Records.{is_applied, is_listed}
use Rattle.moka_parts.specs.Visibility.{Covers, NoneCovers}
use Rattle.moka_parts.specs.Scan.{AreUncovered}
use Rattle.moka_records.proofs.Maps.{same_by_test}

-- what stands in two lists joined stands in one of them
pub listed_append : (n : ℕ) (xs ys : List ℕ) → is_listed n (xs ++ ys) ≡ true → (is_listed n xs ≡ true) ⊎ (is_listed n ys ≡ true)
listed_append n xs ys e = or_cases (is_listed n xs) (is_listed n ys) (sym (list_any-append (λ m. m == n) xs ys) ∙ e)

module _ {K V P : Type 0} (says : P → K → V → Bool → Type 0) (ps : List (Registered P)) where
  -- before the first member
  pub uncovered-none : (records : Records K V) → AreUncovered says ps records []
  uncovered-none records = record { settled = λ n r listed at applied. absurd (true≢false (sym listed)) }

  -- one stretch behind the other
  pub uncovered-append : (records : Records K V) (xs ys : List ℕ) → AreUncovered says ps records xs → AreUncovered says ps records ys → AreUncovered says ps records (xs ++ ys)
  uncovered-append records xs ys left right = record {
    settled = λ n r listed at applied.
        ⊎_elim (λ l. left.settled n r l at applied) (λ l. right.settled n r l at applied) (listed_append n xs ys listed);
  }

  -- one more member, which is unsettled, or has left the map, or is covered by none
  pub uncovered-push : (records : Records K V) (xs : List ℕ) (n : ℕ) → ((r : Record K V) → get records n ≡ Some r → is_applied r ≡ true → NoneCovers says ps r) → AreUncovered says ps records xs → AreUncovered says ps records (xs ++ n ∷ [])
  uncovered-push records xs n found so_far = uncovered-append records xs (n ∷ []) so_far (record {
    settled = λ m r listed at applied.
        ⊎_elim (λ e. found r (ap (get records) (same_by_test n m e) ∙ at) applied) (λ e. absurd (true≢false (sym e))) (or_cases (n == m) false listed);
  })

  -- after records left the map
  pub uncovered-kept : (earlier later : Records K V) (xs : List ℕ) → ((n : ℕ) (r : Record K V) → get later n ≡ Some r → get earlier n ≡ Some r) → AreUncovered says ps earlier xs → AreUncovered says ps later xs
  uncovered-kept earlier later xs kept h = record { settled = λ n r listed at applied. h.settled n r listed (kept n r at) applied }

  all_uncovering : (qs : List (Registered P)) (r : Record K V) → NoneCovers says qs r → All (λ p. Covers says p r → ⊥) qs
  all_uncovering [] r none = All-nil (λ p. Covers says p r → ⊥)
  all_uncovering (q ∷ qs) r none = All-cons (λ p. Covers says p r → ⊥) q qs none.0 (all_uncovering qs r none.1)

  -- none of them covers the record, so one does not
  pub not_one_covers : (p : Registered P) (r : Record K V) → NoneCovers says ps r → Contains ps p → Covers says p r → ⊥
  not_one_covers p r none there = All-contains (λ p. Covers says p r → ⊥) ps p (all_uncovering ps r none) there
