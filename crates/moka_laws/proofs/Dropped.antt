-- A run drops a predicate only when it covers no record.
use Rattle.std.proofs.Common.{◌≡◌, ℕ, ◌<◌, Bool, List, [], ◌∷◌, Some, refl, ap, sym, subst, ◌++◌, ◌⊎◌, inl, inr, ◌∙◌, unwrap_or, arith, Contains, slice_get, remove}
use Rattle.std.specs.FinMap as finite
use Rattle.moka_laws.proofs.Types.{Record, Registered, State, Contents, Choice, Removes, MovesToBack, Drops, Freedom}
use Rattle.std.proofs.lemmas.Option.{slice_get_within, get_or_from_slice_get}
use Rattle.std.proofs.lemmas.List.Elements.{Contains-append_cases, Contains-push_cases}
use Rattle.std.proofs.lemmas.List.Sorted.{Contains-permutation, IsPermutation-remove}
use Rattle.moka_parts.specs.Visibility.{Covers}
use Rattle.moka_parts.specs.Maintenance.{after_choice, after_choices, kept_by_choice, kept_by_choices, CoversNothing, before_steps, at_end, predicates_at_end, tests_of, AreJustified, AreFree, IsJustified}
use Rattle.moka_parts.specs.Laws.{AllDropIdle, DropsOnlyIdle}
use Rattle.moka_laws.proofs.RunKeeps.{keeps_second}

-- one of a list that loses an element is that one, or still there
lost_or_kept : {A : Type 0} (xs : List A) (i : ℕ) (q p : A) → slice_get xs i ≡ Some q → Contains xs p → (q ≡ p) ⊎ Contains (remove xs i) p
lost_or_kept xs i q p at there =
    let below = slice_get_within xs i q at in
    elim (Contains-append_cases (q ∷ []) (remove xs i) p (Contains-permutation xs (q ∷ remove xs i) p (IsPermutation-remove xs i q below (sym (get_or_from_slice_get xs i q q at))) there)) [
      | inl only ↦ elim (Contains-push_cases [] q p only) [ inl none ↦ let nothing : none.0 < 0 = none.1 in absurd (omega arith) | inr e ↦ inl e ]
      | inr c ↦ inr c
    ]

module _ {K V X P W : Type 0} (says : P → K → V → Bool → Type 0) (s : State K V X P W) (now : ℕ) where
  all_idle : (c : Contents K V) (ps : List (Registered P)) (xs : List Choice) → AreJustified says (tests_of s now) c ps xs → AllDropIdle says c ps xs
  all_idle c ps [] are = tt
  all_idle c ps (Removes n cause ∷ xs) are = (tt, all_idle (after_choice c (Removes n cause)) ps xs are.1)
  all_idle c ps (MovesToBack n ∷ xs) are = (tt, all_idle (after_choice c (MovesToBack n)) ps xs are.1)
  all_idle c ps (Drops i ∷ xs) are = (λ p at. subst (CoversNothing says c) (ap (λ o. unwrap_or o p) (sym are.0.1 ∙ at)) are.0.2, all_idle c (remove ps i) xs are.1)

  -- a predicate is kept by a step, or covers no record
  kept_or_idle_now : (c : Contents K V) (ps : List (Registered P)) (x : Choice) (p : Registered P) → IsJustified says (tests_of s now) c ps x → Contains ps p → Contains (kept_by_choice ps x) p ⊎ CoversNothing says c p
  kept_or_idle_now c ps (Removes n cause) p may here = inl here
  kept_or_idle_now c ps (MovesToBack n) p may here = inl here
  kept_or_idle_now c ps (Drops i) p may here = elim (lost_or_kept ps i may.0 p may.1 here) [ inl same ↦ inr (subst (CoversNothing says c) same may.2) | inr kept ↦ inl kept ]

  -- a predicate is kept, or after some of the steps it covers no record
  pub kept_or_idle : (c : Contents K V) (ps : List (Registered P)) (xs : List Choice) (p : Registered P) → AreJustified says (tests_of s now) c ps xs → Contains ps p →
      Contains (kept_by_choices ps xs) p ⊎ ((first rest : List Choice) × (xs ≡ first ++ rest) × CoversNothing says (after_choices c first) p)
  kept_or_idle c ps [] p are here = inl here
  kept_or_idle c ps (x ∷ xs) p are here = elim (kept_or_idle_now c ps x p are.0 here) [
    | inl kept ↦ elim (kept_or_idle (after_choice c x) (kept_by_choice ps x) xs p are.1 kept) [
      | inl kept ↦ inl kept
      | inr (first, rest, same, idle) ↦ inr (x ∷ first, rest, ap (λ ys. x ∷ ys) same, idle)
    ]
    | inr idle ↦ inr ([], x ∷ xs, refl, idle)
  ]

  -- what covers a record covered it with any applied generation
  covers_as_before : (p : Registered P) (q r : Record K V) (g : ℕ) → r ≡ record q { applied = g } → Covers says p r → Covers says p q
  covers_as_before p q r g same covers = subst (λ (x : Record K V). Covers says p x) same covers

  -- a predicate that covers a record that a run leaves stays registered
  pub covering_stays : (ch : Freedom) → AreFree says s now ch → (p : Registered P) (n : ℕ) (r : Record K V) → Contains s.predicates p → finite.get (at_end s ch).records n ≡ Some r → Covers says p r → Contains (predicates_at_end s ch) p
  covering_stays ch free p n r here there covers = elim (kept_or_idle (before_steps s ch) s.predicates ch.steps p free.1 here) [
    | inl kept ↦ kept
    | inr (first, rest, same, idle) ↦
        let old = keeps_second (before_steps s ch) first rest n r (subst (λ xs. finite.get (after_choices (before_steps s ch) xs).records n ≡ Some r) same there) in
        absurd (idle n old.0 old.1 (covers_as_before p old.0 r old.2.0 old.2.1 covers))
  ]

  -- a predicate is dropped only when it covers no record
  pub drops_only_idle : (ch : Freedom) → DropsOnlyIdle says s now ch
  drops_only_idle ch free = all_idle (before_steps s ch) s.predicates ch.steps free.1
