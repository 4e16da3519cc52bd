-- Predicates leave, the last first, each of which covers no record.
use Rattle.std.proofs.Common.{◌≡◌, refl, ℕ, ◌+◌, Bool, List, [], ◌∷◌, ◌++◌, length, Some, slice_get, remove, inl, inr, ap, sym, subst, ◌∙◌, arith, append_assoc, ◌<◌, ◌≤◌, get_or}
use Rattle.std.proofs.lemmas.List.Edits.{get_or-remove_above, length-remove}
use Rattle.moka_parts.specs.declared.records.Registered.{Registered}
use Rattle.moka_parts.specs.State.{Contents}
use Rattle.moka_parts.specs.Maintenance.{Choice, Removes, MovesToBack, Drops, Tests, CoversNothing, after_choice, after_choices, left_by_choice, left_by_choices, kept_by_choice, kept_by_choices, AreJustified}
use Rattle.moka_parts.specs.Bounds.{removed_by}
use Rattle.moka_parts.specs.Order.{written_after_choice, written_after_choices}
use Rattle.moka_parts.specs.Grounds.{AreDrops}
use Rattle.moka_laws.proofs.OneMore.{AreJustified_push}
use Rattle.moka_maintenance.specs.Scan.{CoversSome, AllDropped}
use Rattle.std.proofs.lemmas.Bool.{cases_eq}
use Rattle.std.proofs.lemmas.Option.{slice_get-get_or}

-- ---- steps that are drops alone

-- what holds of no steps, and with a drop before those of which it holds, holds of drops
pub by_drops : (Holds : List Choice → Type 0) → Holds [] → ((i : ℕ) (xs : List Choice) → Holds xs → Holds (Drops i ∷ xs)) → (xs : List Choice) → AreDrops xs → Holds xs
by_drops Holds none more [] h = none
by_drops Holds none more (Removes n cause ∷ xs) h = absurd h
by_drops Holds none more (MovesToBack n ∷ xs) h = absurd h
by_drops Holds none more (Drops i ∷ xs) h = more i xs (by_drops Holds none more xs h)

pub both_drop : (xs ys : List Choice) → AreDrops xs → AreDrops ys → AreDrops (xs ++ ys)
both_drop xs ys h j = by_drops (λ xs. AreDrops (xs ++ ys)) j (λ i xs both. both) xs h

pub drops_stay : {K V : Type 0} (c : Contents K V) (xs : List Choice) → AreDrops xs → after_choices c xs ≡ c
drops_stay c xs h = by_drops (λ xs. after_choices c xs ≡ c) refl (λ i xs same. same) xs h

pub drops_silent : {K V : Type 0} (c : Contents K V) (xs : List Choice) → AreDrops xs → left_by_choices c xs ≡ []
drops_silent c xs h = by_drops (λ xs. left_by_choices c xs ≡ []) refl (λ i xs none. none) xs h

pub drops_remove_none : (xs : List Choice) → AreDrops xs → removed_by xs ≡ []
drops_remove_none xs h = by_drops (λ xs. removed_by xs ≡ []) refl (λ i xs none. none) xs h

pub drops_unlisted : (ns : List ℕ) (xs : List Choice) → AreDrops xs → written_after_choices ns xs ≡ ns
drops_unlisted ns xs h = by_drops (λ xs. written_after_choices ns xs ≡ ns) refl (λ i xs same. same) xs h

pub choices-append : {K V : Type 0} (c : Contents K V) (xs ys : List Choice) → after_choices c (xs ++ ys) ≡ after_choices (after_choices c xs) ys
choices-append c [] ys = refl
choices-append c (x ∷ xs) ys = choices-append (after_choice c x) xs ys

pub gone-append : {K V : Type 0} (c : Contents K V) (xs ys : List Choice) → left_by_choices c (xs ++ ys) ≡ left_by_choices c xs ++ left_by_choices (after_choices c xs) ys
gone-append c [] ys = refl
gone-append c (x ∷ xs) ys = ap (λ ns. left_by_choice c x ++ ns) (gone-append (after_choice c x) xs ys) ∙ sym (append_assoc (left_by_choice c x) (left_by_choices (after_choice c x) xs) (left_by_choices (after_choices (after_choice c x) xs) ys))

pub written-append : (ns : List ℕ) (xs ys : List Choice) → written_after_choices ns (xs ++ ys) ≡ written_after_choices (written_after_choices ns xs) ys
written-append ns [] ys = refl
written-append ns (x ∷ xs) ys = written-append (written_after_choice ns x) xs ys

pub kept-append : {P : Type 0} (ps : List (Registered P)) (xs ys : List Choice) → kept_by_choices ps (xs ++ ys) ≡ kept_by_choices (kept_by_choices ps xs) ys
kept-append ps [] ys = refl
kept-append ps (x ∷ xs) ys = kept-append (kept_by_choice ps x) xs ys

-- ---- the loop

at_place : {A : Type 0} (xs : List A) (i : ℕ) → i < length xs → (x : A) × (slice_get xs i ≡ Some x)
at_place [] i lt = absurd (omega arith)
at_place (x ∷ xs) i lt = (get_or (x ∷ xs) i x, slice_get-get_or (x ∷ xs) i x lt)

module _ {K V P : Type 0} (says : P → K → V → Bool → Type 0) (c : Contents K V) (ps : List (Registered P)) where
  -- predicates have left, and each of those from this place on covers a record
  pub record Dropping (qs : List (Registered P)) (left : ℕ) : Type 0 where
    pub few : left ≤ length qs
    pub steps : List Choice
    pub drops : AreDrops steps
    pub justified : (q : Tests) → AreJustified says q c ps steps
    pub kept : qs ≡ kept_by_choices ps steps
    pub used : (i : ℕ) (p : Registered P) → left ≤ i → i < length qs → get_or qs i p ≡ p → CoversSome says c p

  pub dropping-none : (left : ℕ) → left ≡ length ps → Dropping ps left
  dropping-none left e = record { few = omega arith; steps = []; drops = tt; justified = λ q. tt; kept = refl; used = λ i p from lt is. absurd (omega arith) }

  module _ (qs : List (Registered P)) (left : ℕ) (h : Dropping qs (left + 1)) where
    within : left < length qs
    within = let few = h.few in omega arith

    -- the one at the place stays
    pub dropping-used : ((p : Registered P) → slice_get qs left ≡ Some p → CoversSome says c p) → Dropping qs left
    dropping-used covers = record {
      few = (let few = h.few in omega arith);
      steps = h.steps;
      drops = h.drops;
      justified = h.justified;
      kept = h.kept;
      used = λ i p from lt is. elim (cases_eq i left) [
        | inl same ↦ covers p (ap (slice_get qs) (sym same) ∙ slice_get-get_or qs i p lt ∙ ap (λ x. Some x) is)
        | inr other ↦ h.used i p (omega arith) lt is
      ];
    }

    -- it leaves
    pub dropping-idle : ((p : Registered P) → slice_get qs left ≡ Some p → CoversNothing says c p) → Dropping (remove qs left) left
    dropping-idle idle =
        let at = at_place qs left within in
        let count = length-remove qs left within in
        record {
          few = (let few = h.few in omega arith);
          steps = h.steps ++ Drops left ∷ [];
          drops = both_drop h.steps (Drops left ∷ []) h.drops tt;
          justified = λ q. AreJustified_push says q c ps h.steps (Drops left) (h.justified q) (at.0, ap (λ xs. slice_get xs left) (sym h.kept) ∙ at.1, subst (λ d. CoversNothing says d at.0) (sym (drops_stay c h.steps h.drops)) (idle at.0 at.1));
          kept = ap (λ xs. remove xs left) h.kept ∙ sym (kept-append ps h.steps (Drops left ∷ []));
          used = λ i p from lt is. h.used (i + 1) p (omega arith) (omega arith) (sym (get_or-remove_above qs left p i from within) ∙ is);
        }

  pub dropping-done : (qs : List (Registered P)) → Dropping qs 0 → AllDropped says c ps qs
  dropping-done qs h = record {
    dropped = record { steps = h.steps; drops = h.drops; justified = h.justified; kept = h.kept };
    used = λ p there. h.used there.0 p (omega arith) there.1 there.2;
  }
