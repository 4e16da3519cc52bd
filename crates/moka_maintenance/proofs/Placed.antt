-- Which rows stay when a record changes, leaves, or its number goes.
use Rattle.std.proofs.Common.{◌≡◌, ◌≢◌, ℕ, Option, Some, None, inl, inr, sym, ap, ◌∙◌, subst, refl, IsSome}
use Rattle.std.proofs.lemmas.Bool.{cases_eq}
use Rattle.std.specs.FinMap.{FinMap, get, insert, remove}
use Rattle.std.specs.Ordering.{nat_cmp}
use Rattle.moka_records.specs.declared.records.Operation.TheVariants.{Removal}
use Rattle.moka_parts.specs.Settling.{number_of}
use Rattle.moka_store.specs.Store.{Kept}
use Rattle.moka_store.proofs.Gets.{get-inserted, get-past_insert, get-past_remove, after_remove}
use Rattle.moka_maintenance.specs.Queued.{IsAt}
use Rattle.moka_maintenance.specs.Steps.{AddsNoPlace, LeavesNoRow}
use Rattle.moka_maintenance.specs.Admission.{LeavesNoRowAfter}

module _ {X : Type 0} where
  -- what is missing after an insertion was missing before
  pub none_inserted : (m : FinMap nat_cmp X) (n : ℕ) (x : X) (k : ℕ) → get (insert m n x) k ≡ None → get m k ≡ None
  none_inserted m n x k h = elim (cases_eq k n) as (λ _. get m k ≡ None) [
    | inl e ↦ (let some = get-inserted m n x in let t = ap (get (insert m n x)) e in cc)
    | inr ne ↦ sym (get-past_insert m n x k ne) ∙ h
  ]

  -- and what is missing after a removal of another number
  pub none_removed : (m : FinMap nat_cmp X) (n k : ℕ) → k ≢ n → get (remove m n) k ≡ None → get m k ≡ None
  none_removed m n k ne h = sym (get-past_remove m n k ne) ∙ h

module _ {K V : Type 0} where
  -- the row goes with the record
  pub rows-gone : {S : Type 0} → (old new : Kept K V S) (n : ℕ) → new.records ≡ remove old.records n → new.places ≡ remove old.places n → LeavesNoRow old new
  rows-gone old new n records places k p at gone =
      let other = (after_remove old.places n k p (sym (ap (λ m. get m k) places) ∙ at)).0 in
      none_removed old.records n k other (sym (ap (λ m. get m k) records) ∙ gone)

  pub places-gone : {S : Type 0} → (old new : Kept K V S) (n : ℕ) → new.places ≡ remove old.places n → AddsNoPlace old new
  places-gone old new n places k p at = (after_remove old.places n k p (sym (ap (λ m. get m k) places) ∙ at)).1

  -- one change and then another
  pub places-on : {S : Type 0} → (a b c : Kept K V S) → AddsNoPlace a b → AddsNoPlace b c → AddsNoPlace a c
  places-on a b c h k n p at = h n p (k n p at)

  pub rows-on : {S : Type 0} → (a b c : Kept K V S) → AddsNoPlace b c → LeavesNoRow a b → LeavesNoRow b c → LeavesNoRow a c
  rows-on a b c kept h k n p at gone = h n p (kept n p at) (k n p at gone)

  module _ {S : Type 0} (old new : Kept K V S) (n generation : ℕ) where
    -- an operation of a number that has no row
    pub rows-unplaced : (place : ℕ) → IsAt old.places n place → (get old.places n ≡ Some place → ⊥) → new ≡ old → LeavesNoRowAfter (Removal n generation) old new
    rows-unplaced place is_at away same k p at gone =
        let at' : get old.places k ≡ Some p = subst (λ (s : Kept K V S). get s.places k ≡ Some p) same at in
        (subst (λ (s : Kept K V S). get s.records k ≡ None) same gone, λ _ e. (let there : get old.places n ≡ Some p = subst (λ m. get old.places m ≡ Some p) (sym (ap number_of e)) at' in away (there ∙ ap (λ q. Some q) (is_at p there))))

    -- its row is given back
    pub rows-forgotten : new.records ≡ old.records → new.places ≡ remove old.places n → LeavesNoRowAfter (Removal n generation) old new
    rows-forgotten same places k p at gone =
        let other = (after_remove old.places n k p (sym (ap (λ m. get m k) places) ∙ at)).0 in
        (sym (ap (λ m. get m k) same) ∙ gone, λ _ e. other (sym (ap number_of e)))

-- a number whose row is not at its place has none, and so is no member and has no record
pub no_row : {X : Type 0} (places : FinMap nat_cmp ℕ) (n place : ℕ) (o : Option X) → IsAt places n place → (IsSome o → IsSome (get places n)) → (get places n ≡ Some place → ⊥) → o ≡ None
no_row places n place None is_at rowed away = refl
no_row places n place (Some x) is_at rowed away = go (get places n) refl (rowed refl)
  where
    go : (p : Option ℕ) → get places n ≡ p → IsSome p → Some x ≡ None
    go None e some = cc
    go (Some p) e some = absurd (away (e ∙ ap (λ q. Some q) (is_at p e)))

-- what is not found at its place is not in the map
pub not_found : {X : Type 0} (places : FinMap nat_cmp ℕ) (n place : ℕ) (o : Option X) → IsAt places n place → (IsSome o → IsSome (get places n)) → (get places n ≡ Some place → None ≡ o) → o ≡ None
not_found places n place None is_at rowed found = refl
not_found places n place (Some x) is_at rowed found = no_row places n place (Some x) is_at rowed (λ here. (let none = found here in cc))
