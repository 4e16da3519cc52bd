-- How the index of keys follows a change at one place.
use Rattle.std.proofs.Common.{◌≡◌, ◌≢◌, ℕ, Bool, false, Option, Some, None, inl, inr, sym, ap, ◌∙◌}
use Rattle.std.proofs.lemmas.Bool.{cases_eq}
use Rattle.std.specs.Cmp.{IsEquivalence}
use Rattle.std.specs.FinMap.{get, insert, remove}
use Rattle.std.specs.Option.{option_map}
use Rattle.moka_store.proofs.Gets.{get-inserted, get-past_insert, get-removed, get-past_remove}
use Rattle.moka_store.specs.StoreTies.{KeyIndex, IsIndex}

module _ {K : Type 0} (eq : K → K → Bool) (a b : ℕ → Option K) (index : KeyIndex K) (i : IsIndex eq a index) where
  -- nothing changes
  pub index-same : ((p : ℕ) → b p ≡ a p) → IsIndex eq b index
  index-same same = record {
    at = λ p. i.at p ∙ ap (option_map index.hash_of) (sym (same p));
    once = λ p q x y px qy e. i.once p q x y (sym (same p) ∙ px) (sym (same q) ∙ qy) e;
  }

  module _ (place : ℕ) (others : (p : ℕ) → p ≢ place → b p ≡ a p) where
    -- a key that no place has comes to a place
    pub index-added : IsEquivalence eq → (key : K) → b place ≡ Some key → ((p : ℕ) (x : K) → a p ≡ Some x → eq key x ≡ false) → IsIndex eq b (record index { entries = insert index.entries place (index.hash_of key) })
    index-added laws key now fresh = record {
      at = λ p. elim (cases_eq p place) as (λ _. get (insert index.entries place (index.hash_of key)) p ≡ option_map index.hash_of (b p)) [
        | inl e ↦
            ap (get (insert index.entries place (index.hash_of key))) e ∙ get-inserted index.entries place (index.hash_of key)
            ∙ ap (option_map index.hash_of) (sym now ∙ ap b (sym e))
        | inr ne ↦ get-past_insert index.entries place (index.hash_of key) p ne ∙ i.at p ∙ ap (option_map index.hash_of) (sym (others p ne))
      ];
      once = λ p q x y px qy e. elim (cases_eq p place) as (λ _. p ≡ q) [
        | inl pe ↦ elim (cases_eq q place) as (λ _. p ≡ q) [
          | inl qe ↦ pe ∙ sym qe
          | inr qn ↦ (let here = ap b pe in let apart = fresh q y (sym (others q qn) ∙ qy) in cc)
        ]
        | inr pn ↦ elim (cases_eq q place) as (λ _. p ≡ q) [
          | inl qe ↦ (let here = ap b qe in let apart = fresh p x (sym (others p pn) ∙ px) in let turned = laws.symm x y in cc)
          | inr qn ↦ i.once p q x y (sym (others p pn) ∙ px) (sym (others q qn) ∙ qy) e
        ]
      ];
    }

    -- the key of a place leaves
    pub index-removed : b place ≡ None → IsIndex eq b (record index { entries = remove index.entries place })
    index-removed now =
        let was : (p : ℕ) (x : K) → b p ≡ Some x → a p ≡ Some x = λ p x h. elim (cases_eq p place) as (λ _. a p ≡ Some x) [
          | inl e ↦ let bad : None ≡ Some x = sym now ∙ ap b (sym e) ∙ h in cc
          | inr ne ↦ sym (others p ne) ∙ h
        ] in
        record {
          at = λ p. elim (cases_eq p place) as (λ _. get (remove index.entries place) p ≡ option_map index.hash_of (b p)) [
            | inl e ↦ ap (get (remove index.entries place)) e ∙ get-removed index.entries place ∙ ap (option_map index.hash_of) (sym now ∙ ap b (sym e))
            | inr ne ↦ get-past_remove index.entries place p ne ∙ i.at p ∙ ap (option_map index.hash_of) (sym (others p ne))
          ];
          once = λ p q x y px qy e. i.once p q x y (was p x px) (was q y qy) e;
        }
