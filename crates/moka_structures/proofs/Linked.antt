-- How the slots that are kept follow the nodes.
use Rattle.std.proofs.Common.{◌≡◌, ◌≢◌, ℕ, cond, Option, Some, None, sym, ◌∙◌, nat_eq, arith}
use Rattle.std.proofs.lemmas.Bool.Decides.{nat_tests}
use Rattle.moka_structures.specs.Linked.{IsLinked}

module _ (a b n m : ℕ → Option ℕ) (l : IsLinked a n) where
  -- nothing changes
  pub linked-same : ((p : ℕ) → b p ≡ a p) → ((s : ℕ) → m s ≡ n s) → IsLinked b m
  linked-same f u = record { to_slot = λ s p h. f p ∙ l.to_slot s p (sym (u s) ∙ h); to_place = λ s p h. u s ∙ l.to_place s p (sym (f p) ∙ h) }

  module _ (slot place : ℕ) (others : (p : ℕ) → p ≢ place → b p ≡ a p) where
    -- a place gets the slot of a new node
    pub linked-added : a place ≡ None → b place ≡ Some slot → n slot ≡ None → ((s : ℕ) → m s ≡ cond (nat_eq s slot) (Some place) (n s)) → IsLinked b m
    linked-added was now free u = record {
      to_slot = λ s p h. grind (arith, nat_tests, l.to_slot s p, others p, u s);
      to_place = λ s p h. grind (arith, nat_tests, l.to_place s p, others p, u s);
    }

    -- the node of a place leaves
    pub linked-removed : a place ≡ Some slot → b place ≡ None → ((s : ℕ) → m s ≡ cond (nat_eq slot s) None (n s)) → IsLinked b m
    linked-removed was now u = record {
      to_slot = λ s p h. grind (arith, nat_tests, l.to_slot s p, others p, u s);
      to_place = λ s p h. grind (arith, nat_tests, l.to_place s p, l.to_place slot place was, others p, u s);
    }
