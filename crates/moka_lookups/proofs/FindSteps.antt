-- What a look-up finds in a store, and when a test of the caller's is asked.
use Rattle.std.proofs.Common.{◌≡◌, refl, ℕ, Bool, true, false, ◌⊎◌, List, Option, Some, None, sym, subst, ◌∙◌}
use Rattle.moka_records.specs.declared.instant.Instant.{Instant}
use Rattle.moka_records.specs.declared.records.Record.{Record}
use Rattle.moka_parts.specs.declared.records.Registered.{Registered}
use Rattle.moka_types.specs.Policy.{Expirations}
use Rattle.moka_parts.specs.Surroundings.{IsAskedOnce}
use Rattle.moka_parts.specs.Visibility.{has_lapsed, SomeCovers}
use Rattle.moka_store.specs.declared.store.Handle.{Handle}
use Rattle.moka_store.specs.Store.{Kept}
use Rattle.moka_lookups.specs.Expirations.{expiring_by}
use Rattle.moka_lookups.specs.Gets.{value_of, Finds, IsFound}

-- a test that always answers no ignores nothing
pub ignores_nothing : {V I : Type 0} (before after : I) (found : Option V) (ignored : Bool) → IsAskedOnce (λ _ _ a _. a ≡ false) (Some before) found ignored (Some after) → ignored ≡ false
ignores_nothing before after None ignored asked = asked.0
ignores_nothing before after (Some value) ignored asked = asked

module _ {K V X I P S : Type 0} (asks : I → V → Bool → I → Type 0) (kept : Kept K V S) (x : Expirations X) (bound : Option Instant) (says : P → K → V → Bool → Type 0) (predicates : List (Registered P)) (sought : Option (Record K V)) (now : ℕ) where
  -- a look-up: what the caller's test answered, and what was found
  abbrev FindsUnless : I → I → Option (Handle × Record K V) → Type 0
  FindsUnless before after found = (ignored : Bool) × IsAskedOnce asks (Some before) (value_of sought) ignored (Some after) × Finds kept x bound says predicates sought ignored now found

  -- where there is no record
  pub nothing_found : (test : I) → sought ≡ None → FindsUnless test test None
  nothing_found test none = (false, rw none (refl, refl), λ r at. let impossible : None ≡ Some r = sym none ∙ at in absurd (cc))

  module _ (r : Record K V) (found : sought ≡ Some r) (before after : I) (ignored : Bool) (asked : asks before r.value ignored after) where
    -- where it was ignored or is hidden
    pub found_hidden : (ignored ≡ true) ⊎ ((has_lapsed (expiring_by x) bound r now ≡ true) ⊎ SomeCovers says predicates r) → FindsUnless before after None
    found_hidden hidden = (ignored, rw found asked, λ q at. let same : r ≡ q = (let e : Some r ≡ Some q = sym found ∙ at in cc) in subst (λ z. (ignored ≡ true) ⊎ ((has_lapsed (expiring_by x) bound z now ≡ true) ⊎ SomeCovers says predicates z)) same hidden)

    -- where it is visible
    pub found_shown : (handle : Handle) → IsFound kept x bound says predicates sought ignored now handle r → FindsUnless before after (Some (handle, r))
    found_shown handle at = (ignored, rw found asked, at)
