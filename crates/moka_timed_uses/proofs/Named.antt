-- What a look-up by the text of a name finds.
use Rattle.std.proofs.Common.{◌≡◌, ℕ, Bool, true, false, not, List, [], Option, Some, None, inl, inr, ap, sym, subst}
use Rattle.std.specs.Prelude.{IfSome, String, find}
use Rattle.std.specs.Cmp.Lexicographic.{bytes_decides}
use Rattle.std.specs.FinMap.{values}
use Rattle.std.specs.Str.{bytes_eq}
use Rattle.std.specs.String.{string_bytes}
use Rattle.moka_engine.specs.parts.Record.{Record}
use Rattle.moka_engine.specs.KeyTests.{record_by}
use Rattle.moka_engine.specs.State.{State}
use Rattle.moka_engine.specs.Visibility.{IsShown}
use Rattle.moka_engine.proofs.Lookup.{record_of_key_found}
use Rattle.moka_timed_uses.specs.Borrowed.{IsPriceOf, IsSeen, IsFoundAt}

-- names that have this text pass
abbrev pub has_text : {Z : Type 0} → List ℕ → String Z → Bool
has_text name key = bytes_eq name (string_bytes key)

module _ {Z V X P W : Type 0} (s : State (String Z) V X P W) (name : List ℕ) where
  -- the price is that of a record with the name
  pub named : (found : Option V) → IfSome found (λ v. (r : Record (String Z) V) × (record_by (has_text name) s.records ≡ Some r) × (v ≡ r.value)) → IfSome found (IsPriceOf s name)
  named None h = tt
  named (Some v) (r, found, same) = (let at = record_of_key_found (λ (_ k : String Z). has_text name k) s.records r.key r found in (at.0, r, at.1, sym ((bytes_decides name (string_bytes r.key)).0 at.2), sym same))

  seen : (says : P → String Z → V → Bool → Type 0) (now : ℕ) (o : Option (Record (String Z) V)) (found : Bool) → s.predicates ≡ [] → IsShown says s o now found → IsSeen s now o found
  seen says now None found none h = h
  seen says now (Some r) true none h = ap not (sym h.0)
  seen says now (Some r) false none h = elim h [ inl lapsed ↦ ap not (sym lapsed) | inr covered ↦ absurd (rw none at covered) ]

  -- it is found where it is seen
  pub found_at : (says : P → String Z → V → Bool → Type 0) (now : ℕ) (found : Bool) → IsShown says s (record_by (has_text name) s.records) now found → IsFoundAt s name now found
  found_at says now found shown none key same =
      seen says now _ found none (subst (λ (bytes : List ℕ). IsShown says s (find (λ (r : Record (String Z) V). bytes_eq bytes (string_bytes r.key)) (values s.records)) now found) (sym same) shown)
