-- Prices that are found by the text of their name.
use Rattle.std.specs.Prelude.{◌≡◌, ℕ, Bool, String, not, false, List, [], Option, Some, None}
use Rattle.std.specs.FinMap.{get}
use Rattle.std.specs.String.{string_bytes, string_eq}
use Rattle.moka_engine.specs.parts.Record.{Record}
use Rattle.moka_engine.specs.Records.{record_of_key}
use Rattle.moka_engine.specs.State.{State}
use Rattle.moka_engine.specs.Visibility.{has_lapsed}

module _ {Z V X P W : Type 0} (s : State (String Z) V X P W) where
  -- a record whose name has this text has this price
  abbrev pub IsPriceOf : List ℕ → V → Type 0
  IsPriceOf name price = (n : ℕ) × (r : Record (String Z) V) × (get s.records n ≡ Some r) × (string_bytes r.key ≡ name)
      × (r.value ≡ price)

  -- a record is found unless a moment hides it
  abbrev pub IsSeen : ℕ → Option (Record (String Z) V) → Bool → Type 0
  IsSeen now None found = found ≡ false
  IsSeen now (Some r) found = found ≡ not (has_lapsed s.settings s.invalid_before r now)

  -- whether a text is found tells whether the record of its name is seen, if no predicates are registered
  abbrev pub IsFoundAt : List ℕ → ℕ → Bool → Type 0
  IsFoundAt name now found = s.predicates ≡ [] → (key : String Z) → string_bytes key ≡ name
      → IsSeen now (record_of_key string_eq s.records key) found
