-- What a scan of the predicates has found.
use Rattle.std.specs.Prelude.{◌≡◌, ℕ, Bool, true, List, Some}
use Rattle.std.specs.FinMap.{get}
use Rattle.moka_records.specs.declared.records.Record.{Record}
use Rattle.moka_parts.specs.declared.records.Registered.{Registered}
use Rattle.moka_records.specs.Records.{Records, is_applied, is_listed}
use Rattle.moka_parts.specs.Visibility.{NoneCovers}

-- no settled record of these numbers is covered by one of the predicates
pub record AreUncovered {K V P : Type 0} (says : P → K → V → Bool → Type 0) (ps : List (Registered P))
    (records : Records K V) (numbers : List ℕ) : Type 0 where
  pub settled : (n : ℕ) (r : Record K V) → is_listed n numbers ≡ true → get records n ≡ Some r → is_applied r ≡ true →
      NoneCovers says ps r
