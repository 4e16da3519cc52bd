-- The number of a record that was found, and may have left the map since.
use Rattle.std.specs.Prelude.{◌≡◌, ℕ, Bool, ◌<◌, List, Some}
use Rattle.std.specs.FinMap.{get}
use Rattle.moka_records.specs.declared.records.Operation.TheVariants.{Removal}
use Rattle.moka_records.specs.declared.records.Record.{Record}
use Rattle.moka_records.specs.declared.records.Ticketed.{Ticketed}
use Rattle.moka_records.specs.Records.{Records, Operations, record_of_key}
use Rattle.moka_parts.specs.Settling.{IsWaitingIn}

-- the number is that of the key's record, which a caller's removal did not take out
pub record IsReadNumber {K V : Type 0} (eq : K → K → Bool) (records : Records K V) (outstanding : Operations)
    (writes : List Ticketed) (next_number : ℕ) (key : K) (number : ℕ) : Type 0 where
  pub given : number < next_number
  -- its record is the key's, or neither is there
  pub own : get records number ≡ record_of_key eq records key
  -- the key's record stands at no other number
  pub alone : (n : ℕ) (r : Record K V) → get records n ≡ Some r → record_of_key eq records key ≡ Some r → n ≡ number
  -- no removal of it waits
  pub stays : (generation : ℕ) → IsWaitingIn outstanding writes (Removal number generation) → ⊥
