-- What a look-up sees, and what a call hands out that makes a value if none is seen.
use Rattle.std.specs.Prelude.{◌≡◌, ℕ, Bool, false, Option, Some, None, Result, Ok, Err, ◌⊎◌}
use Rattle.moka_records.specs.declared.records.Record.{Record}
use Rattle.moka_parts.specs.Calls.{ContainsStep}
use Rattle.moka_records.specs.Records.{record_of_key}
use Rattle.moka_parts.specs.State.{State}
use Rattle.moka_parts.specs.Visibility.{IsVisible}
use Rattle.moka_calls.specs.declared.error.GetWithRefused.{GetWithRefused}
use Rattle.moka_calls.specs.declared.error.GetWithRefused.TheVariants.{Lookup, Insert}

module _ {K V X P W : Type 0} (eq : K → K → Bool) (says : P → K → V → Bool → Type 0)
    (is_clone : V → V → Type 0) where
  -- the key is there and visible at the moment, and this is a clone of its value
  abbrev pub IsCloneOfVisible : State K V X P W → K → ℕ → V → Type 0
  IsCloneOfVisible s key now value =
      (r : Record K V) × (record_of_key eq s.records key ≡ Some r) × IsVisible says s r now × is_clone r.value value

  -- what a look-up of the key sees at the moment: a clone of the value that is visible, or nothing if none is
  abbrev pub Sees : State K V X P W → K → ℕ → Option V → Type 0
  Sees s key now (Some value) = IsCloneOfVisible s key now value
  Sees s key now None = ContainsStep says eq s key now false

  -- the key is not found at the moment, for which a value was made, and this is a clone of it
  abbrev pub IsCloneOfMade : State K V X P W → K → ℕ → (V → Type 0) → V → Type 0
  IsCloneOfMade s key now Answers value =
      ContainsStep says eq s key now false × ((made : V) × Answers made × is_clone made value)

  -- one of the two
  abbrev pub IsHandedOut : State K V X P W → K → ℕ → (V → Type 0) → V → Type 0
  IsHandedOut s key now Answers value = IsCloneOfVisible s key now value ⊎ IsCloneOfMade s key now Answers value

-- what comes back with a refusal: of a look-up the key, and nothing has changed; of an insert the key and a value that
-- was made
abbrev pub ComesBack : {K V X P W : Type 0} → State K V X P W → State K V X P W → K → (V → Type 0)
    → GetWithRefused K V → Type 0
ComesBack s t key Answers (Lookup k) = (k ≡ key) × (t ≡ s)
ComesBack s t key Answers (Insert refused) = (refused.key ≡ key) × Answers refused.value

-- what a call answers whose maker may decline, after one whose maker fails in place of declining
abbrev pub if_made : {A E : Type 0} → Result (Result A (Unit {0})) E → Result (Option A) E
if_made (Ok (Ok made)) = Ok (Some made)
if_made (Ok (Err declined)) = Ok None
if_made (Err refused) = Err refused

-- what a call answers whose maker may fail, if it does not
abbrev pub without_error : {A E F : Type 0} → Result A E → Result (Result A F) E
without_error (Ok made) = Ok (Ok made)
without_error (Err refused) = Err refused
