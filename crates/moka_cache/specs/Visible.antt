-- The entries that are visible at a moment, each once.
use Rattle.std.specs.Prelude.{◌≡◌, ℕ, Bool, true, List, [], ◌∷◌, map, Some, None, Ok, ◌⊎◌, IsPermutation}
use Rattle.std.specs.List.{AllZip}
use Rattle.std.specs.FinMap.{values}
use Rattle.moka_records.specs.declared.records.Record.{Record}
use Rattle.moka_parts.specs.Calls.{ScanStep}
use Rattle.moka_parts.specs.State.{State}
use Rattle.moka_parts.specs.Visibility.{IsVisible, IsHidden}

-- the clone of a key is the same key to the cache
abbrev pub ClonesAreSameKeys : {K : Type 0} → (K → K → Bool) → (K → K → Type 0) → Type 0
ClonesAreSameKeys {K} eq is_key_clone = (key clone : K) → is_key_clone key clone → eq key clone ≡ true

module _ {K V X P W : Type 0} (says : P → K → V → Bool → Type 0) (is_value_clone : V → V → Type 0)
    (s : State K V X P W) (now : ℕ) where
  module _ (is_key_clone : K → K → Type 0) where
    -- of these records the visible ones, in their order: clones of key and value
    abbrev pub AreShown : List (Record K V) → List (K × V) → Type 0
    AreShown [] found = found ≡ []
    AreShown (r ∷ rs) found = (IsHidden says s r now × AreShown rs found)
        ⊎ ((key : K) × (copy : V) × (rest : List (K × V)) × IsVisible says s r now × is_key_clone r.key key
        × is_value_clone r.value copy × (found ≡ (key, copy) ∷ rest) × AreShown rs rest)

    -- exactly the visible entries, each once, in no particular order
    abbrev pub ListsVisible : List (K × V) → Type 0
    ListsVisible found = (rs : List (Record K V)) × IsPermutation (values s.records) rs × AreShown rs found

  module _ (eq : K → K → Bool) where
    -- each of these keys is looked up, in their order: what is visible, with a clone of its value
    abbrev pub LooksUp : List K → List (K × V) → Type 0
    LooksUp [] found = found ≡ []
    LooksUp (key ∷ keys) found = (ScanStep says eq s key now (Ok None) × LooksUp keys found)
        ⊎ ((own : V) × (copy : V) × (rest : List (K × V)) × ScanStep says eq s key now (Ok (Some own))
        × is_value_clone own copy
        × (found ≡ (key, copy) ∷ rest) × LooksUp keys rest)

    -- clones of the keys of all records, each looked up
    abbrev pub LooksUpClones : (K → K → Type 0) → List (K × V) → Type 0
    LooksUpClones is_key_clone found = (own : List K) × (copies : List K)
        × IsPermutation (map (λ (r : Record K V). r.key) (values s.records)) own
        × AllZip is_key_clone own copies × LooksUp copies found
