-- What a predicate of a caller's hides.
use Rattle.std.specs.Prelude.{◌≡◌, ℕ, Bool, false, ◌==◌, ◌<◌, ◌≤◌, Some, nat_lt}
use Rattle.moka_engine.specs.parts.Uuid.{Uuid}
use Rattle.moka_engine.specs.parts.Record.{Record}
use Rattle.moka_engine.specs.Calls.{ContainsStep}
use Rattle.moka_engine.specs.Records.{record_of_key}
use Rattle.moka_engine.specs.State.{Meaning, State}
use Rattle.moka_uses.specs.Made.{simple_meaning}
use Rattle.moka_uses.specs.declared.invalidated.Below.{Below}

-- what the parts of the cache mean: predicates say yes to the values below their bound, and nothing else is chosen
abbrev pub meaning : {X L W I : Type 0} → (I → Uuid → I → Type 0) → Meaning ℕ ℕ X L Below W (Unit {0}) I
meaning gives =
    simple_meaning (λ a b. a == b) (λ below _ value answer. answer ≡ nat_lt value below.0) (λ _ _ _. ⊥) gives

-- the same if no identifier is asked for
abbrev pub run_meaning : {X L W : Type 0} → Meaning ℕ ℕ X L Below W (Unit {0}) (Unit {0})
run_meaning = meaning (λ _ _ _. ⊥)

module _ {X W : Type 0} (s : State ℕ ℕ X Below W) (key : ℕ) where
  -- the key's value lies below the bound, and was written at that moment or before
  abbrev pub IsBelow : ℕ → ℕ → Type 0
  IsBelow bound now = (r : Record ℕ ℕ) × (record_of_key (λ a b. a == b) s.records key ≡ Some r) × (r.value < bound)
      × (r.written.0 ≤ now)

  -- whether the key is there is answered with no, at whatever moment
  abbrev pub IsNeverShown : Type 0
  IsNeverShown = (later : ℕ) (shown : Bool) → ContainsStep (λ below _ value answer. answer ≡ nat_lt value below.0)
      (λ a b. a == b) s key later shown → shown ≡ false

  -- the key is hidden at the moment
  abbrev pub IsHiddenAt : ℕ → Type 0
  IsHiddenAt now = ContainsStep (λ below _ value answer. answer ≡ nat_lt value below.0) (λ a b. a == b) s key now false

  -- whether the key is there is answered with no at the moment and later
  abbrev pub IsHiddenFrom : ℕ → Type 0
  IsHiddenFrom now = (later : ℕ) (shown : Bool) → now ≤ later
      → ContainsStep (λ below _ value answer. answer ≡ nat_lt value below.0) (λ a b. a == b) s key later shown
      → shown ≡ false
