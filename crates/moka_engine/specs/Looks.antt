-- What a look-up that is recorded answers, what it does, and which are never refused.
use Rattle.std.specs.Prelude.{◌≡◌, ℕ, Bool, List, Option, Some, None, Result, Ok, MatchBool}
use Rattle.moka_types.specs.declared.calls.Entry.{Entry}
use Rattle.moka_types.specs.declared.error.OutOfMemory.{OutOfMemory}
use Rattle.moka_records.specs.declared.records.Record.{Record}
use Rattle.moka_parts.specs.Calls.{GetsAt, Unchanged}
use Rattle.moka_parts.specs.Maintenance.{Terms, Course}
use Rattle.moka_parts.specs.Notices.{Notice}
use Rattle.moka_records.specs.Records.{Records}
use Rattle.moka_parts.specs.State.{State, Events, is_disabled}
use Rattle.moka_lookups.specs.Gets.{ClonesSucceed}
pub use Rattle.moka_lookups.specs.Gets.{value_of}

-- what a look-up that is recorded answers, and what it does, if the key has the record sought: in a disabled cache
-- nothing, and else what a get does whose test answered so
module _ {K V X P W : Type 0} (says : P → K → V → Bool → Type 0) (read : X → K → V → ℕ → Option ℕ → ℕ → Option ℕ)
    (sought : Records K V → Option (Record K V)) (hash : ℕ) (need_key ignored : Bool) (now : ℕ)
    (Runs : State K V X P W → Terms → Course → List (Notice K V) → State K V X P W → Type 0) (s : State K V X P W) where
  abbrev pub LooksUp : Result (Option (Entry K V)) OutOfMemory → Events K V → State K V X P W → Type 0
  LooksUp a e t = MatchBool (is_disabled s.capacity) ((a ≡ Ok None) × Unchanged s e t)
      (GetsAt says read Runs s (sought s.records) hash need_key ignored now a e t)

-- if the key looked up has a record, no clone of what is handed out of it is refused: of its value, and of its key if
-- that is asked for
abbrev pub CanHandOut : {K V : Type 0} → (K → Type 0) → (V → Type 0) → Bool → Option (Record K V) → Type 0
CanHandOut is_key_infallible is_infallible need_key sought =
    (r : Record _ _) → sought ≡ Some r → ClonesSucceed is_key_infallible is_infallible need_key r

-- the same of its value alone
abbrev pub CanHandOutValue : {K V : Type 0} → (V → Type 0) → Option (Record K V) → Type 0
CanHandOutValue is_infallible sought = (r : Record _ _) → sought ≡ Some r → is_infallible r.value
