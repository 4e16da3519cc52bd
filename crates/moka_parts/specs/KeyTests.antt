-- Look-ups by a test of the key in place of a key.
pub use Rattle.moka_records.specs.KeyTests.{record_by}
use Rattle.std.specs.Prelude.{◌≡◌, ℕ, Bool, false, List, Option, None, Result, Ok, MatchBool}
use Rattle.moka_types.specs.declared.calls.Entry.{Entry}
use Rattle.moka_types.specs.declared.calls.KvEntry.{KvEntry}
use Rattle.moka_types.specs.declared.calls.Ticket.{Ticket}
use Rattle.moka_types.specs.declared.error.OutOfMemory.{OutOfMemory}
use Rattle.moka_parts.specs.Calls.{GetsAt, RemovesAt, Unchanged}
use Rattle.moka_parts.specs.Maintenance.{Terms, Course}
use Rattle.moka_parts.specs.Notices.{Notice}
use Rattle.moka_parts.specs.State.{State, Events, is_disabled}
use Rattle.moka_parts.specs.Visibility.{IsShown}

module _ {K V X P W : Type 0} (says : P → K → V → Bool → Type 0) (passes : K → Bool) (s : State K V X P W) where
  -- a get that records
  abbrev pub GetByStep : (X → K → V → ℕ → Option ℕ → ℕ → Option ℕ) →
      (State K V X P W → Terms → Course → List (Notice K V) → State K V X P W → Type 0) → ℕ → Bool → ℕ →
      Result (Option (Entry K V)) OutOfMemory → Events K V → State K V X P W → Type 0
  GetByStep read Runs hash need_key now a e t =
      MatchBool (is_disabled s.capacity) ((a ≡ Ok None) × Unchanged s e t)
      (GetsAt says read Runs s (record_by passes s.records) hash need_key false now a e t)

  -- whether the key is there and visible
  abbrev pub ContainsByStep : ℕ → Bool → Type 0
  ContainsByStep now shown = IsShown says s (record_by passes s.records) now shown

-- a removal
abbrev pub RemoveByStep : {K V X P W : Type 0} → (K → Bool) → State K V X P W → Option (KvEntry K V × Ticket) →
    State K V X P W → Type 0
RemoveByStep passes s a t = RemovesAt s (record_by passes s.records) a t
