-- Which records are visible at a moment.
use Rattle.std.specs.Prelude.{◌≡◌, ℕ, Bool, true, false, ◌||◌, ◌≤◌, List, [], ◌∷◌, Option, Some, None, ◌⊎◌, MatchBool}
use Rattle.uuid.specs.declared.Uuid.{Uuid}
use Rattle.moka_records.specs.declared.instant.Instant.{Instant}
use Rattle.moka_records.specs.declared.records.Record.{Record}
use Rattle.moka_parts.specs.declared.records.Registered.{Registered}
use Rattle.moka_records.specs.Time.{has_passed, is_before, deadline, moment_of}
use Rattle.moka_parts.specs.State.{Settings, State}

-- it has expired by its own expiry
abbrev pub is_expired : {K V : Type 0} → Record K V → ℕ → Bool
is_expired r now = has_passed (moment_of r.expires) now

module _ {K V X W : Type 0} where
  -- its time to live has passed
  abbrev pub is_past_live : Settings X W → Record K V → ℕ → Bool
  is_past_live settings r now = has_passed (deadline settings.time_to_live r.written.0) now

  -- its time to idle has passed
  abbrev pub is_past_idle : Settings X W → Record K V → ℕ → Bool
  is_past_idle settings r now = has_passed (deadline settings.time_to_idle r.read.0) now

-- it was written before the moment of the last invalidation of all
abbrev pub is_written_before : {K V : Type 0} → Option Instant → Record K V → Bool
is_written_before bound r = is_before r.written.0 (moment_of bound)

-- the same of its last read
abbrev pub is_read_before : {K V : Type 0} → Option Instant → Record K V → Bool
is_read_before bound r = is_before r.read.0 (moment_of bound)

-- one of the five tests by moments hides it
abbrev pub has_lapsed : {K V X W : Type 0} → Settings X W → Option Instant → Record K V → ℕ → Bool
has_lapsed settings bound r now = is_expired r now || is_past_live settings r now || is_past_idle settings r now
    || is_written_before bound r || is_read_before bound r

module _ {K V P : Type 0} (says : P → K → V → Bool → Type 0) where
  -- the predicate was registered no earlier than the record was written, and says yes to it
  abbrev pub Covers : Registered P → Record K V → Type 0
  Covers p r = (r.written.0 ≤ p.registered.0) × says p.predicate r.key r.value true

  -- one of the predicates covers the record
  abbrev pub SomeCovers : List (Registered P) → Record K V → Type 0
  SomeCovers [] r = ⊥
  SomeCovers (p ∷ ps) r = Covers p r ⊎ SomeCovers ps r

  -- none of the predicates covers the record
  abbrev pub NoneCovers : List (Registered P) → Record K V → Type 0
  NoneCovers [] r = Unit {0}
  NoneCovers (p ∷ ps) r = (Covers p r → ⊥) × NoneCovers ps r

  -- the first of the predicates that covers the record has the identifier
  abbrev pub FirstCovers : List (Registered P) → Record K V → Uuid → Type 0
  FirstCovers [] r id = ⊥
  FirstCovers (p ∷ ps) r id = (Covers p r × (id ≡ p.id)) ⊎ ((Covers p r → ⊥) × FirstCovers ps r id)

module _ {K V X P W : Type 0} (says : P → K → V → Bool → Type 0) where
  -- the record is visible: no test by moments hides it, and no predicate covers it
  abbrev pub IsVisible : State K V X P W → Record K V → ℕ → Type 0
  IsVisible s r now = (has_lapsed s.settings s.invalid_before r now ≡ false) × NoneCovers says s.predicates r

  -- the record is hidden
  abbrev pub IsHidden : State K V X P W → Record K V → ℕ → Type 0
  IsHidden s r now = (has_lapsed s.settings s.invalid_before r now ≡ true) ⊎ SomeCovers says s.predicates r

  -- whether the record, if there is one, is visible
  abbrev pub IsShown : State K V X P W → Option (Record K V) → ℕ → Bool → Type 0
  IsShown s None now shown = shown ≡ false
  IsShown s (Some r) now shown = MatchBool shown (IsVisible s r now) (IsHidden s r now)
