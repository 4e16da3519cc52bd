-- What a look-up of a key meets at a moment, and why.
use Rattle.std.specs.Prelude.{◌≡◌, ℕ, Bool, ◌||◌, Option, Some, None, if◌then◌else◌}
use Rattle.moka_records.specs.declared.instant.Instant.{Instant}
use Rattle.moka_records.specs.declared.records.Record.{Record}
use Rattle.moka_parts.specs.State.{State, Settings}
use Rattle.moka_parts.specs.Visibility.{is_expired, is_past_live, is_past_idle, is_written_before, is_read_before, NoneCovers, FirstCovers}
use Rattle.moka_lookups.specs.declared.sights.Sight.{Sight}
use Rattle.moka_lookups.specs.declared.sights.Sight.TheVariants.{Absent, Expired, PastTimeToLive, PastTimeToIdle, Invalidated, Covered, Visible}

-- the first test by moments that hides the record
abbrev pub lapse_of : {K V X W : Type 0} → Settings X W → Option Instant → Record K V → ℕ → Option Sight
lapse_of settings bound r now =
    if is_expired r now then Some Expired
    else if is_past_live settings r now then Some PastTimeToLive
    else if is_past_idle settings r now then Some PastTimeToIdle
    else if (is_written_before bound r || is_read_before bound r) then Some Invalidated
    else None

module _ {K V X P W : Type 0} (says : P → K → V → Bool → Type 0) (s : State K V X P W) (now : ℕ) where
  -- a record with this lapse is met so
  abbrev pub IsSightOf : Record K V → Option Sight → Sight → Type 0
  IsSightOf r (Some lapse) sight = sight ≡ lapse
  IsSightOf r None (Covered id) = FirstCovers says s.predicates r id
  IsSightOf r None Visible = NoneCovers says s.predicates r
  IsSightOf r None sight = ⊥

  -- a look-up of a key with this record meets it so
  abbrev pub IsSight : Option (Record K V) → Sight → Type 0
  IsSight None sight = sight ≡ Absent
  IsSight (Some r) sight = IsSightOf r (lapse_of s.settings s.invalid_before r now) sight
