-- The registry of predicates: which identifiers are taken, and what a registration does.
use Rattle.std.specs.Prelude.{◌≡◌, ℕ, ◌≤◌, List, [], ◌∷◌, ◌++◌, length, Option, Some, None, Result, Ok, Err, Contains}
use Rattle.std.specs.List.{AllByRecursion}
use Rattle.uuid.specs.declared.Uuid.{Uuid}
use Rattle.moka_records.specs.declared.instant.Instant.{Instant}
use Rattle.moka_parts.specs.declared.records.Registered.{Registered}
use Rattle.moka_types.specs.declared.error.PredicateError.{PredicateError}
use Rattle.moka_types.specs.declared.error.PredicateError.TheVariants.{InvalidationClosuresDisabled, NoFreeId, OutOfMemory}
use Rattle.moka_types.specs.declared.error.PredicateRefused.{PredicateRefused}
use Rattle.moka_parts.specs.Surroundings.{Leads}

-- so many identifiers are asked for at most
abbrev pub most_ids : ℕ
most_ids = 1000

module _ {P : Type 0} where
  -- an identifier that a registered predicate has
  abbrev pub IsTaken : List (Registered P) → Uuid → Type 0
  IsTaken ps id = (p : Registered P) × Contains ps p × (p.id ≡ id)

  -- all identifiers asked for but the last were taken, and the last is free
  abbrev pub FirstFree : List (Registered P) → List Uuid → Uuid → Type 0
  FirstFree ps [] id = ⊥
  FirstFree ps (asked ∷ []) id = (asked ≡ id) × (IsTaken ps id → ⊥)
  FirstFree ps (asked ∷ next ∷ ids) id = IsTaken ps asked × FirstFree ps (next ∷ ids) id

  -- the first free identifier, or none if as many as may be asked for were all taken
  abbrev pub FindsFree : List (Registered P) → List Uuid → Option Uuid → Type 0
  FindsFree ps ids (Some id) = (length ids ≤ most_ids) × FirstFree ps ids id
  FindsFree ps ids None = (length ids ≡ most_ids) × AllByRecursion (IsTaken ps) ids

  -- why a registration is refused, and the identifiers that were asked for
  abbrev pub RegistrationRefusal : List (Registered P) → PredicateError → List Uuid → Type 0
  RegistrationRefusal ps InvalidationClosuresDisabled ids = ⊥
  RegistrationRefusal ps OutOfMemory ids = ids ≡ []
  RegistrationRefusal ps NoFreeId ids = FindsFree ps ids None

  -- a registration under the first free identifier; a refused predicate comes back, and nothing changes
  abbrev pub RegistrationStep : List (Registered P) → P → Instant → Result Uuid (PredicateRefused P) → List Uuid →
      List (Registered P) → Type 0
  RegistrationStep ps predicate now (Ok id) ids qs = FindsFree ps ids (Some id)
      × (qs ≡ ps ++ record { id = id; predicate = predicate; registered = now } ∷ [])
  RegistrationStep ps predicate now (Err refused) ids qs = (refused.predicate ≡ predicate)
      × RegistrationRefusal ps refused.error ids × (qs ≡ ps)

module _ {P I : Type 0} (gives : I → Uuid → I → Type 0) where
  -- the source gives identifiers until a free one is found or no more may be asked for
  abbrev pub AsksForFree : List (Registered P) → I → Option Uuid → I → Type 0
  AsksForFree ps source id after = (ids : List Uuid) × Leads gives source ids after × FindsFree ps ids id

  -- a registration with the identifiers that the source gives
  abbrev pub Registers : List (Registered P) → P → Instant → I → Result Uuid (PredicateRefused P) →
      List (Registered P) → I → Type 0
  Registers ps predicate now source a qs after = (ids : List Uuid) × Leads gives source ids after
      × RegistrationStep ps predicate now a ids qs
