-- Records whose present operation was not sent yet, and what an insert leaves of its key.
use Rattle.std.specs.Prelude.{◌≡◌, ℕ, Bool, ◌<◌, false, List, [], Some, None}
use Rattle.std.specs.FinMap.{get}
use Rattle.std.specs.List.{AllByRecursion}
use Rattle.moka_records.specs.declared.instant.Instant.{Instant}
use Rattle.moka_records.specs.declared.records.Record.{Record}
use Rattle.moka_records.specs.declared.records.Operation.{Operation}
use Rattle.moka_records.specs.declared.records.Operation.TheVariants.{Upsert, Removal}
use Rattle.moka_records.specs.declared.records.Ticketed.{Ticketed}
use Rattle.moka_records.specs.Records.{Records, record_of_key}
use Rattle.moka_parts.specs.State.{State}
use Rattle.moka_records.specs.Time.{has_passed, is_before, deadline, moment_of}

module _ {K V : Type 0} (n : ℕ) (r : Record K V) where
  -- the record is there but for the applied generation, which is older than the record
  pub record IsHeld (records : Records K V) : Type 0 where
    pub applied : ℕ
    pub there : get records n ≡ Some (record r { applied = applied })
    pub below : applied < r.generation

  -- the operation, if it is the record's, is older than the record
  abbrev pub IsOlder : Operation → Type 0
  IsOlder (Upsert k g w hash) = k ≡ n → g < r.generation
  IsOlder (Removal k g) = Unit {0}

  -- the same of each
  abbrev pub AreOlder : List Ticketed → Type 0
  AreOlder hs = AllByRecursion (λ (h : Ticketed). IsOlder h.operation) hs

-- a record that is held, and of which only older operations are queued, is held afterwards
abbrev pub HoldsUnsent : {K V X P W : Type 0} → State K V X P W → State K V X P W → Type 0
HoldsUnsent {K} {V} s t = (n : ℕ) (r : Record K V) → AreOlder n r s.writes → IsHeld n r s.records → IsHeld n r t.records

-- nothing that hides records has come
pub record HidesNoMore {K V X P W : Type 0} (s t : State K V X P W) : Type 0 where
  pub settings : t.settings ≡ s.settings
  pub bound : t.invalid_before ≡ s.invalid_before
  pub predicates : s.predicates ≡ [] → t.predicates ≡ []

-- nothing hides what is written at the moment: no expiry is set, no time is over at once, no invalidation of all is
-- later, and no predicate is registered
pub record ShowsWrites {K V X P W : Type 0} (s : State K V X P W) (now : ℕ) : Type 0 where
  pub unexpiring : s.settings.expiry ≡ None
  pub live : has_passed (deadline s.settings.time_to_live now) now ≡ false
  pub idle : has_passed (deadline s.settings.time_to_idle now) now ≡ false
  pub valid : is_before now (moment_of s.invalid_before) ≡ false
  pub unhidden : s.predicates ≡ []

-- the key has a record with the value, written and read at the moment
pub record IsThere {K V X P W : Type 0} (eq : K → K → Bool) (s : State K V X P W) (key : K) (value : V)
    (now : Instant) : Type 0 where
  pub kept : Record K V
  pub found : record_of_key eq s.records key ≡ Some kept
  pub value_is : kept.value ≡ value
  pub written_is : kept.written ≡ now
  pub read_is : kept.read ≡ now
