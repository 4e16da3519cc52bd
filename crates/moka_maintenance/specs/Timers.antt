-- What maintenance makes of the timers of a store.
use Rattle.std.specs.Prelude.{◌≡◌, ℕ, true, ◌<◌, ◌⊎◌, Some, None}
use Rattle.std.specs.FinMap.{get}
use Rattle.moka_records.specs.declared.records.Record.{Record}
use Rattle.moka_records.specs.Time.{moment_of}
use Rattle.moka_records.specs.Records.{is_applied, is_member}
use Rattle.moka_store.specs.Store.{Kept}

module _ {K V : Type 0} where
  -- the timer of each settled member stands at its record's expiry
  abbrev pub AreTimed : {S : Type 0} → Kept K V S → Type 0
  AreTimed k = (n : ℕ) (r : Record K V) → get k.records n ≡ Some r → is_member n k.access ≡ true → is_applied r ≡ true
      → get k.timers n ≡ moment_of r.expires

  -- no settled member expires without a timer: if timers are kept they stand at the records' expiries, and if they
  -- are not, no record has an expiry
  abbrev pub AreOnTime : {S : Type 0} → Kept K V S → Type 0
  AreOnTime k = ((k.timed ≡ true) × AreTimed k) ⊎ ((n : ℕ) (r : Record K V) → get k.records n ≡ Some r
      → r.expires ≡ None)

  -- if timers are kept, the timer of the number, if it is a member with a record, stands at the record's expiry
  abbrev pub StandsAtExpiry : {S : Type 0} → ℕ → Kept K V S → Type 0
  StandsAtExpiry n k = k.timed ≡ true → (r : Record K V) → get k.records n ≡ Some r → is_member n k.access ≡ true
      → get k.timers n ≡ moment_of r.expires

  -- no timer stands at or before the moment
  abbrev pub HasNoneDue : {S : Type 0} → ℕ → Kept K V S → Type 0
  HasNoneDue now k = (n t : ℕ) → get k.timers n ≡ Some t → now < t

  -- a settled member had this record and this timer before, or its timer stands at its record's expiry
  abbrev pub SetsTimers : {S : Type 0} → Kept K V S → Kept K V S → Type 0
  SetsTimers old new = (n : ℕ) (r : Record K V) → get new.records n ≡ Some r → is_member n new.access ≡ true
      → is_applied r ≡ true
      → ((get old.records n ≡ Some r) × (is_member n old.access ≡ true) × (get new.timers n ≡ get old.timers n))
      ⊎ (get new.timers n ≡ moment_of r.expires)

  -- what orders and timers a store keeps never changes, nor does its hasher; if timers are kept they stand as
  -- before, or anew at their records' expiries
  pub record KeepsTimers {S : Type 0} (old new : Kept K V S) : Type 0 where
    pub ordered : new.ordered ≡ old.ordered
    pub timed : new.timed ≡ old.timed
    pub hasher : new.hasher ≡ old.hasher
    pub set : old.timed ≡ true → SetsTimers old new

  -- members move in the access list alone; timers stand as before or anew at their records' expiries, there for each
  -- number that was renewed
  pub record Serves {S : Type 0} (IsRenewed : ℕ → Type 0) (old new : Kept K V S) : Type 0 where
    pub rest : new ≡ record old { access = new.access; timers = new.timers }
    pub renewed : (n : ℕ) → IsRenewed n → StandsAtExpiry n new
    pub kept : (n : ℕ) → StandsAtExpiry n old → StandsAtExpiry n new
    pub timers : KeepsTimers old new
