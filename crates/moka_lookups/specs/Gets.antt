-- What a look-up finds, when it may be refused memory, and what a hit makes of a record.
use Rattle.std.specs.Prelude.{◌≡◌, ℕ, Bool, true, false, List, Option, Some, None, option_map, if◌then◌else◌, ◌⊎◌}
use Rattle.std.specs.FinMap.{get}
use Rattle.moka_types.specs.declared.calls.Entry.{Entry}
use Rattle.moka_records.specs.declared.instant.Instant.{Instant}
use Rattle.moka_records.specs.declared.records.Record.{Record}
use Rattle.moka_parts.specs.declared.records.Registered.{Registered}
use Rattle.moka_parts.specs.Expiry.{is_renewal, renewed, moment_of_hit, answer_to_hit}
use Rattle.moka_types.specs.Policy.{Expirations}
use Rattle.moka_parts.specs.Visibility.{has_lapsed, SomeCovers, NoneCovers}
use Rattle.moka_store.specs.declared.store.Handle.{Handle}
use Rattle.moka_store.specs.Store.{Kept, IsHandle}
use Rattle.moka_lookups.specs.declared.gets.Look.{Look}
use Rattle.moka_lookups.specs.declared.gets.Look.TheVariants.{Missed, Refused, Found}
use Rattle.moka_lookups.specs.Expirations.{expiring_by}

-- the value of a record, if there is one
abbrev pub value_of : {K V : Type 0} → Option (Record K V) → Option V
value_of found = option_map (λ r. r.value) found

module _ {K V X P S : Type 0} (kept : Kept K V S) (expirations : Expirations X) (bound : Option Instant)
    (says : P → K → V → Bool → Type 0) (predicates : List (Registered P)) (sought : Option (Record K V)) where
  -- this record, at this handle, is the one sought; no test of the caller's ignored it, no moment hides it, and no
  -- predicate covers it
  pub record IsFound (ignored : Bool) (now : ℕ) (handle : Handle) (r : Record K V) : Type 0 where
    pub placed : IsHandle kept handle
    pub numbered : get kept.records handle.number ≡ Some r
    pub found : sought ≡ Some r
    pub accepted : ignored ≡ false
    pub shown : has_lapsed (expiring_by expirations) bound r now ≡ false
    pub uncovered : NoneCovers says predicates r

  -- if nothing is found, the record sought, if there is one, was ignored or is hidden
  abbrev pub Finds : Bool → ℕ → Option (Handle × Record K V) → Type 0
  Finds ignored now None = (r : Record K V) → sought ≡ Some r → (ignored ≡ true)
      ⊎ ((has_lapsed (expiring_by expirations) bound r now ≡ true) ⊎ SomeCovers says predicates r)
  Finds ignored now (Some found) = IsFound ignored now found.0 found.1

  -- this is handed out of the record that is found, at its handle; memory for it is refused only if a clone of it may
  -- fail
  abbrev pub HandsFound : {A : Type 0} → (Record K V → A → Type 0) → (Record K V → Type 0) → Bool → ℕ → Look A → Type 0
  HandsFound Of Succeeds ignored now Missed = Finds ignored now None
  HandsFound Of Succeeds ignored now Refused =
      (handle : Handle) × (r : Record K V) × IsFound ignored now handle r × ¬ (Succeeds r)
  HandsFound Of Succeeds ignored now (Found handle a) = (r : Record K V) × IsFound ignored now handle r × Of r a

-- no clone of the record's value is refused, and none of its key if that is asked for
abbrev pub ClonesSucceed : {K V : Type 0} → (K → Type 0) → (V → Type 0) → Bool → Record K V → Type 0
ClonesSucceed is_key_infallible is_infallible need_key r =
    is_infallible r.value × (need_key ≡ true → is_key_infallible r.key)

-- the entry that a get answers: the record's value, and its key if that is asked for
abbrev pub entry_at : {K V : Type 0} → Bool → Record K V → Entry K V
entry_at need_key r = record { key = if need_key then Some r.key else None; value = r.value }

-- a hit reads the record at this moment and leaves it this expiry, which is a renewal or not
pub record Touches {K V X : Type 0} (read : X → K → V → ℕ → Option ℕ → ℕ → Option ℕ) (x : Expirations X)
    (r : Record K V) (now at : ℕ) (expires : Option Instant) (is_renewed : Bool) : Type 0 where
  pub moment : at ≡ moment_of_hit x.expiry r now
  pub expiry : expires ≡ renewed (expiring_by x) r at (answer_to_hit read (expiring_by x) x.expiry r at)
  pub renewal : is_renewed ≡ is_renewal (expiring_by x) r at (answer_to_hit read (expiring_by x) x.expiry r at)
