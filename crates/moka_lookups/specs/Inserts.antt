-- What an insert is to make of a key, and when its entry expires then.
use Rattle.std.specs.Prelude.{◌≡◌, ℕ, Bool, Option, Some, None}
use Rattle.std.specs.FinMap.{get}
use Rattle.moka_records.specs.declared.instant.Instant.{Instant}
use Rattle.moka_records.specs.declared.records.Record.{Record}
use Rattle.moka_parts.specs.Causes.{cause_of_replacement}
use Rattle.moka_parts.specs.Expiry.{expires_at_first, expires_updated}
use Rattle.moka_types.specs.Policy.{Expirations}
use Rattle.moka_records.specs.Records.{record_of_key}
use Rattle.moka_store.specs.Store.{Kept, IsHandle}
use Rattle.moka_lookups.specs.declared.inserts.Plan.{Plan}
use Rattle.moka_lookups.specs.declared.inserts.Plan.TheVariants.{New, Update}
use Rattle.moka_lookups.specs.Expirations.{expiring_by}

module _ {K V X S : Type 0} (created : X → K → V → ℕ → Option ℕ)
    (updated : X → K → V → ℕ → Option ℕ → Option ℕ) (eq : K → K → Bool) (kept : Kept K V S)
    (expirations : Expirations X) (bound : Option Instant) (key : K) (value : V) (now : ℕ) where
  -- the key's record is there or not, and what the expiry answers of the value is noted
  abbrev pub Plans : Plan → Type 0
  Plans (New expires) = (record_of_key eq kept.records key ≡ None)
      × (expires ≡ expires_at_first created expirations.expiry key value now)
  Plans (Update handle cause expires) = (r : Record K V) × IsHandle kept handle
      × (get kept.records handle.number ≡ Some r) × (record_of_key eq kept.records key ≡ Some r)
      × (expires ≡ expires_updated created updated (expiring_by expirations) expirations.expiry key value
      (record r { written = record { 0 = now }; read = record { 0 = now } }) now)
      × (cause ≡ cause_of_replacement (expiring_by expirations) bound r now)
