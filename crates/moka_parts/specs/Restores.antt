-- Entries that are put back with the moments and the expiry that they had.
pub use Rattle.moka_types.specs.Restores.{restore_text, restore_error}
use Rattle.std.specs.Prelude.{◌≡◌, ℕ, Bool, true, false, ◌&&◌, ◌+◌, not, None, Result, Ok, Err, is_some}
use Rattle.moka_types.specs.declared.calls.Ticket.{Ticket}
use Rattle.moka_records.specs.declared.records.Operation.TheVariants.{Upsert}
use Rattle.moka_records.specs.declared.records.Record.{Record}
use Rattle.moka_parts.specs.Calls.{Weighs, are_numbers_used_up, handing_out}
use Rattle.moka_records.specs.Records.{record_of_key, with_record}
use Rattle.moka_parts.specs.State.{State}
use Rattle.moka_types.specs.declared.restores.Restored.{Restored}
use Rattle.moka_types.specs.declared.restores.RestoreError.{RestoreError}
use Rattle.moka_types.specs.declared.restores.RestoreError.TheVariants.{KeyPresent, NoExpiry, NumbersUsedUp, OutOfMemory}
use Rattle.moka_types.specs.declared.restores.RestoreRefused.{RestoreRefused}

-- the entry has an expiry of its own, and the cache has none set
abbrev pub is_unsupported : {K V X P W : Type 0} → State K V X P W → Restored K V → Bool
is_unsupported s item = is_some item.expires && not (is_some s.settings.expiry)

module _ {K V X P W : Type 0} where
  -- the record of an entry that is put back: its moments and its expiry are those that it had
  abbrev pub restored_record : State K V X P W → Restored K V → ℕ → ℕ → Record K V
  restored_record s item hash w = record {
    number = s.next_number;
    key = item.key;
    hash = hash;
    value = item.value;
    written = item.last_modified;
    read = item.last_accessed;
    expires = item.expires;
    weight = w;
    generation = 1;
    applied = 0;
  }

  -- the state with it, and its operation to be sent
  abbrev pub restored : State K V X P W → Restored K V → ℕ → ℕ → State K V X P W
  restored s item hash w = handing_out (record s {
    records = with_record s.records (restored_record s item hash w);
    next_number = s.next_number + 1;
  }) (Upsert s.next_number 1 w hash)

  module _ (weighs : W → K → V → ℕ → Type 0) (eq : K → K → Bool) (s : State K V X P W) (item : Restored K V) where
    -- why an entry is not put back: the first reason in this order
    abbrev pub HasRestoreError : RestoreError → Type 0
    HasRestoreError KeyPresent = is_some (record_of_key eq s.records item.key) ≡ true
    HasRestoreError NoExpiry = (record_of_key eq s.records item.key ≡ None) × (is_unsupported s item ≡ true)
    HasRestoreError NumbersUsedUp = (record_of_key eq s.records item.key ≡ None) × (is_unsupported s item ≡ false)
        × (are_numbers_used_up s 1 ≡ true)
    HasRestoreError OutOfMemory = (record_of_key eq s.records item.key ≡ None) × (is_unsupported s item ≡ false)
        × (are_numbers_used_up s 1 ≡ false)

    -- the entry is put back under the hash of its key, or comes back
    abbrev pub RestoreStep : ℕ → Result Ticket (RestoreRefused K V) → State K V X P W → Type 0
    RestoreStep hash (Ok ticket) t = (w : ℕ) × Weighs weighs s.settings.weigher item.key item.value w
        × (record_of_key eq s.records item.key ≡ None) × (is_unsupported s item ≡ false)
        × (are_numbers_used_up s 1 ≡ false) × (ticket.0 ≡ s.next_ticket) × (t ≡ restored s item hash w)
    RestoreStep hash (Err refused) t = (refused.item ≡ item) × HasRestoreError refused.error × (t ≡ s)
