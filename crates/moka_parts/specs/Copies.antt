-- What callers are handed: clones of what the reference cache answers, as the type of what is cloned says what a clone
-- is.
use Rattle.std.specs.Prelude.{◌≡◌, ◌⊎◌, List, [], Option, Some, None, Result, Ok, Err}
use Rattle.moka_types.specs.declared.calls.Entry.{Entry}
use Rattle.moka_types.specs.declared.calls.KvEntry.{KvEntry}
use Rattle.moka_types.specs.declared.error.OutOfMemory.{OutOfMemory}
use Rattle.moka_records.specs.declared.instant.Instant.{Instant}
use Rattle.moka_parts.specs.Calls.{NotifyStep}
use Rattle.moka_parts.specs.Notices.{Notice}
use Rattle.moka_parts.specs.State.{Settings}

module _ {A : Type 0} (is_clone : A → A → Type 0) where
  -- a clone equals what was cloned
  abbrev pub ClonesAreEqual : Type 0
  ClonesAreEqual = (x y : A) → is_clone x y → y ≡ x

  -- nothing, or a clone of what is there
  abbrev pub IsCopy : Option A → Option A → Type 0
  IsCopy None b = b ≡ None
  IsCopy (Some x) (Some y) = is_clone x y
  IsCopy (Some x) None = ⊥

  -- the same refusal, or a clone of what is answered
  abbrev pub IsCopiedAnswer : Result (Option A) OutOfMemory → Result (Option A) OutOfMemory → Type 0
  IsCopiedAnswer (Err e) b = b ≡ Err e
  IsCopiedAnswer (Ok a) (Ok b) = IsCopy a b
  IsCopiedAnswer (Ok a) (Err e) = ⊥

  -- the step gives an answer of which this is handed out
  abbrev pub HandsOut : (Result (Option A) OutOfMemory → Type 0) → Result (Option A) OutOfMemory → Type 0
  HandsOut Step b = (a : Result (Option A) OutOfMemory) × Step a × IsCopiedAnswer a b

module _ {K V : Type 0} (is_key_clone : K → K → Type 0) (is_value_clone : V → V → Type 0) where
  -- clones of an entry's key, if it has one, and of its value
  pub record IsEntryCopy (e f : Entry K V) : Type 0 where
    pub key : IsCopy is_key_clone e.key f.key
    pub value : is_value_clone e.value f.value

  -- clones of both, with the same moments
  pub record IsKvEntryCopy (e f : KvEntry K V) : Type 0 where
    pub key : is_key_clone e.key f.key
    pub value : is_value_clone e.value f.value
    pub last_modified : f.last_modified ≡ e.last_modified
    pub last_accessed : f.last_accessed ≡ e.last_accessed

  -- the listener, if one is set, is notified of such clones
  abbrev pub NotifiesOfCopy : {X W : Type 0} → Settings X W → KvEntry K V → Instant → Result (Unit {0}) OutOfMemory →
      List (Notice K V) → Type 0
  NotifiesOfCopy settings entry now a notices = (copy : KvEntry K V) × NotifyStep settings copy now a notices
      × ((notices ≡ []) ⊎ IsKvEntryCopy entry copy)
