-- One relation per call: what it may answer, tell and ask for, and the state that it leaves.
use Rattle.std.specs.Prelude.{◌≡◌, ℕ, Bool, true, false, ◌==◌, ◌||◌, ◌+◌, ◌<◌, ◌≤◌, ◌^◌, nat_lt, nat_le, List, [], ◌∷◌, ◌++◌, length, map, Option, Some, None, Result, Ok, Err, ◌⊎◌, MatchBool, IsPermutation, slice_get, if◌then◌else◌}
use Rattle.std.specs.FinMap as finite
use Rattle.uuid.specs.declared.Uuid.{Uuid}
use Rattle.moka_records.specs.declared.instant.Instant.{Instant}
use Rattle.moka_records.specs.declared.records.Record.{Record}
use Rattle.moka_records.specs.declared.records.Operation.{Operation}
use Rattle.moka_records.specs.declared.records.Operation.TheVariants.{Upsert, Removal}
use Rattle.moka_records.specs.declared.records.ReadOperation.{ReadOperation}
use Rattle.moka_records.specs.declared.records.ReadOperation.TheVariants.{Hit, Miss}
use Rattle.moka_types.specs.declared.calls.Ticket.{Ticket}
use Rattle.moka_types.specs.declared.error.OutOfMemory.{OutOfMemory}
use Rattle.moka_types.specs.declared.calls.Entry.{Entry}
use Rattle.moka_types.specs.declared.calls.KvEntry.{KvEntry}
use Rattle.moka_types.specs.declared.error.SendError.{SendError}
use Rattle.moka_types.specs.declared.error.SendError.TheVariants.{UnknownTicket, QueueFull}
use Rattle.moka_types.specs.declared.error.InsertError.{InsertError}
use Rattle.moka_types.specs.declared.error.InsertError.TheVariants as insert_error
use Rattle.moka_types.specs.declared.error.InsertRefused.{InsertRefused}
use Rattle.moka_types.specs.declared.error.PredicateError.{PredicateError}
use Rattle.moka_types.specs.declared.error.PredicateError.TheVariants as predicate_error
use Rattle.moka_types.specs.declared.error.PredicateRefused.{PredicateRefused}
use Rattle.moka_types.specs.declared.error.CapacityError.{CapacityError}
use Rattle.moka_parts.specs.Notices.{Notice, when_listening}
use Rattle.moka_records.specs.Records.{record_of_key, with_record}
use Rattle.moka_parts.specs.State.{State, Settings, Events, is_disabled}
use Rattle.moka_parts.specs.Housekeeping.{is_due, after_run_due, limit_of_run}
use Rattle.moka_parts.specs.Visibility.{IsVisible, IsHidden, IsShown}
use Rattle.moka_parts.specs.Registry.{most_ids, FirstFree, RegistrationRefusal}
use Rattle.moka_parts.specs.Expiry.{is_renewal, renewed, expires_at_first, expires_updated, moment_of_hit, answer_to_hit}
use Rattle.moka_parts.specs.Causes.{cause_of_replacement, cause_of_removal}
use Rattle.moka_parts.specs.Maintenance.{Terms, Course}

-- no notices, no readings of the clock, no identifiers, and no run
abbrev pub no_events : {K V : Type 0} → Events K V
no_events = record { notices = []; readings = []; ids = []; passes = None }

-- only notices
abbrev pub only_notices : {K V : Type 0} → List (Notice K V) → Events K V
only_notices notices = record no_events { notices = notices }

-- only identifiers
abbrev pub only_ids : {K V : Type 0} → List Uuid → Events K V
only_ids ids = record no_events { ids = ids }

-- those of a run
abbrev pub run_events : {K V : Type 0} → List (Notice K V) → Course → Events K V
run_events notices course =
    record { notices = notices; readings = course.readings; ids = []; passes = Some course.passes }

-- nothing changed, and there were no events
abbrev pub Unchanged : {K V X P W : Type 0} → State K V X P W → Events K V → State K V X P W → Type 0
Unchanged s e t = (t ≡ s) × (e ≡ no_events)

-- ---- inserts

-- the weight of an entry: the weigher's answer, or 1
abbrev pub Weighs : {K V W : Type 0} → (W → K → V → ℕ → Type 0) → Option W → K → V → ℕ → Type 0
Weighs weighs None key value w = w ≡ 1
Weighs weighs (Some weigher) key value w = weighs weigher key value w

-- with so many more records there would be too few tickets: one for the insert, and one kept for each record's removal
abbrev pub are_numbers_used_up : {K V X P W : Type 0} → State K V X P W → ℕ → Bool
are_numbers_used_up s more = nat_le (2 ^ 64) (s.next_ticket + finite.len s.records + more)

-- why an insert is refused; if the numbers are used up, that comes first
abbrev pub HasInsertError : {K V X P W : Type 0} → State K V X P W → ℕ → InsertError → Type 0
HasInsertError s more insert_error.NumbersUsedUp = are_numbers_used_up s more ≡ true
HasInsertError s more insert_error.OutOfMemory = are_numbers_used_up s more ≡ false

-- key and value come back
abbrev pub RefusesInsert : {K V X P W : Type 0} → State K V X P W → ℕ → K → V → InsertRefused K V → Type 0
RefusesInsert s more key value refused = (refused.key ≡ key) × (refused.value ≡ value)
    × HasInsertError s more refused.error

-- one more operation under the next ticket
abbrev pub handing_out : {K V X P W : Type 0} → State K V X P W → Operation → State K V X P W
handing_out s o =
    record s { outstanding = finite.insert s.outstanding s.next_ticket o; next_ticket = s.next_ticket + 1 }

module _ {K V X P W : Type 0} (created : X → K → V → ℕ → Option ℕ) (updated : X → K → V → ℕ → Option ℕ → Option ℕ) where
  -- the record that an insert of a new key makes
  abbrev pub new_record : State K V X P W → K → ℕ → V → Instant → ℕ → Record K V
  new_record s key hash value now w = record {
    number = s.next_number;
    key = key;
    hash = hash;
    value = value;
    written = now;
    read = now;
    expires = expires_at_first created s.settings.expiry key value now.0;
    weight = w;
    generation = 1;
    applied = 0;
  }

  -- a new record of the key
  abbrev pub inserted : State K V X P W → K → ℕ → V → Instant → ℕ → State K V X P W
  inserted s key hash value now w = handing_out
      (record s {
        records = with_record s.records (new_record s key hash value now w);
        next_number = s.next_number + 1;
      }) (Upsert s.next_number 1 w hash)

  -- the record after an insert of its key: number, first key and first hash stay
  abbrev pub updated_record : State K V X P W → Record K V → K → V → Instant → ℕ → Record K V
  updated_record s r key value now w = record r {
    value = value;
    written = now;
    read = now;
    weight = w;
    generation = r.generation + 1;
    expires = expires_updated created updated s.settings s.settings.expiry key
        value (record r { written = now; read = now }) now.0;
  }

  -- a new value for the record
  abbrev pub replaced : State K V X P W → Record K V → K → ℕ → V → Instant → ℕ → State K V X P W
  replaced s r key hash value now w = handing_out
      (record s { records = with_record s.records (updated_record s r key value now w) })
      (Upsert r.number (r.generation + 1) w hash)

  module _ (weighs : W → K → V → ℕ → Type 0) where
    -- an insert, if the key has that record or none
    abbrev pub InsertsAt : State K V X P W → Option (Record K V) → K → ℕ → V → Instant →
        Result (Ticket × Instant) (InsertRefused K V) → Events K V → State K V X P W → Type 0
    InsertsAt s None key hash value now (Ok a) e t = (w : ℕ) × Weighs weighs s.settings.weigher key value w
        × (are_numbers_used_up s 1 ≡ false) × (a.0.0 ≡ s.next_ticket) × (a.1 ≡ now)
        × (t ≡ inserted s key hash value now w) × (e ≡ no_events)
    InsertsAt s (Some r) key hash value now (Ok a) e t = (w : ℕ) × Weighs weighs s.settings.weigher key value w
        × (are_numbers_used_up s 0 ≡ false) × (a.0.0 ≡ s.next_ticket) × (a.1 ≡ now)
        × (t ≡ replaced s r key hash value now w)
        × (e ≡ only_notices (when_listening s.settings.listening
        ((key, r.value, cause_of_replacement s.settings s.invalid_before r now.0) ∷ [])))
    InsertsAt s None key hash value now (Err refused) e t = RefusesInsert s 1 key value refused × Unchanged s e t
    InsertsAt s (Some r) key hash value now (Err refused) e t = RefusesInsert s 0 key value refused × Unchanged s e t

    -- an insert into a map that is not disabled
    abbrev pub InsertStep : (K → K → Bool) → State K V X P W → K → ℕ → V → Instant →
        Result (Ticket × Instant) (InsertRefused K V) → Events K V → State K V X P W → Type 0
    InsertStep eq s key hash value now a e t = InsertsAt s (record_of_key eq s.records key) key hash value now a e t

-- ---- sends and removals

-- what a removal hands to its caller
abbrev pub entry_of : {K V : Type 0} → Record K V → KvEntry K V
entry_of r = record { key = r.key; value = r.value; last_modified = r.written; last_accessed = r.read }

module _ {K V X W : Type 0} where
  -- the listener, if one is set, is notified of a clone of the entry; only then can memory be refused
  abbrev pub NotifyStep : Settings X W → KvEntry K V → Instant → Result (Unit {0}) OutOfMemory → List (Notice K V) →
      Type 0
  NotifyStep settings entry now (Ok _) notices = notices
      ≡ when_listening settings.listening
      ((entry.key, entry.value, cause_of_removal settings entry.last_modified.0 entry.last_accessed.0 now.0) ∷ [])
  NotifyStep settings entry now (Err _) notices = (settings.listening ≡ true) × (notices ≡ [])

  -- the notice that follows a removal that carries a moment and found its key
  abbrev pub NotifiesAfter : Settings X W → Option (KvEntry K V × Ticket) → Option Instant →
      Option (Result (Unit {0}) OutOfMemory) → List (Notice K V) → Type 0
  NotifiesAfter settings (Some removed) (Some now) (Some a) notices = NotifyStep settings removed.0 now a notices
  NotifiesAfter settings (Some removed) (Some now) None notices = ⊥
  NotifiesAfter settings (Some removed) None a notices = (a ≡ None) × (notices ≡ [])
  NotifiesAfter settings None now a notices = (a ≡ None) × (notices ≡ [])

-- so many operations fit into each queue
abbrev pub queue_length : ℕ
queue_length = 384

module _ {K V X P W : Type 0} where
  -- the operation moves to the back of the write queue
  abbrev pub SendsAt : State K V X P W → ℕ → Option Operation → Result (Unit {0}) SendError → State K V X P W → Type 0
  SendsAt s ticket (Some o) (Ok _) t = (length s.writes < queue_length)
      × (t ≡ record s {
        outstanding = finite.remove s.outstanding ticket;
        writes = s.writes ++ record { ticket = ticket; operation = o } ∷ [];
      })
  SendsAt s ticket (Some o) (Err QueueFull) t = (queue_length ≤ length s.writes) × (t ≡ s)
  SendsAt s ticket None (Err UnknownTicket) t = t ≡ s
  SendsAt s ticket o a t = ⊥

  -- a send of the ticket
  abbrev pub SendStep : State K V X P W → ℕ → Result (Unit {0}) SendError → State K V X P W → Type 0
  SendStep s ticket a t = SendsAt s ticket (finite.get s.outstanding ticket) a t

  -- the record leaves, and its removal is handed out
  abbrev pub RemovesAt : State K V X P W → Option (Record K V) → Option (KvEntry K V × Ticket) → State K V X P W →
      Type 0
  RemovesAt s None a t = (a ≡ None) × (t ≡ s)
  RemovesAt s (Some r) a t = (a ≡ Some (entry_of r, record { 0 = s.next_ticket }))
      × (t ≡ handing_out (record s { records = finite.remove s.records r.number })
      (Removal r.number (r.generation + 1)))

  -- a removal of the key
  abbrev pub RemoveStep : (K → K → Bool) → State K V X P W → K → Option (KvEntry K V × Ticket) → State K V X P W →
      Type 0
  RemoveStep eq s key a t = RemovesAt s (record_of_key eq s.records key) a t

-- ---- invalidation

module _ {K V X P W : Type 0} where
  -- why a predicate is refused, and the identifiers that were asked for
  abbrev pub PredicateRefusal : State K V X P W → PredicateError → List Uuid → Type 0
  PredicateRefusal s predicate_error.InvalidationClosuresDisabled ids = (s.settings.invalidator ≡ false) × (ids ≡ [])
  PredicateRefusal s error ids = (s.settings.invalidator ≡ true) × RegistrationRefusal s.predicates error ids

  -- the predicate is registered under the first free identifier
  abbrev pub InvalidateStep : State K V X P W → P → Instant → Result Uuid (PredicateRefused P) → List Uuid →
      State K V X P W → Type 0
  InvalidateStep s predicate now (Ok id) ids t = (s.settings.invalidator ≡ true) × (length ids ≤ most_ids)
      × FirstFree s.predicates ids id
      × (t ≡ record s { predicates = s.predicates ++ record { id = id; predicate = predicate; registered = now } ∷ [] })
  InvalidateStep s predicate now (Err refused) ids t = (refused.predicate ≡ predicate)
      × PredicateRefusal s refused.error ids × (t ≡ s)

  -- the capacity changes and nothing else; capacity 0 neither comes nor goes
  abbrev pub CapacityStep : State K V X P W → Option ℕ → Result (Unit {0}) CapacityError → State K V X P W → Type 0
  CapacityStep s capacity (Ok _) t = (is_disabled s.capacity || is_disabled capacity ≡ false)
      × (t ≡ record s { capacity = capacity })
  CapacityStep s capacity (Err _) t = (is_disabled s.capacity || is_disabled capacity ≡ true) × (t ≡ s)

-- ---- runs

-- the read is queued, or discarded if the queue is full
abbrev pub queueing : {K V X P W : Type 0} → State K V X P W → ReadOperation → State K V X P W
queueing s r = record s { reads = if nat_lt (length s.reads) queue_length then s.reads ++ r ∷ [] else s.reads }

-- what the housekeeper gives to a run
abbrev pub keeper_terms : {X W : Type 0} → Settings X W → ℕ → Terms
keeper_terms settings now =
    record { now = now; limit = limit_of_run settings.listening settings.run_limit; batch = settings.run_batch }

module _ {K V X P W : Type 0}
    (Runs : State K V X P W → Terms → Course → List (Notice K V) → State K V X P W → Type 0) where
  -- a run that a caller asks for; the housekeeper is not touched
  abbrev pub RunStep : State K V X P W → Terms → Bool → Events K V → State K V X P W → Type 0
  RunStep s terms answer e t = (course : Course) × Runs s terms course e.notices t × (answer ≡ course.answer)
      × (e ≡ run_events e.notices course)

  -- a run that the housekeeper starts
  abbrev pub KeeperRun : State K V X P W → ℕ → Events K V → State K V X P W → Type 0
  KeeperRun s now e t = (answer : Bool) × (mid : State K V X P W) × RunStep s (keeper_terms s.settings now) answer e mid
      × (t ≡ record mid { housekeeping = after_run_due s.housekeeping s.settings.listening now answer })

  -- the housekeeper's run, if so many queued operations make one due
  abbrev pub RunsIfDue : State K V X P W → ℕ → ℕ → Events K V → State K V X P W → Type 0
  RunsIfDue s queued now e t = MatchBool (is_due s.housekeeping queued now) (KeeperRun s now e t) (Unchanged s e t)

  -- a run if one is due, and then the read is queued
  abbrev pub RecordsRead : State K V X P W → ℕ → ReadOperation → Events K V → State K V X P W → Type 0
  RecordsRead s now r e t = (mid : State K V X P W) × RunsIfDue s (length s.reads) now e mid × (t ≡ queueing mid r)

-- ---- reads

module _ {K V X P W : Type 0} (says : P → K → V → Bool → Type 0) where
  -- the record is hidden, or the caller's test ignored it
  abbrev pub IsMissed : State K V X P W → Bool → Record K V → ℕ → Type 0
  IsMissed s ignored r now = (ignored ≡ true) ⊎ IsHidden says s r now

  -- the record is visible, and no test of the caller's ignored it
  abbrev pub IsHit : State K V X P W → Bool → Record K V → ℕ → Type 0
  IsHit s ignored r now = (ignored ≡ false) × IsVisible says s r now

  -- whether the key is there and visible
  abbrev pub ContainsStep : (K → K → Bool) → State K V X P W → K → ℕ → Bool → Type 0
  ContainsStep eq s key now shown = IsShown says s (record_of_key eq s.records key) now shown

  -- the value if it is visible; memory can be refused only if it would be cloned
  abbrev pub ScansAt : State K V X P W → Option (Record K V) → ℕ → Result (Option V) OutOfMemory → Type 0
  ScansAt s None now a = a ≡ Ok None
  ScansAt s (Some r) now (Ok None) = IsHidden says s r now
  ScansAt s (Some r) now (Ok (Some value)) = IsVisible says s r now × (value ≡ r.value)
  ScansAt s (Some r) now (Err _) = IsVisible says s r now

  -- a look at the key's value that changes nothing
  abbrev pub ScanStep : (K → K → Bool) → State K V X P W → K → ℕ → Result (Option V) OutOfMemory → Type 0
  ScanStep eq s key now a = ScansAt s (record_of_key eq s.records key) now a

module _ {K V X P W : Type 0} (read : X → K → V → ℕ → Option ℕ → ℕ → Option ℕ) (s : State K V X P W)
    (r : Record K V) (now : ℕ) where
  -- the moment that a hit at now counts as
  abbrev pub hit_at : ℕ
  hit_at = moment_of_hit s.settings.expiry r now

  -- what the expiry answers to it
  abbrev pub answer_at : Option ℕ
  answer_at = answer_to_hit read s.settings s.settings.expiry r hit_at

  -- the record after a hit
  abbrev pub hit_record : Record K V
  hit_record = record r { read = record { 0 = hit_at }; expires = renewed s.settings r hit_at answer_at }

  -- the state after a hit
  abbrev pub after_hit : State K V X P W
  after_hit = record s { records = with_record s.records hit_record }

  -- the read that is queued
  abbrev pub hit_operation : ReadOperation
  hit_operation = Hit r.number r.hash (is_renewal s.settings r hit_at answer_at)

module _ {K V X P W : Type 0} (says : P → K → V → Bool → Type 0) (read : X → K → V → ℕ → Option ℕ → ℕ → Option ℕ) where
  -- a get that queues no read and starts no run
  abbrev pub PeeksAt : State K V X P W → Option (Record K V) → Bool → ℕ → Result (Option V) OutOfMemory →
      State K V X P W → Type 0
  PeeksAt s None ignored now a t = (a ≡ Ok None) × (t ≡ s)
  PeeksAt s (Some r) ignored now (Ok None) t = IsMissed says s ignored r now × (t ≡ s)
  PeeksAt s (Some r) ignored now (Ok (Some value)) t = IsHit says s ignored r now × (value ≡ r.value)
      × (t ≡ after_hit read s r now)
  PeeksAt s (Some r) ignored now (Err _) t = IsHit says s ignored r now × (t ≡ s)

  -- the same of a key
  abbrev pub PeekStep : (K → K → Bool) → State K V X P W → K → Bool → ℕ → Result (Option V) OutOfMemory →
      State K V X P W → Type 0
  PeekStep eq s key ignored now a t = MatchBool (is_disabled s.capacity) ((a ≡ Ok None) × (t ≡ s))
      (PeeksAt s (record_of_key eq s.records key) ignored now a t)

  module _ (Runs : State K V X P W → Terms → Course → List (Notice K V) → State K V X P W → Type 0) where
    -- a get of a map that is not disabled, if the key has that record or none
    abbrev pub GetsAt : State K V X P W → Option (Record K V) → ℕ → Bool → Bool → ℕ →
        Result (Option (Entry K V)) OutOfMemory → Events K V → State K V X P W → Type 0
    GetsAt s None hash need_key ignored now a e t = (a ≡ Ok None) × RecordsRead Runs s now (Miss hash) e t
    GetsAt s (Some r) hash need_key ignored now (Ok None) e t = IsMissed says s ignored r now
        × RecordsRead Runs s now (Miss hash) e t
    GetsAt s (Some r) hash need_key ignored now (Ok (Some entry)) e t = IsHit says s ignored r now
        × (entry.value ≡ r.value) × (entry.key ≡ (if need_key then Some r.key else None))
        × RecordsRead Runs (after_hit read s r now) (hit_at read s r now) (hit_operation read s r now) e t
    GetsAt s (Some r) hash need_key ignored now (Err _) e t = IsHit says s ignored r now × Unchanged s e t

    -- a get that records
    abbrev pub GetStep : (K → K → Bool) → State K V X P W → K → ℕ → Bool → Bool → ℕ →
        Result (Option (Entry K V)) OutOfMemory → Events K V → State K V X P W → Type 0
    GetStep eq s key hash need_key ignored now a e t = MatchBool (is_disabled s.capacity)
        ((a ≡ Ok None) × Unchanged s e t) (GetsAt s (record_of_key eq s.records key) hash need_key ignored now a e t)

-- ---- what needs no moment

-- the record's key, visible or hidden
abbrev pub KeyAt : {K V : Type 0} → Option (Record K V) → Result (Option K) OutOfMemory → Type 0
KeyAt None a = a ≡ Ok None
KeyAt (Some r) (Ok a) = a ≡ Some r.key
KeyAt (Some r) (Err _) = Unit {0}

module _ {K V X P W : Type 0} where
  -- the same of a key
  abbrev pub KeyStep : (K → K → Bool) → State K V X P W → K → Result (Option K) OutOfMemory → Type 0
  KeyStep eq s key a = KeyAt (record_of_key eq s.records key) a

  -- the keys of all records in some order; there is one segment
  abbrev pub KeysStep : State K V X P W → ℕ → Result (Option (List K)) OutOfMemory → Type 0
  KeysStep s segment (Ok None) = (segment == 0) ≡ false
  KeysStep s segment (Ok (Some keys)) = ((segment == 0) ≡ true)
      × IsPermutation (map (λ r. r.key) (finite.values s.records)) keys
  KeysStep s segment (Err _) = (segment == 0) ≡ true

  -- the least ticket that was not sent
  abbrev pub oldest_ticket : State K V X P W → Option ℕ
  oldest_ticket s = slice_get (finite.keys s.outstanding) 0
