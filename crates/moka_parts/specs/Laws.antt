-- Laws that users rely on, as facts of the reference cache.
use Rattle.std.specs.Prelude.{◌≡◌, ℕ, Bool, true, false, ◌+◌, ◌-◌, ◌<◌, ◌≤◌, List, [], ◌∷◌, ◌++◌, length, take, map, Option, Some, None, option_map, Result, Ok, Err, ◌⊎◌, slice_get, IsPermutation, Contains, is_some, ⊤}
use Rattle.std.specs.FinMap.{get, values, len, contains_key}
use Rattle.moka_records.specs.declared.instant.Instant.{Instant}
use Rattle.moka_records.specs.declared.records.Record.{Record}
use Rattle.moka_records.specs.declared.records.Member.{Member}
use Rattle.moka_parts.specs.declared.records.Registered.{Registered}
use Rattle.moka_types.specs.declared.calls.Call.{Call}
use Rattle.moka_types.specs.declared.calls.Call.TheVariants as call
use Rattle.moka_types.specs.declared.calls.Reply.{Reply}
use Rattle.moka_types.specs.declared.calls.Reply.TheVariants as reply
use Rattle.moka_types.specs.declared.error.OutOfMemory.{OutOfMemory}
use Rattle.moka_types.specs.declared.error.SendError.{SendError}
use Rattle.moka_types.specs.declared.calls.Entry.{Entry}
use Rattle.moka_types.specs.declared.calls.KvEntry.{KvEntry}
use Rattle.moka_types.specs.declared.calls.Ticket.{Ticket}
use Rattle.moka_parts.specs.Settling.{IsConsistentState, IsWellNumbered, IsValid, IsAllSent}
use Rattle.moka_records.specs.Time.{moment_of, is_before}
use Rattle.moka_records.specs.Records.{Records, record_of_key, with_record, numbers_of, total_weight}
use Rattle.moka_parts.specs.Notices.{Notice}
use Rattle.moka_parts.specs.State.{State, Settings, Contents, Meaning, Events, is_disabled, new_state, keeps_write_list}
use Rattle.moka_parts.specs.Frequency.{frequency}
use Rattle.moka_parts.specs.Candidates.{prefix, frequency_of_all}
use Rattle.moka_parts.specs.Bounds.{removed_by, IsPlainSurplus}
use Rattle.moka_parts.specs.Writes.{fate_by_policy, Preferred}
use Rattle.moka_parts.specs.Maintenance.{Choice, Removes, MovesToBack, Drops, Freedom, Terms, Course, after_choice, after_choices, kept_by_choice, CoversNothing, before_steps, AreFree, RunsBy, left_in_run, at_end, MaintenanceRun}
use Rattle.moka_parts.specs.Exact.{IsExact, IsWithin}
use Rattle.moka_parts.specs.Calls.{GetStep, PeekStep, ContainsStep, SendStep, RemoveStep, entry_of}
use Rattle.moka_parts.specs.Order.{IsInOrder, KeepsOrder, AgesOutInOrder}
use Rattle.moka_parts.specs.Runs.{Engine, Step, CallStep, AreOrderly, AreSteps, MakesCalls, ReferenceRun, PromisedRun, last_state}
use Rattle.moka_parts.specs.Listed.{ListedRun, ListedStep, AreListedSteps}
use Rattle.moka_types.specs.declared.policy.EvictionPolicy.TheVariants.{TinyLfu}

-- ---- gets and looks

-- the get found a value
abbrev pub is_found : {A E : Type 0} → Result (Option A) E → Bool
is_found (Ok (Some x)) = true
is_found (Ok None) = false
is_found (Err _) = false

-- memory was not refused
abbrev pub is_answered : {A E : Type 0} → Result A E → Bool
is_answered (Ok x) = true
is_answered (Err _) = false

module _ {K V X P W : Type 0} (eq : K → K → Bool) (says : P → K → V → Bool → Type 0)
    (read : X → K → V → ℕ → Option ℕ → ℕ → Option ℕ)
    (Runs : State K V X P W → Terms → Course → List (Notice K V) → State K V X P W → Type 0) where
  -- a get answers a value exactly if the key is contained, unless memory is refused
  abbrev pub GetsWhatIsContained : Type 0
  GetsWhatIsContained = (s : State K V X P W) (key : K) (hash : ℕ) (need_key : Bool) (now : ℕ)
      (a : Result (Option (Entry K V)) OutOfMemory) (e : Events K V) (t : State K V X P W) (shown : Bool) →
      IsWellNumbered eq s → GetStep says read Runs eq s key hash need_key false now a e t
      → ContainsStep says eq s key now shown → is_answered a ≡ true → is_found a ≡ shown

-- ---- what is hidden stays hidden

-- the moment that a call carries, if it shows or changes by it
abbrev pub moment_in : {K V P : Type 0} → Call K V P → Option ℕ
moment_in (call.Insert key hash value now) = Some now.0
moment_in (call.Get key hash need_key now) = Some now.0
moment_in (call.GetUnrecorded key hash now) = Some now.0
moment_in (call.Contains key hash now) = Some now.0
moment_in (call.Scan key now) = Some now.0
moment_in (call.Remove key hash now) = moment_of now
moment_in (call.InvalidateAll now) = Some now.0
moment_in (call.InvalidateIf predicate now) = Some now.0
moment_in (call.Run now limit repeats batch) = Some now.0
moment_in (call.RunIfDue now) = Some now.0
moment_in c = None

-- the call is an insert of the key
abbrev pub is_insert_of : {K V P : Type 0} → (K → K → Bool) → K → Call K V P → Bool
is_insert_of eq key (call.Insert k hash value now) = eq k key
is_insert_of eq key c = false

-- no earlier than the moment
abbrev pub IsNoEarlier : ℕ → Option ℕ → Type 0
IsNoEarlier t None = ⊤
IsNoEarlier t (Some u) = t ≤ u

-- the later moment, if the call carries one
abbrev pub later_of : ℕ → Option ℕ → ℕ
later_of t None = t
later_of t (Some u) = u

-- the call is no invalidation of all that is earlier than the one that stands
abbrev pub NeverLowers : {K V P : Type 0} → Call K V P → Option Instant → Type 0
NeverLowers (call.InvalidateAll now) bound = is_before now.0 (moment_of bound) ≡ false
NeverLowers c bound = ⊤

module _ {K V X P W : Type 0} where
  -- moments never go back, and no invalidation of all is earlier than the one that stands
  abbrev pub NeverGoesBack : ℕ → State K V X P W → List (Step K V X P W) → Type 0
  NeverGoesBack t s [] = Unit {0}
  NeverGoesBack t s (x ∷ xs) = IsNoEarlier t (moment_in x.call) × NeverLowers x.call s.invalid_before
      × NeverGoesBack (later_of t (moment_in x.call)) x.after xs

  -- no step inserts the key
  abbrev pub InsertsNever : (K → K → Bool) → K → List (Step K V X P W) → Type 0
  InsertsNever eq key [] = Unit {0}
  InsertsNever eq key (x ∷ xs) = (is_insert_of eq key x.call ≡ false) × InsertsNever eq key xs

  -- the last moment of the steps
  abbrev pub last_moment : ℕ → List (Step K V X P W) → ℕ
  last_moment t [] = t
  last_moment t (x ∷ xs) = last_moment (later_of t (moment_in x.call)) xs

module _ {K V X L P W C I : Type 0} (m : Meaning K V X L P W C I) where
  -- a key that is hidden stays so until it is inserted again
  abbrev pub StaysHidden : Type 0
  StaysHidden = (s : State K V X P W) (steps : List (Step K V X P W)) (key : K) (now later : ℕ) (shown : Bool) →
      IsValid m.eq s → AreSteps m (MaintenanceRun m.says) s steps → NeverGoesBack now s steps →
      InsertsNever m.eq key steps → last_moment now steps ≤ later →
      ContainsStep m.says m.eq s key now false → ContainsStep m.says m.eq (last_state s steps) key later shown
      → shown ≡ false

-- ---- predicates, removals, admissions

module _ {K V P : Type 0} (says : P → K → V → Bool → Type 0) where
  -- a predicate that the step drops covers no record of the map at that moment
  abbrev pub DropsIdle : Contents K V → List (Registered P) → Choice → Type 0
  DropsIdle c ps (Removes n cause) = ⊤
  DropsIdle c ps (MovesToBack n) = ⊤
  DropsIdle c ps (Drops i) = (p : Registered P) → slice_get ps i ≡ Some p → CoversNothing says c p

  -- the same of each step when it is taken
  abbrev pub AllDropIdle : Contents K V → List (Registered P) → List Choice → Type 0
  AllDropIdle c ps [] = Unit {0}
  AllDropIdle c ps (x ∷ xs) = DropsIdle c ps x × AllDropIdle (after_choice c x) (kept_by_choice ps x) xs

-- a run drops a predicate only when it covers no record of the map
abbrev pub DropsOnlyIdle : {K V X P W : Type 0} → (P → K → V → Bool → Type 0) → State K V X P W → ℕ → Freedom → Type 0
DropsOnlyIdle says s now ch = AreFree says s now ch → AllDropIdle says (before_steps s ch) s.predicates ch.steps

-- a run at some moment of which the predicate covers no record of the map
abbrev pub CoversNothingIn : {K V X P W : Type 0} → (P → K → V → Bool → Type 0) → Registered P → State K V X P W →
    Terms → Course → List (Notice K V) → State K V X P W → Type 0
CoversNothingIn says p s terms course notices t = (ch : Freedom) × RunsBy says s terms ch course notices t
    × (first rest : List Choice) × (ch.steps ≡ first ++ rest)
    × CoversNothing says (after_choices (before_steps s ch) first) p

-- a predicate that is registered before the calls and not after them left in a call with a run at some moment of which
-- it covered nothing
abbrev pub PredicatesLeaveIdle : {K V X L P W C I : Type 0} → Meaning K V X L P W C I → Type 0
PredicatesLeaveIdle {K} {V} {X} {L} {P} {W} m = (s : State K V X P W) (steps : List (Step K V X P W))
    (p : Registered P) → AreSteps m (MaintenanceRun m.says) s steps → Contains s.predicates p →
    (Contains (last_state s steps).predicates p → ⊥) →
    (done later : List (Step K V X P W)) × (x : Step K V X P W) × (steps ≡ done ++ x ∷ later)
    × (is_some x.events.passes ≡ true)
    × CallStep m (CoversNothingIn m.says p) (last_state s done) x.call x.reply x.events x.after

-- a removal gives the stored entry, visible or hidden, and every other key's record stays
abbrev pub RemovesJustOne : {K V X P W : Type 0} → (K → K → Bool) → State K V X P W → Type 0
RemovesJustOne {K} {V} {X} {P} {W} eq s = (key : K) (a : Option (KvEntry K V × Ticket)) (t : State K V X P W) →
    IsWellNumbered eq s → RemoveStep eq s key a t →
    (option_map (λ x. x.0) a ≡ option_map entry_of (record_of_key eq s.records key))
    × ((n : ℕ) (r : Record K V) → get s.records n ≡ Some r → eq key r.key ≡ false → get t.records n ≡ Some r)

-- a candidate that TinyLFU admits was seen more often than its victims together, and they weigh enough
abbrev pub AdmitsWell : {K V : Type 0} → Contents K V → ℕ → ℕ → List Member → Type 0
AdmitsWell c weight hash victims = fate_by_policy TinyLfu c weight hash ≡ Preferred victims
    → (frequency_of_all c victims < frequency c.sketch hash) × (weight ≤ total_weight victims)

-- ---- what leaves the map is told

-- the value that a call put into the map
abbrev pub values_put : {K V P : Type 0} → Call K V P → Reply K V P → List V
values_put (call.Insert key hash value now) (reply.Insert (Ok a)) = value ∷ []
values_put c r = []

-- the value that a call handed back out of the map
abbrev pub values_handed : {K V P : Type 0} → Reply K V P → List V
values_handed (reply.Remove (Some removed) told) = removed.0.value ∷ []
values_handed r = []

-- the values that a call told of as they left the map: all but the clone that is told after a removal
abbrev pub values_told : {K V P : Type 0} → Call K V P → List (Notice K V) → List V
values_told (call.Remove key hash now) notices = []
values_told c notices = map (λ n. n.1) notices

-- the values of the records
abbrev pub values_of : {K V : Type 0} → Records K V → List V
values_of records = map (λ r. r.value) (values records)

-- each value of the map, and the one put in, is told once or handed back, or is still there
abbrev pub ConservesValues : {K V X P W : Type 0} → State K V X P W → Step K V X P W → Type 0
ConservesValues s x = IsPermutation (values_of s.records ++ values_put x.call x.reply)
    (values_told x.call x.events.notices ++ (values_handed x.reply ++ values_of x.after.records))

-- the same of each step
abbrev pub AllConserveValues : {K V X P W : Type 0} → State K V X P W → List (Step K V X P W) → Type 0
AllConserveValues s [] = Unit {0}
AllConserveValues s (x ∷ xs) = ConservesValues s x × AllConserveValues x.after xs

-- what a run takes out of the map is exactly what it tells a listener, each once
abbrev pub TellsWhatLeaves : {K V X P W : Type 0} → State K V X P W → Freedom → Type 0
TellsWhatLeaves s ch =
    IsPermutation (values_of s.records) (map (λ n. n.1) (left_in_run s ch) ++ values_of (at_end s ch).records)

-- if a listener is set, every call tells exactly what leaves the map in it, each once
abbrev pub TellsEachOnce : {K V X L P W C I : Type 0} → Meaning K V X L P W C I → Type 0
TellsEachOnce {K} {V} {X} {L} {P} {W} m = (s : State K V X P W) (steps : List (Step K V X P W)) → IsValid m.eq s
    → s.settings.listening ≡ true → AreSteps m (MaintenanceRun m.says) s steps → AllConserveValues s steps

-- ---- looks that leave no trace

-- nothing changes but the last read and the expiry of the record that the key has
abbrev pub LeavesNoTrace : {K V X P W : Type 0} → (K → K → Bool) → State K V X P W → K → State K V X P W → Type 0
LeavesNoTrace {K} {V} eq s key t = (t ≡ s) ⊎ ((r : Record K V) × (read : Instant) × (expires : Option Instant)
    × (record_of_key eq s.records key ≡ Some r)
    × (t ≡ record s { records = with_record s.records (record r { read = read; expires = expires }) }))

-- a get that records nothing leaves no trace
abbrev pub PeeksQuietly : {K V X P : Type 0} → (W : Type 0) → (K → K → Bool) → (P → K → V → Bool → Type 0) →
    (X → K → V → ℕ → Option ℕ → ℕ → Option ℕ) → Type 0
PeeksQuietly {K} {V} {X} {P} W eq says read = (s : State K V X P W) (key : K) (ignored : Bool) (now : ℕ)
    (a : Result (Option V) OutOfMemory) (t : State K V X P W) → PeekStep says read eq s key ignored now a t
    → LeavesNoTrace eq s key t

-- ---- what always holds, and what runs come to

-- a new cache is valid
abbrev pub StartsValid : (K V X P W : Type 0) → (K → K → Bool) → Type 0
StartsValid K V X P W eq = (settings : Settings X W) (capacity : Option ℕ) (now first_ticket : ℕ)
    → IsValid eq (new_state {K = K} {V = V} {P = P} settings capacity now first_ticket)

-- each run ends exact once every operation was sent
abbrev pub EndsExact : {K V P : Type 0} → (X W : Type 0) → (K → K → Bool) → (P → K → V → Bool → Type 0) → Type 0
EndsExact {K} {V} {P} X W eq says = (s : State K V X P W) (terms : Terms) (course : Course)
    (notices : List (Notice K V)) (t : State K V X P W) → IsValid eq s → IsAllSent s
    → MaintenanceRun says s terms course notices t → IsExact t

-- the reported count is off by no more than the operations not sent
abbrev pub IsNear : {K V X P W : Type 0} → State K V X P W → Type 0
IsNear s = (s.count ≤ len s.records + len s.outstanding) × (len s.records ≤ s.count + len s.outstanding)

-- after each run it is so
abbrev pub CountsNearly : {K V P : Type 0} → (X W : Type 0) → (K → K → Bool) → (P → K → V → Bool → Type 0) → Type 0
CountsNearly {K} {V} {P} X W eq says = (s : State K V X P W) (terms : Terms) (course : Course)
    (notices : List (Notice K V)) (t : State K V X P W) → IsValid eq s → MaintenanceRun says s terms course notices t
    → IsNear t

module _ {K V X P W : Type 0} (says : P → K → V → Bool → Type 0) (s : State K V X P W) (now : ℕ) (ch : Freedom) where
  -- if weight is the only ground for a removal, steps that end within the capacity remove just enough from the front
  abbrev pub RemovesEnough : Type 0
  RemovesEnough = (capacity : ℕ) → IsConsistentState s → AreFree says s now ch →
      IsPlainSurplus s now capacity (before_steps s ch) → IsWithin s.capacity (at_end s ch).access →
      (front : List Member) × (prefix (before_steps s ch).access (total_weight (before_steps s ch).access - capacity)
      ≡ Some front) × (removed_by ch.steps ≡ numbers_of front)

  -- and steps that remove so many records remove the first ones
  abbrev pub RemovesFirst : Type 0
  RemovesFirst = (capacity many : ℕ) → IsConsistentState s → AreFree says s now ch
      → IsPlainSurplus s now capacity (before_steps s ch) → length (removed_by ch.steps) ≡ many
      → removed_by ch.steps ≡ numbers_of (take many (before_steps s ch).access)

-- every list of calls keeps a state valid
abbrev pub StaysValid : {K V X L P W C I : Type 0} → Meaning K V X L P W C I → Type 0
StaysValid {K} {V} {X} {L} {P} {W} m = (s : State K V X P W) (steps : List (Step K V X P W)) → IsValid m.eq s
    → AreSteps m (MaintenanceRun m.says) s steps → IsValid m.eq (last_state s steps)

-- if the write list is kept, a list of calls in the order of time keeps a state in order
abbrev pub StaysInOrder : {K V X L P W C I : Type 0} → Meaning K V X L P W C I → Type 0
StaysInOrder {K} {V} {X} {L} {P} {W} m = (s : State K V X P W) (steps : List (Step K V X P W)) (before : List ℕ) →
    IsValid m.eq s → keeps_write_list s.settings ≡ true → AreOrderly s steps → IsInOrder s before →
    AreSteps m (MaintenanceRun m.says) s steps → (after : List ℕ) × IsInOrder (last_state s steps) after

-- calls whose runs of maintenance keep their promises are a run of the reference cache
abbrev pub IsOfReference : {K V X L P W C I : Type 0} → (S : Type 0) → Meaning K V X L P W C I → Type 0
IsOfReference {K} {V} {X} {L} {P} {W} {C} {I} S m = (calls : List (Call K V P)) (replies : List (Reply K V P))
    (steps : List (Step K V X P W)) (old new : Engine K V S X L P W) (clock clock_after : C) (ids ids_after : I) →
    MakesCalls m (PromisedRun m.says m.read) calls replies steps old clock ids new clock_after ids_after
    → ReferenceRun m calls replies steps old clock ids new clock_after ids_after

-- ---- the runs and calls that contracts promise, with their write lists

module _ {K V X P : Type 0} (W : Type 0) (says : P → K → V → Bool → Type 0)
    (read : X → K → V → ℕ → Option ℕ → ℕ → Option ℕ) where
  -- such a run is one of the reference cache
  abbrev pub RunsAreOfReference : Type 0
  RunsAreOfReference = (before after : List ℕ) (s : State K V X P W) (terms : Terms) (course : Course)
      (notices : List (Notice K V)) (t : State K V X P W) → ListedRun says read before after s terms course notices t
      → MaintenanceRun says s terms course notices t

  -- from a state in order such a run leaves nothing that is past its time
  abbrev pub RunsAgeOut : (K → K → Bool) → Type 0
  RunsAgeOut eq = (before after : List ℕ) (s : State K V X P W) (terms : Terms) (course : Course)
      (notices : List (Notice K V)) (t : State K V X P W) → IsValid eq s
      → ListedRun says read before after s terms course notices t → AgesOutInOrder s before terms course t

  -- after such a run of a map that is not disabled each operation that waits to be sent can be sent
  abbrev pub SendsAfterRun : Type 0
  SendsAfterRun = (before after : List ℕ) (s : State K V X P W) (terms : Terms) (course : Course)
      (notices : List (Notice K V)) (t : State K V X P W) → ListedRun says read before after s terms course notices t →
      is_disabled s.capacity ≡ false →
      (ticket : ℕ) (a : Result (Unit {0}) SendError) (u : State K V X P W) → contains_key t.outstanding ticket ≡ true
      → SendStep t ticket a u → a ≡ Ok tt

module _ {K V X L P W C I : Type 0} (m : Meaning K V X L P W C I) where
  -- such a call is one of the reference cache
  abbrev pub StepsAreOfReference : Type 0
  StepsAreOfReference = (s : State K V X P W) (before : List ℕ) (x : Step K V X P W) (after : List ℕ)
      → ListedStep m s before x after → CallStep m (MaintenanceRun m.says) s x.call x.reply x.events x.after

  -- and so is a list of them
  abbrev pub ListsAreOfReference : Type 0
  ListsAreOfReference = (s : State K V X P W) (before : List ℕ) (steps : List (Step K V X P W)) (last : List ℕ)
      → AreListedSteps m s before steps last → AreSteps m (MaintenanceRun m.says) s steps

  -- if the write list is kept, such a call in the order of time keeps a state in order with the list that it leaves
  abbrev pub CallsKeepOrder : Type 0
  CallsKeepOrder = (s : State K V X P W) (before : List ℕ) (x : Step K V X P W) (after : List ℕ) → IsValid m.eq s
      → ListedStep m s before x after → KeepsOrder s before x.call x.after after

  -- and so does a list of them
  abbrev pub ListsKeepOrder : Type 0
  ListsKeepOrder = (s : State K V X P W) (before : List ℕ) (steps : List (Step K V X P W)) (last : List ℕ)
      → IsValid m.eq s → AreListedSteps m s before steps last → keeps_write_list s.settings ≡ true → AreOrderly s steps
      → IsInOrder s before → IsInOrder (last_state s steps) last
