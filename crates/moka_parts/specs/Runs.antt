-- Lists of calls: chains of call steps, with what the listener, the clock and the source of identifiers went through.
use Rattle.std.specs.Prelude.{◌≡◌, ℕ, Bool, true, false, List, [], ◌∷◌, length, map, Option, Some, None, option_map, Ok, Err, flat_map}
use Rattle.std.specs.Duration.{as_nanos}
use Rattle.std.specs.FinMap.{len, empty}
use Rattle.uuid.specs.declared.Uuid.{Uuid}
use Rattle.moka_parts.specs.declared.notification.RemovalCause.{RemovalCause}
use Rattle.moka_records.specs.declared.instant.Instant.{Instant}
use Rattle.moka_types.specs.declared.calls.Call.{Call}
use Rattle.moka_types.specs.declared.calls.Call.TheVariants as call
use Rattle.moka_types.specs.declared.calls.Reply.{Reply}
use Rattle.moka_types.specs.declared.calls.Reply.TheVariants as reply
use Rattle.moka_parts.specs.Notices.{Notice}
use Rattle.moka_parts.specs.State.{State, Meaning, Events, is_disabled}
use Rattle.moka_parts.specs.Maintenance.{Terms, Course, RunsWith, MaintenanceRun}
use Rattle.moka_parts.specs.Settling.{LeavesBehind, Settles}
use Rattle.moka_parts.specs.Bounds.{HasBounds}
use Rattle.moka_parts.specs.Order.{IsOrderly, AgesOut}
use Rattle.moka_parts.specs.Housekeeping.{without_automatic}
use Rattle.moka_parts.specs.Surroundings.{Heard}
pub use Rattle.moka_parts.specs.Surroundings.{Leads}
use Rattle.moka_parts.specs.Calls.{no_events, only_notices, only_ids, Unchanged, InsertStep, SendStep, GetStep, PeekStep, ContainsStep, KeyStep, ScanStep, RemoveStep, NotifiesAfter, InvalidateStep, CapacityStep, RunStep, RunsIfDue, KeysStep, oldest_ticket}

-- what contracts see of a cache: its name and hasher, the state, the listener, the write list, the passes of its last
-- run, and for how many more records it has room
pub record Engine (K V S X L P W : Type 0) : Type 0 where
  -- as bytes
  pub name : Option (List ℕ)
  pub hasher : S
  pub state : State K V X P W
  pub listener : Option L
  -- the members' numbers in the order of writing, if that is kept
  pub write_list : List ℕ
  pub passes : ℕ
  -- in its tables
  pub room : ℕ

-- the passes of the last run, if this many were made before
abbrev pub passes_after : ℕ → Option ℕ → ℕ
passes_after before None = before
passes_after before (Some passes) = passes

-- a call with these events changes no more of a cache than its state, what the listener has heard, the write list, the
-- passes and the room
pub record Befalls {K V S X L P W : Type 0} (tells : L → K → V → RemovalCause → L → Type 0) (e : Events K V)
    (old new : Engine K V S X L P W) : Type 0 where
  pub kept : new ≡ record old {
    state = new.state;
    listener = new.listener;
    write_list = new.write_list;
    passes = new.passes;
    room = new.room;
  }
  pub heard : Heard tells old.listener e.notices new.listener
  pub passes : new.passes ≡ passes_after old.passes e.passes
  -- without a run of maintenance the write list stays
  pub listed : e.passes ≡ None → new.write_list ≡ old.write_list

-- ---- one call

module _ {K V X L P W C I : Type 0} (m : Meaning K V X L P W C I)
    (Runs : State K V X P W → Terms → Course → List (Notice K V) → State K V X P W → Type 0) where
  -- an insert into a disabled map is handed back
  abbrev pub HandsBack : State K V X P W → K → V → K → V → Events K V → State K V X P W → Type 0
  HandsBack s key value k v e t = (is_disabled s.capacity ≡ true) × (k ≡ key) × (v ≡ value) × Unchanged s e t

  -- one call may give the reply with these events and lead from the first state to the second
  abbrev pub CallStep : State K V X P W → Call K V P → Reply K V P → Events K V → State K V X P W → Type 0
  CallStep s (call.Insert key hash value now) (reply.Insert a) e t = (is_disabled s.capacity ≡ false)
      × InsertStep m.created m.updated m.weighs m.eq s key hash value now a e t
  CallStep s (call.Insert key hash value now) (reply.Disabled k v) e t = HandsBack s key value k v e t
  CallStep s (call.Send ticket) (reply.Send a) e t = SendStep s ticket.0 a t × (e ≡ no_events)
  CallStep s (call.Get key hash need_key now) (reply.Get a) e t =
      GetStep m.says m.read Runs m.eq s key hash need_key false now.0 a e t
  CallStep s (call.GetUnrecorded key hash now) (reply.GetUnrecorded a) e t =
      PeekStep m.says m.read m.eq s key false now.0 a t × (e ≡ no_events)
  CallStep s (call.Contains key hash now) (reply.Contains shown) e t = ContainsStep m.says m.eq s key now.0 shown
      × Unchanged s e t
  CallStep s (call.Key key hash) (reply.Key a) e t = KeyStep m.eq s key a × Unchanged s e t
  CallStep s (call.Scan key now) (reply.Scan a) e t = ScanStep m.says m.eq s key now.0 a × Unchanged s e t
  CallStep s (call.Remove key hash now) (reply.Remove removed told) e t = RemoveStep m.eq s key removed t
      × NotifiesAfter s.settings removed now told e.notices × (e ≡ only_notices e.notices)
  CallStep s (call.InvalidateAll now) reply.InvalidateAll e t = (t ≡ record s { invalid_before = Some now })
      × (e ≡ no_events)
  CallStep s (call.InvalidateIf predicate now) (reply.InvalidateIf a) e t = InvalidateStep s predicate now a e.ids t
      × (e ≡ only_ids e.ids)
  CallStep s (call.Run now limit repeats batch) (reply.Run more) e t =
      RunStep Runs s (record { now = now.0; limit = option_map as_nanos limit; batch = batch }) more e t
  CallStep s (call.RunIfDue now) reply.RunIfDue e t = RunsIfDue Runs s (length s.writes) now.0 e t
  CallStep s call.DisableAutoRun reply.DisableAutoRun e t =
      (t ≡ record s { housekeeping = without_automatic s.housekeeping }) × (e ≡ no_events)
  CallStep s (call.Keys segment) (reply.Keys (Ok (Some keys))) e t = KeysStep s segment (Ok (Some keys.items))
      × Unchanged s e t
  CallStep s (call.Keys segment) (reply.Keys (Ok None)) e t = KeysStep s segment (Ok None) × Unchanged s e t
  CallStep s (call.Keys segment) (reply.Keys (Err refused)) e t = KeysStep s segment (Err refused) × Unchanged s e t
  CallStep s call.Report (reply.Report count weight predicates) e t = (count ≡ s.count) × (weight ≡ s.weight)
      × (predicates ≡ length s.predicates) × Unchanged s e t
  CallStep s call.Pending (reply.Pending handed oldest writes reads) e t = (handed ≡ len s.outstanding)
      × (option_map (λ x. x.0) oldest ≡ oldest_ticket s) × (writes ≡ length s.writes) × (reads ≡ length s.reads)
      × Unchanged s e t
  CallStep s (call.SetCapacity capacity) (reply.SetCapacity a) e t = CapacityStep s capacity a t × (e ≡ no_events)
  CallStep s c r e t = ⊥

-- ---- a list of calls

-- one call made, with the state that it left
pub record Step (K V X P W : Type 0) : Type 0 where
  pub call : Call K V P
  pub reply : Reply K V P
  pub events : Events K V
  pub after : State K V X P W

module _ {K V X P W : Type 0} where
  -- the calls
  abbrev pub calls_of : List (Step K V X P W) → List (Call K V P)
  calls_of steps = map (λ x. x.call) steps

  -- the replies
  abbrev pub replies_of : List (Step K V X P W) → List (Reply K V P)
  replies_of steps = map (λ x. x.reply) steps

  -- all notices, in order
  abbrev pub notices_of : List (Step K V X P W) → List (Notice K V)
  notices_of steps = flat_map (λ x. x.events.notices) steps

  -- all readings of the clock, in order
  abbrev pub readings_of : List (Step K V X P W) → List Instant
  readings_of steps = flat_map (λ x. x.events.readings) steps

  -- all identifiers that were asked for, in order
  abbrev pub ids_of : List (Step K V X P W) → List Uuid
  ids_of steps = flat_map (λ x. x.events.ids) steps

  -- the state after the steps
  abbrev pub last_state : State K V X P W → List (Step K V X P W) → State K V X P W
  last_state s [] = s
  last_state s (x ∷ xs) = last_state x.after xs

  -- the passes of the last run of the steps, if this many were made before
  abbrev pub last_passes : ℕ → List (Step K V X P W) → ℕ
  last_passes before [] = before
  last_passes before (x ∷ xs) = last_passes (passes_after before x.events.passes) xs

  -- each call was in the order of time
  abbrev pub AreOrderly : State K V X P W → List (Step K V X P W) → Type 0
  AreOrderly s [] = Unit {0}
  AreOrderly s (x ∷ xs) = IsOrderly s x.call × AreOrderly x.after xs

module _ {K V X L P W C I : Type 0} (m : Meaning K V X L P W C I)
    (Runs : State K V X P W → Terms → Course → List (Notice K V) → State K V X P W → Type 0) where
  -- each step is one of the call's
  abbrev pub AreSteps : State K V X P W → List (Step K V X P W) → Type 0
  AreSteps s [] = Unit {0}
  AreSteps s (x ∷ xs) = CallStep m Runs s x.call x.reply x.events x.after × AreSteps x.after xs

-- the calls, made one after the other, give the replies and lead from the first cache, clock and source of identifiers
-- to the second
pub record MakesCalls {K V S X L P W C I : Type 0} (m : Meaning K V X L P W C I)
    (Runs : State K V X P W → Terms → Course → List (Notice K V) → State K V X P W → Type 0) (calls : List (Call K V P))
    (replies : List (Reply K V P)) (steps : List (Step K V X P W)) (old : Engine K V S X L P W) (clock : C) (ids : I)
    (new : Engine K V S X L P W) (clock_after : C) (ids_after : I) : Type 0 where
  pub calls_made : calls_of steps ≡ calls
  pub replies_given : replies_of steps ≡ replies
  pub are_steps : AreSteps m Runs old.state steps
  pub ends : new ≡ record old {
    state = last_state old.state steps;
    listener = new.listener;
    write_list = new.write_list;
    passes = last_passes old.passes steps;
    room = new.room;
  }
  pub heard : Heard m.tells old.listener (notices_of steps) new.listener
  pub read : Leads m.observes clock (readings_of steps) clock_after
  pub given : Leads m.gives ids (ids_of steps) ids_after

-- a run of the reference cache
abbrev pub ReferenceRun : {K V S X L P W C I : Type 0} → Meaning K V X L P W C I → List (Call K V P) →
    List (Reply K V P) → List (Step K V X P W) → Engine K V S X L P W → C → I → Engine K V S X L P W → C → I → Type 0
ReferenceRun m calls replies steps old clock ids new clock_after ids_after =
    MakesCalls m (MaintenanceRun m.says) calls replies steps old clock ids new clock_after ids_after

module _ {K V X P W : Type 0} (says : P → K → V → Bool → Type 0) (read : X → K → V → ℕ → Option ℕ → ℕ → Option ℕ) where
  -- what every run of maintenance ends with
  abbrev pub EndsWell : State K V X P W → Terms → Course → State K V X P W → Type 0
  EndsWell s terms course t = LeavesBehind s terms course t × Settles says read s terms course t

  -- a run of maintenance with all that is promised of it
  abbrev pub PromisedRun : State K V X P W → Terms → Course → List (Notice K V) → State K V X P W → Type 0
  PromisedRun s terms course notices t = RunsWith says EndsWell (HasBounds says read) s terms course notices t

  -- the same, and a whole run also removes what is past its time
  abbrev pub OrderlyRun : State K V X P W → Terms → Course → List (Notice K V) → State K V X P W → Type 0
  OrderlyRun s terms course notices t = RunsWith says (λ s terms course t. EndsWell s terms course t
      × AgesOut s terms course t) (HasBounds says read) s terms course notices t

-- nothing is kept and nothing waits
pub record IsEmpty {K V X P W : Type 0} (s : State K V X P W) : Type 0 where
  pub records : s.records ≡ empty
  pub outstanding : s.outstanding ≡ empty
  pub writes : s.writes ≡ []
  pub access : s.access ≡ []
