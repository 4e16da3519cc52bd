-- A call makes a run of maintenance or leaves one of a few states, each of which is an elementary change: a fact that is
-- shown of each change holds after every call.
use Rattle.std.proofs.Common.{◌≡◌, refl, ℕ, ◌+◌, ◌<◌, Bool, true, false, ◌||◌, List, [], ◌∷◌, ◌++◌, length, Option, Some, None, option_map, Result, Ok, Err, ap, sym, ◌∙◌, subst, ◌⊎◌, inl, inr, MatchBool}
use Rattle.std.specs.Duration.{as_nanos}
use Rattle.std.specs.FinMap.{get, remove}
use Rattle.uuid.specs.declared.Uuid.{Uuid}
use Rattle.moka_laws.proofs.Types.{Instant, Record, Registered, ReadOperation, Miss, Operation, Removal, Ticket, Entry, KvEntry, Call, Reply, OutOfMemory, InsertRefused, Housekeeping, Notice, State, Meaning, Events, Terms, Course}
use Rattle.moka_types.specs.declared.calls.Call.TheVariants as call
use Rattle.moka_types.specs.declared.calls.Reply.TheVariants as reply
use Rattle.moka_parts.specs.Housekeeping.{is_due, after_run_due, without_automatic}
use Rattle.moka_records.specs.Records.{record_of_key}
use Rattle.moka_parts.specs.State.{is_disabled}
use Rattle.moka_parts.specs.Visibility.{IsVisible}
use Rattle.moka_parts.specs.Calls.{no_events, only_notices, only_ids, run_events, Unchanged, inserted, replaced, handing_out, queue_length, InsertsAt, InsertStep, RemovesAt, RemoveStep, queueing, keeper_terms, RunStep, KeeperRun, RunsIfDue, RecordsRead, after_hit, hit_at, hit_operation, PeeksAt, PeekStep, GetsAt, GetStep}
use Rattle.moka_parts.specs.Runs.{CallStep}
use Rattle.moka_parts.specs.Laws.{moment_in}
use Rattle.moka_laws.proofs.Kept.{kept_by_send}

-- no insert and no removal
abbrev pub IsNoWrite : {K V P : Type 0} → Call K V P → Type 0
IsNoWrite (call.Insert key hash value now) = ⊥
IsNoWrite (call.Remove key hash now) = ⊥
IsNoWrite c = Unit {0}

-- no run was made, and only of inserts and removals the listener is told
pub record HasNoRun {K V P : Type 0} (c : Call K V P) (e : Events K V) : Type 0 where
  pub passes : e.passes ≡ None
  pub notices : IsNoWrite c → e.notices ≡ []

module _ {K V P : Type 0} (c : Call K V P) where
  no_notices : (ids : List Uuid) → HasNoRun c (only_ids {K = K} {V = V} ids)
  no_notices ids = record { passes = refl; notices = λ plain. refl }

  no_run : (notices : List (Notice K V)) → (IsNoWrite c → ⊥) → HasNoRun c (only_notices notices)
  no_run notices told = record { passes = refl; notices = λ plain. absurd (told plain) }

-- what holds where a run begins, and what after a call without one
module _ {K V X L P W C I : Type 0} (m : Meaning K V X L P W C I) (Before After : State K V X P W → Type 0) where
  -- it is shown of each state that the call can lead to from this one
  pub record IsKept (s : State K V X P W) (c : Call K V P) : Type 0 where
    pub begins : Before s
    pub left : After s
    pub inserted : (key : K) (hash : ℕ) (value : V) (now : Instant) (w : ℕ) → c ≡ call.Insert key hash value now → is_disabled s.capacity ≡ false → record_of_key m.eq s.records key ≡ None → After (inserted m.created m.updated s key hash value now w)
    pub replaced : (r : Record K V) (key : K) (hash : ℕ) (value : V) (now : Instant) (w : ℕ) → c ≡ call.Insert key hash value now → record_of_key m.eq s.records key ≡ Some r → After (replaced m.created m.updated s r key hash value now w)
    pub removed : (key : K) (hash : ℕ) (now : Option Instant) (r : Record K V) → c ≡ call.Remove key hash now → record_of_key m.eq s.records key ≡ Some r → After (handing_out (record s { records = remove s.records r.number }) (Removal r.number (r.generation + 1)))
    pub sent : (ticket : Ticket) (o : Operation) → c ≡ call.Send ticket → get s.outstanding ticket.0 ≡ Some o → length s.writes < queue_length → After (record s { outstanding = remove s.outstanding ticket.0; writes = s.writes ++ record { ticket = ticket.0; operation = o } ∷ [] })
    pub hit : (key : K) (r : Record K V) (now : ℕ) → moment_in c ≡ Some now → record_of_key m.eq s.records key ≡ Some r → IsVisible m.says s r now → Before (after_hit m.read s r now) × After (after_hit m.read s r now)
    pub hidden : (now : Instant) → c ≡ call.InvalidateAll now → After (record s { invalid_before = Some now })
    pub registered : (p : Registered P) → After (record s { predicates = s.predicates ++ p ∷ [] })
    pub resized : (capacity : Option ℕ) → c ≡ call.SetCapacity capacity → is_disabled s.capacity || is_disabled capacity ≡ false → After (record s { capacity = capacity })
    -- reads and housekeeping do not matter
    pub aside : (t : State K V X P W) (reads : List ReadOperation) (housekeeping : Housekeeping) → After t → After (record t { reads = reads; housekeeping = housekeeping })

module _ {K V X L P W C I : Type 0} (m : Meaning K V X L P W C I) (Runs Others : State K V X P W → Terms → Course → List (Notice K V) → State K V X P W → Type 0) (Before After : State K V X P W → Type 0) where
  -- a run was made, from there and to there; had it been one of the others, the call would be one with these
  pub record HasRun (e : Events K V) (t : State K V X P W) (Again : Type 0) : Type 0 where
    pub from : State K V X P W
    pub terms : Terms
    pub course : Course
    pub mid : State K V X P W
    pub reads : List ReadOperation
    pub housekeeping : Housekeeping
    pub begins : Before from
    pub run : Runs from terms course e.notices mid
    pub events : e ≡ run_events e.notices course
    pub ends : t ≡ record mid { reads = reads; housekeeping = housekeeping }
    pub again : Others from terms course e.notices mid → Again

  -- a run was made, or it holds afterwards
  abbrev pub Ends : Call K V P → Events K V → State K V X P W → Type 0 → Type 0
  Ends c e t Again = HasRun e t Again ⊎ (HasNoRun c e × After t × Again)

  -- without a run
  still : (c : Call K V P) (t u : State K V X P W) (e f : Events K V) (A : Type 0) → e ≡ f → HasNoRun c f → t ≡ u → After u → A → Ends c e t A
  still c t u e f A told none same after again = inr (subst (HasNoRun c) (sym told) none, subst After (sym same) after, again)

  module _ (s : State K V X P W) (c : Call K V P) (kept : IsKept m Before After s c) where
    unchanged : (t : State K V X P W) (e : Events K V) (A : Type 0) → Unchanged s e t → A → Ends c e t A
    unchanged t e A same again = still c t s e no_events A same.1 (no_notices c []) same.0 kept.left again

    -- then other reads and housekeeping
    moved : (t u : State K V X P W) (e : Events K V) (A B : Type 0) (reads : List ReadOperation) (housekeeping : Housekeeping) → t ≡ record u { reads = reads; housekeeping = housekeeping } → (A → B) → Ends c e u A → Ends c e t B
    moved t u e A B reads housekeeping same on (inl h) = inl (record {
      from = h.from;
      terms = h.terms;
      course = h.course;
      mid = h.mid;
      reads = reads;
      housekeeping = housekeeping;
      begins = h.begins;
      run = h.run;
      events = h.events;
      ends = same ∙ ap (λ (x : State K V X P W). record x { reads = reads; housekeeping = housekeeping }) h.ends;
      again = λ other. on (h.again other);
    })
    moved t u e A B reads housekeeping same on (inr (none, after, again)) = inr (none, subst After (sym same) (kept.aside u reads housekeeping after), on again)

    asked_ends : (t : State K V X P W) (terms : Terms) (answer : Bool) (e : Events K V) → RunStep Runs s terms answer e t → Ends c e t (RunStep Others s terms answer e t)
    asked_ends t terms answer e (course, run, is, events) =
        inl (record { from = s; terms = terms; course = course; mid = t; reads = t.reads; housekeeping = t.housekeeping; begins = kept.begins; run = run; events = events; ends = refl; again = λ other. (course, other, is, events) })

    -- the housekeeper's run, if one is due
    due_ends : (u t : State K V X P W) (queued now : ℕ) (e : Events K V) → Before u → After u → RunsIfDue Runs u queued now e t → Ends c e t (RunsIfDue Others u queued now e t)
    due_ends u t queued now e before after step = go (is_due u.housekeeping queued now) step
      where
        go : (b : Bool) → MatchBool b (KeeperRun Runs u now e t) (Unchanged u e t) → Ends c e t (MatchBool b (KeeperRun Others u now e t) (Unchanged u e t))
        go true (answer, mid, (course, run, is, events), same) =
            inl (record { from = u; terms = keeper_terms u.settings now; course = course; mid = mid; reads = mid.reads; housekeeping = after_run_due u.housekeeping u.settings.listening now answer; begins = before; run = run; events = events; ends = same; again = λ other. (answer, mid, (course, other, is, events), same) })
        go false same = still c t u e no_events _ same.1 (no_notices c []) same.0 after same

    -- a read that is recorded
    recorded_ends : (u t : State K V X P W) (now : ℕ) (r : ReadOperation) (e : Events K V) (B : Type 0) → (RecordsRead Others u now r e t → B) → Before u → After u → RecordsRead Runs u now r e t → Ends c e t B
    recorded_ends u t now r e B on before after (mid, run, same) = moved t mid e _ B (queueing mid r).reads mid.housekeeping same (λ other. on (mid, other, same)) (due_ends u mid (length u.reads) now e before after run)

    get_ends : (t : State K V X P W) (key : K) (hash : ℕ) (need_key ignored : Bool) (now : ℕ) (a : Result (Option (Entry K V)) OutOfMemory) (e : Events K V) → moment_in c ≡ Some now → GetStep m.says m.read Runs m.eq s key hash need_key ignored now a e t → Ends c e t (GetStep m.says m.read Others m.eq s key hash need_key ignored now a e t)
    get_ends t key hash need_key ignored now a e moment step = go (is_disabled s.capacity) step
      where
        at : (o : Option (Record K V)) (a : Result (Option (Entry K V)) OutOfMemory) → record_of_key m.eq s.records key ≡ o → GetsAt m.says m.read Runs s o hash need_key ignored now a e t → Ends c e t (GetsAt m.says m.read Others s o hash need_key ignored now a e t)
        at None a found (none, recorded) = recorded_ends s t now (Miss hash) e _ (λ other. (none, other)) kept.begins kept.left recorded
        at (Some r) (Ok None) found (missed, recorded) = recorded_ends s t now (Miss hash) e _ (λ other. (missed, other)) kept.begins kept.left recorded
        at (Some r) (Ok (Some entry)) found (hit, value, k, recorded) =
            let after = kept.hit key r now moment found hit.1 in
            recorded_ends (after_hit m.read s r now) t (hit_at m.read s r now) (hit_operation m.read s r now) e _ (λ other. (hit, value, k, other)) after.0 after.1 recorded
        at (Some r) (Err x) found (hit, same) = unchanged t e _ same (hit, same)

        go : (b : Bool) → MatchBool b ((a ≡ Ok None) × Unchanged s e t) (GetsAt m.says m.read Runs s (record_of_key m.eq s.records key) hash need_key ignored now a e t) →
            Ends c e t (MatchBool b ((a ≡ Ok None) × Unchanged s e t) (GetsAt m.says m.read Others s (record_of_key m.eq s.records key) hash need_key ignored now a e t))
        go true (none, same) = unchanged t e _ same (none, same)
        go false step = at (record_of_key m.eq s.records key) a refl step

    peek_leaves : (t : State K V X P W) (key : K) (ignored : Bool) (now : ℕ) (a : Result (Option V) OutOfMemory) → moment_in c ≡ Some now → PeekStep m.says m.read m.eq s key ignored now a t → After t
    peek_leaves t key ignored now a moment step = go (is_disabled s.capacity) step
      where
        at : (o : Option (Record K V)) (a : Result (Option V) OutOfMemory) → record_of_key m.eq s.records key ≡ o → PeeksAt m.says m.read s o ignored now a t → After t
        at None a found (none, same) = subst After (sym same) kept.left
        at (Some r) (Ok None) found (missed, same) = subst After (sym same) kept.left
        at (Some r) (Ok (Some value)) found (hit, is, same) = subst After (sym same) (kept.hit key r now moment found hit.1).1
        at (Some r) (Err x) found (hit, same) = subst After (sym same) kept.left

        go : (b : Bool) → MatchBool b ((a ≡ Ok None) × (t ≡ s)) (PeeksAt m.says m.read s (record_of_key m.eq s.records key) ignored now a t) → After t
        go true (none, same) = subst After (sym same) kept.left
        go false step = at (record_of_key m.eq s.records key) a refl step

    insert_ends : (t : State K V X P W) (key : K) (hash : ℕ) (value : V) (now : Instant) (a : Result (Ticket × Instant) (InsertRefused K V)) (e : Events K V) (A : Type 0) → c ≡ call.Insert key hash value now → is_disabled s.capacity ≡ false → A → InsertStep m.created m.updated m.weighs m.eq s key hash value now a e t → Ends c e t A
    insert_ends t key hash value now a e A is on again step = go (record_of_key m.eq s.records key) a refl step
      where
        go : (o : Option (Record K V)) (a : Result (Ticket × Instant) (InsertRefused K V)) → record_of_key m.eq s.records key ≡ o → InsertsAt m.created m.updated m.weighs s o key hash value now a e t → Ends c e t A
        go None (Ok a) found (w, weight, free, ticket, moment, same, told) = still c t _ e _ A told (no_notices c []) same (kept.inserted key hash value now w is on found) again
        go (Some r) (Ok a) found (w, weight, free, ticket, moment, same, told) = still c t _ e _ A told (no_run c _ (λ plain. subst IsNoWrite is plain)) same (kept.replaced r key hash value now w is found) again
        go None (Err refused) found (why, same) = unchanged t e A same again
        go (Some r) (Err refused) found (why, same) = unchanged t e A same again

    remove_leaves : (t : State K V X P W) (key : K) (hash : ℕ) (now : Option Instant) (a : Option (KvEntry K V × Ticket)) → c ≡ call.Remove key hash now → RemoveStep m.eq s key a t → After t
    remove_leaves t key hash now a is step = go (record_of_key m.eq s.records key) refl step
      where
        go : (o : Option (Record K V)) → record_of_key m.eq s.records key ≡ o → RemovesAt s o a t → After t
        go None found (none, same) = subst After (sym same) kept.left
        go (Some r) found (some, same) = subst After (sym same) (kept.removed key hash now r is found)

  -- a call makes a run or leaves one of the states; with other runs it would be one of theirs
  pub each_call : (s t : State K V X P W) (c : Call K V P) (r : Reply K V P) (e : Events K V) → IsKept m Before After s c → CallStep m Runs s c r e t → Ends c e t (CallStep m Others s c r e t)
  each_call s t (call.Insert key hash value now) (reply.Insert a) e kept step = insert_ends s _ kept t key hash value now a e _ refl step.0 step step.1
  each_call s t (call.Insert key hash value now) (reply.Disabled k v) e kept step = unchanged s _ kept t e _ step.3 step
  each_call s t (call.Send ticket) (reply.Send a) e kept step = still _ t t e _ _ step.1 (no_notices _ []) refl (kept_by_send After s t kept.left ticket.0 a (λ o there room. kept.sent ticket o refl there room) step.0) step
  each_call s t (call.Get key hash need_key now) (reply.Get a) e kept step = get_ends s _ kept t key hash need_key false now.0 a e refl step
  each_call s t (call.GetUnrecorded key hash now) (reply.GetUnrecorded a) e kept step = still _ t t e _ _ step.1 (no_notices _ []) refl (peek_leaves s _ kept t key false now.0 a refl step.0) step
  each_call s t (call.Contains key hash now) (reply.Contains shown) e kept step = unchanged s _ kept t e _ step.1 step
  each_call s t (call.Key key hash) (reply.Key a) e kept step = unchanged s _ kept t e _ step.1 step
  each_call s t (call.Scan key now) (reply.Scan a) e kept step = unchanged s _ kept t e _ step.1 step
  each_call s t (call.Remove key hash now) (reply.Remove removed told) e kept step = still _ t t e _ _ step.2 (no_run _ e.notices (λ plain. plain)) refl (remove_leaves s _ kept t key hash now removed refl step.0) step
  each_call s t (call.InvalidateAll now) reply.InvalidateAll e kept step = still _ t _ e _ _ step.1 (no_notices _ []) step.0 (kept.hidden now refl) step
  each_call s t (call.InvalidateIf predicate now) (reply.InvalidateIf (Ok id)) e kept step = still _ t _ e _ _ step.1 (no_notices _ e.ids) step.0.3 (kept.registered (record { id = id; predicate = predicate; registered = now })) step
  each_call s t (call.InvalidateIf predicate now) (reply.InvalidateIf (Err refused)) e kept step = still _ t s e _ _ step.1 (no_notices _ e.ids) step.0.2 kept.left step
  each_call s t (call.Run now limit repeats batch) (reply.Run more) e kept step = asked_ends s _ kept t (record { now = now.0; limit = option_map as_nanos limit; batch = batch }) more e step
  each_call s t (call.RunIfDue now) reply.RunIfDue e kept step = due_ends s _ kept s t (length s.writes) now.0 e kept.begins kept.left step
  each_call s t call.DisableAutoRun reply.DisableAutoRun e kept step = still _ t _ e _ _ step.1 (no_notices _ []) step.0 (kept.aside s s.reads (without_automatic s.housekeeping) kept.left) step
  each_call s t (call.Keys segment) (reply.Keys (Ok (Some keys))) e kept step = unchanged s _ kept t e _ step.1 step
  each_call s t (call.Keys segment) (reply.Keys (Ok None)) e kept step = unchanged s _ kept t e _ step.1 step
  each_call s t (call.Keys segment) (reply.Keys (Err refused)) e kept step = unchanged s _ kept t e _ step.1 step
  each_call s t call.Report (reply.Report count weight predicates) e kept step = unchanged s _ kept t e _ step.3 step
  each_call s t call.Pending (reply.Pending handed oldest writes reads) e kept step = unchanged s _ kept t e _ step.4 step
  each_call s t (call.SetCapacity capacity) (reply.SetCapacity (Ok x)) e kept step = still _ t _ e _ _ step.1 (no_notices _ []) step.0.1 (kept.resized capacity refl step.0.0) step
  each_call s t (call.SetCapacity capacity) (reply.SetCapacity (Err refused)) e kept step = still _ t s e _ _ step.1 (no_notices _ []) step.0.1 kept.left step
  each_call s t c r e kept step = absurd step

module _ {K V X L P W C I : Type 0} (m : Meaning K V X L P W C I) (Runs : State K V X P W → Terms → Course → List (Notice K V) → State K V X P W → Type 0) (Before After : State K V X P W → Type 0) where
  -- it holds after any call, where it does after each run
  pub kept_by_call : ((s : State K V X P W) (terms : Terms) (course : Course) (notices : List (Notice K V)) (t : State K V X P W) → Before s → Runs s terms course notices t → After t) →
      (s t : State K V X P W) (c : Call K V P) (r : Reply K V P) (e : Events K V) → IsKept m Before After s c → CallStep m Runs s c r e t → After t
  kept_by_call ran s t c r e kept step = elim (each_call m Runs Runs Before After s t c r e kept step) [
    | inl h ↦ subst After (sym h.ends) (kept.aside h.mid h.reads h.housekeeping (ran h.from h.terms h.course e.notices h.mid h.begins h.run))
    | inr (none, after, again) ↦ after
  ]
