-- What applying the queues and the passes make of a state is a run of the reference cache that keeps its promises.
use Rattle.std.proofs.Common.{◌≡◌, refl, ℕ, ◌+◌, ◌-◌, ◌*◌, ◌/◌, ◌<◌, ◌≤◌, ◌++◌, Bool, true, false, true≢false, not, ◌==◌, ◌&&◌, ◌||◌, List, [], ◌∷◌, length, ◌⊎◌, inl, inr, Option, Some, None, is_some, ap, sym, subst, ◌∙◌, arith, append-nil, append_assoc, eqb→eq, if◌then◌else◌, length-append}
use Rattle.std.proofs.lemmas.Bool.{or_parts, or_right}
use Rattle.std.specs.Bool.{passes}
use Rattle.std.specs.Prelude.{Contains, take}
use Rattle.std.specs.List.{list_any}
use Rattle.std.specs.Duration.{as_nanos}
use Rattle.std.specs.FinMap.{get, len}
use Rattle.moka_parts.specs.declared.notification.RemovalCause.{RemovalCause}
use Rattle.moka_records.specs.declared.instant.Instant.{Instant}
use Rattle.moka_records.specs.declared.records.Record.{Record}
use Rattle.moka_records.specs.declared.records.Member.{Member}
use Rattle.moka_parts.specs.declared.records.Registered.{Registered}
use Rattle.moka_records.specs.declared.records.Operation.{Operation}
use Rattle.moka_records.specs.declared.records.Operation.TheVariants.{Upsert}
use Rattle.moka_parts.specs.Visibility.{NoneCovers, SomeCovers, is_expired}
use Rattle.moka_records.specs.Records.{Records, is_applied, is_settled, is_member, counted_of, numbers_of, settled_members, total_weight}
use Rattle.moka_parts.specs.Notices.{when_listening}
use Rattle.moka_parts.specs.State.{State, Contents, with_contents, is_disabled, keeps_write_list}
use Rattle.moka_parts.specs.Surroundings.{Heard}
use Rattle.moka_parts.specs.Writes.{left_by_writes}
use Rattle.moka_parts.specs.Candidates.{prefix}
use Rattle.moka_parts.specs.Maintenance as parts
use Rattle.moka_parts.specs.Maintenance.{Choice, Terms, Course, Freedom, after_choices, left_by_choices, after_queued_reads, before_steps, at_end, after_run, left_in_run, is_over, is_cut, is_late, is_timed, tests_of, kept_by_choices, AreJustified, AreFree, with_sketch}
use Rattle.moka_parts.specs.Bounds.{removed_by, IsPlainSurplus, EndsSweep, IsBounded}
use Rattle.moka_parts.specs.Exact.{IsExact, IsWithin}
use Rattle.moka_parts.specs.Settling.{IsAllSent, IsWaitingIn, IsWhole, IsConsistent, IsConsistentState, IsSound, IsValid, LeavesBehind, NeverRenewsOnRead, Settles, leaves_more_idle}
use Rattle.moka_parts.specs.Listed.{LeavesList, ListedRun}
use Rattle.moka_parts.specs.Order.{IsAtRestByWrite, write_list_at_end, write_list_before_steps, written_after_choices, written_after_writes}
use Rattle.moka_parts.specs.Grounds.{AreDrops, FollowsGrounds, IsAtRestByRead, grounds_of}
use Rattle.moka_records.proofs.Maps.{same_by_order}
use Rattle.moka_records.proofs.Options.{mapped_is_some}
use Rattle.moka_laws.proofs.RunKeeps.{run_keeps}
use Rattle.moka_laws.proofs.RunKeepsSound.{run_kept}
use Rattle.moka_laws.proofs.StepsKeep.{run_valid}
use Rattle.moka_parts.proofs.Counting.{exact_count}
use Rattle.moka_laws.proofs.Dropped.{covering_stays}
use Rattle.moka_laws.proofs.OneMore.{removed_by_append}
use Rattle.moka_laws.proofs.AtEnd.{exact_when_nothing_waits, nothing_waits, all_settled, count_is_near, run_is_exact}
use Rattle.moka_laws.proofs.RunReturns.{IsPromised}
use Rattle.moka_laws.proofs.Surplus.{removes_enough, removes_first, removes_for_size_alone, leaves_settled}
use Rattle.moka_maintenance.specs.declared.sweep.Tests.{Tests}
use Rattle.moka_maintenance.specs.declared.sweep.Sweep.{Sweep}
use Rattle.moka_maintenance.specs.declared.sweep.Sweep.TheVariants.{Written, Read, Surplus}
use Rattle.moka_maintenance.specs.Steps.{Stock, after_steps, MayLeave, MayRun, MayAll, HasUnsettled, Told, makes_room}
use Rattle.moka_maintenance.specs.Admission.{ArePrepared, AreApplied}
use Rattle.moka_maintenance.specs.Sweep.{tests_in, sweeps_writes, IsAtRest, IsDone}
use Rattle.moka_maintenance.specs.Passes.{IsRan, HasSwept}
use Rattle.moka_maintenance.proofs.Told.{told_same, told-on}
use Rattle.moka_maintenance.proofs.Dropping.{choices-append, drops_remove_none, drops_silent, drops_stay, drops_unlisted, gone-append, kept-append, written-append}
use Rattle.moka_maintenance.proofs.Fewer.{len-fewer}
use Rattle.moka_maintenance.proofs.Scanned.{drops_later, justified-append, nothing_kept}
use Rattle.moka_maintenance.proofs.Stepped.{may-also, may-second, run_leaves, steps-append, unsettled-steps}
use Rattle.moka_maintenance.proofs.Seen.{stock_of, steps-seen, led-seen, listed-seen, left-seen, steps_justified, steps_keep_predicates}
use Rattle.moka_maintenance.proofs.Grounded.{grounds-also}
use Rattle.moka_maintenance.proofs.PassSteps.{both_make_room}

-- ---- small facts

not_empty : {A : Type 0} (xs : List A) → xs ≡ [] → 0 < length xs → ⊥
not_empty xs none h = let e = ap length none in absurd (omega arith)

not_contained : {A : Type 0} (xs : List A) (x : A) → xs ≡ [] → Contains xs x → ⊥
not_contained xs x none h = let h' = subst (λ ys. Contains ys x) none h in let below : h'.0 < 0 = h'.1 in absurd (omega arith)

-- a member that is not settled is found
some_unsettled : {K V : Type 0} (records : Records K V) (access : List Member) (n : ℕ) → is_member n access ≡ true → is_settled records n ≡ false → list_any (λ a. not (is_settled records a.number)) access ≡ true
some_unsettled records [] n there waiting = cc
some_unsettled records (a ∷ access) n there waiting = at (λ later. some_unsettled records access n later waiting) (a.number == n) refl there
  where
    at : (is_member n access ≡ true → list_any (λ a. not (is_settled records a.number)) access ≡ true) → (b : Bool) → (a.number == n) ≡ b → is_some (if b then Some a.counted else counted_of n access) ≡ true → (not (is_settled records a.number) || list_any (λ a. not (is_settled records a.number)) access) ≡ true
    at later true same there = ap (λ k. not (is_settled records k) || list_any (λ a. not (is_settled records a.number)) access) (eqb→eq a.number n (passes _ same)) ∙ ap (λ b. not b || list_any (λ a. not (is_settled records a.number)) access) waiting
    at later false same there = or_right (not (is_settled records a.number)) (list_any (λ a. not (is_settled records a.number)) access) (later there)

-- where nothing waits, a record in the map is a settled member
record_settled : {K V : Type 0} (Waits : Operation → Type 0) (none : (o : Operation) → Waits o → ⊥) (k : ℕ) (r : Record K V) (counted : Option ℕ) → IsSound Waits k (Some r) counted → (is_some counted ≡ true) × (is_applied r ≡ true)
record_settled Waits none k r None s = let p = s.pending (s.outside refl) in absurd (none (Upsert k r.generation r.weight p.0) p.1)
record_settled Waits none k r (Some w) s = (refl, same_by_order r.applied r.generation s.applied (λ below. let p = s.pending below in none (Upsert k r.generation r.weight p.0) p.1))

-- the tests that leave more with a batch of 0
joined : (live idle invalid over a b c d : Bool) → live ≡ a → idle ≡ b → invalid ≡ c → over ≡ d → ((live || idle || invalid) || over) ≡ (a || b || c || d)
joined live idle invalid over a b c d e f g h = rw (e, f, g, h) refl

-- what is told by the limit of a run that has one only where a listener is set
where_listening : (test : Option ℕ → Bool) → test None ≡ false → (b : Bool) (limit : Option ℕ) → (b && test limit) ≡ test (if b then limit else None)
where_listening test none true limit = refl
where_listening test none false limit = sym none

-- where no member is settled, none is found
no_settled : {K V : Type 0} (records : Records K V) (access : List Member) → settled_members records access ≡ [] → list_any (λ a. is_settled records a.number) access ≡ false
no_settled records [] none = refl
no_settled records (a ∷ access) none = go (is_settled records a.number) none (no_settled records access)
  where
    go : (b : Bool) → (if b then a ∷ settled_members records access else settled_members records access) ≡ [] → (settled_members records access ≡ [] → list_any (λ a. is_settled records a.number) access ≡ false) → (b || list_any (λ a. is_settled records a.number) access) ≡ false
    go true none later = cc
    go false none later = later none

-- whether predicates cover records is the same with another sketch
drops_sketched : {K V P : Type 0} (says : P → K → V → Bool → Type 0) (q : parts.Tests) (c d : Contents K V) → c.records ≡ d.records → (ps : List (Registered P)) (xs : List Choice) → AreDrops xs → AreJustified says q c ps xs → AreJustified says q d ps xs
drops_sketched says q c d same ps xs drops are = drops_later says c d (λ n r at. ap (λ rs. get rs n) same ∙ at) ps xs drops q are

-- ---- the run

-- what a run asks to know of a state
pub record IsSimple {K V X P W : Type 0} (s : State K V X P W) : Type 0 where
  pub enabled : is_disabled s.capacity ≡ false
  -- without support for predicates none is registered
  pub unsupported : s.settings.invalidator ≡ false → s.predicates ≡ []
  pub consistent : IsConsistentState s

module _ {K V X P W L C : Type 0} {tells : L → K → V → RemovalCause → L → Type 0} {reads : C → Instant → C → Type 0} (s : State K V X P W) (simple : IsSimple s) (terms : Terms) {q : Tests} (by_state : tests_in q ≡ tests_of s terms.now)
    {b c d : Contents K V} {ordered : Bool} (kept : ordered ≡ keeps_write_list s.settings) {ns ms ks : List ℕ} {l m n : Option L} (begins : b ≡ after_queued_reads s) (prepared_with : ArePrepared tells s.capacity s.settings.policy ordered (is_some s.settings.weigher) b c ns ms s.writes l m)
    {says : P → K → V → Bool → Type 0} {qs : List (Registered P)} {limit : Option ℕ} {batch : ℕ} {clock clock_after : C} {passes : ℕ} {left : Bool} (limited : limit ≡ (if s.settings.listening then terms.limit else None)) (batched : batch ≡ terms.batch) (sketched : d.sketch ≡ c.sketch) {OnTime : Type 0}
    (ran_by : IsRan tells says q reads limit batch ordered OnTime s.predicates qs (stock_of c ms) (stock_of d ks) m n clock clock_after passes left) where
  -- the premises in terms of the state
  prepared : ArePrepared tells s.capacity s.settings.policy (keeps_write_list s.settings) (is_some s.settings.weigher) (after_queued_reads s) c ns ms s.writes l m
  prepared =
      subst (λ o. ArePrepared tells s.capacity s.settings.policy o (is_some s.settings.weigher) (after_queued_reads s) c ns ms s.writes l m) kept
      (subst (λ b. ArePrepared tells s.capacity s.settings.policy ordered (is_some s.settings.weigher) b c ns ms s.writes l m) begins prepared_with)

  abbrev applied : AreApplied tells s.capacity s.settings.policy (keeps_write_list s.settings) (after_queued_reads s) prepared.between ns ms s.writes l m
  applied = prepared.applied

  abbrev limit_here : Option ℕ
  limit_here = if s.settings.listening then terms.limit else None

  ran : IsRan tells says q reads limit_here terms.batch (keeps_write_list s.settings) OnTime s.predicates qs (stock_of c ms) (stock_of d ks) m n clock clock_after passes left
  ran =
      subst (λ o. IsRan tells says q reads limit_here terms.batch o OnTime s.predicates qs (stock_of c ms) (stock_of d ks) m n clock clock_after passes left) kept
      (subst (λ o. IsRan tells says q reads o terms.batch ordered OnTime s.predicates qs (stock_of c ms) (stock_of d ks) m n clock clock_after passes left) limited (subst (λ k. IsRan tells says q reads limit k ordered OnTime s.predicates qs (stock_of c ms) (stock_of d ks) m n clock clock_after passes left) batched ran_by))

  -- what the run chose
  abbrev choices : Freedom
  choices = record { moves = applied.moves; is_short = prepared.is_short; steps = ran.by.steps ++ ran.dropped.steps }

  -- how it went
  abbrev course : Course
  course = record { answer = left; readings = ran.readings; passes = passes }

  -- the state that it leaves
  abbrev pub left_state : State K V X P W
  left_state = with_contents s d qs

  before_same : before_steps s choices ≡ c
  before_same = sym (prepared.enabled ∙ ap (with_sketch s.capacity s.settings.policy (is_some s.settings.weigher) prepared.is_short) applied.led)

  end_same : at_end s choices ≡ d
  end_same =
      ap (λ c. after_choices c (ran.by.steps ++ ran.dropped.steps)) before_same ∙ choices-append c ran.by.steps ran.dropped.steps ∙ ap (λ c. after_choices c ran.dropped.steps) (sym (led-seen c d ms ks ran.by.steps ran.by.led sketched))
      ∙ drops_stay d ran.dropped.steps ran.dropped.drops

  each_leaves : MayAll MayLeave (stock_of c ms) ran.by.steps
  each_leaves = may-also (MayRun says s.predicates (tests_in q)) MayLeave (run_leaves (tests_in q) says s.predicates) (stock_of c ms) ran.by.steps ran.by.may

  kept_same : kept_by_choices s.predicates (ran.by.steps ++ ran.dropped.steps) ≡ qs
  kept_same = kept-append s.predicates ran.by.steps ran.dropped.steps ∙ ap (λ ps. kept_by_choices ps ran.dropped.steps) (steps_keep_predicates s.predicates (stock_of c ms) ran.by.steps each_leaves) ∙ sym ran.dropped.kept

  removed_same : removed_by (ran.by.steps ++ ran.dropped.steps) ≡ removed_by ran.by.steps
  removed_same = removed_by_append ran.by.steps ran.dropped.steps ∙ ap (λ ns. removed_by ran.by.steps ++ ns) (drops_remove_none ran.dropped.steps ran.dropped.drops) ∙ append-nil (removed_by ran.by.steps)

  -- it is the reference cache's
  run_same : after_run s choices ≡ left_state
  run_same = ap (with_contents s (at_end s choices)) kept_same ∙ ap (λ c. with_contents s c qs) end_same

  -- afterwards only what was not sent waits
  end_consistent : IsConsistentState left_state
  end_consistent = subst IsConsistentState run_same (run_kept s choices simple.consistent)

  -- the state is as valid as before
  pub run_leaves_valid : (eq : K → K → Bool) → IsValid eq s → IsValid eq left_state
  run_leaves_valid eq valid = subst (IsValid eq) run_same (run_valid eq s choices simple.enabled valid)

  -- where no record has an expiry of its own, none has one
  pub run_leaves_lasting : ((k : ℕ) (r : Record K V) → get s.records k ≡ Some r → r.expires ≡ None) → (k : ℕ) (r : Record K V) → get d.records k ≡ Some r → r.expires ≡ None
  run_leaves_lasting lasting k r there =
      let old = run_keeps s choices k r (ap (λ (c : Contents K V). get c.records k) end_same ∙ there) in
      ap (λ (q : Record K V). q.expires) {y = record old.0 { applied = old.2.0 }} old.2.1 ∙ lasting k old.0 old.1

  -- what the run chose of its queues
  abbrev begun : Freedom
  begun = record { moves = applied.moves; is_short = prepared.is_short; steps = [] }

  -- nor has one before the steps
  pub queues_leave_lasting : ((k : ℕ) (r : Record K V) → get s.records k ≡ Some r → r.expires ≡ None) → (k : ℕ) (r : Record K V) → get c.records k ≡ Some r → r.expires ≡ None
  queues_leave_lasting lasting k r there =
      let old = run_keeps s begun k r (ap (λ (e : Contents K V). get e.records k) before_same ∙ there) in
      ap (λ (q : Record K V). q.expires) {y = record old.0 { applied = old.2.0 }} old.2.1 ∙ lasting k old.0 old.1

  -- once everything was sent, the report is exact, whatever the batch
  pub run_leaves_exact : IsAllSent s → IsExact left_state
  run_leaves_exact all = subst IsExact run_same (run_is_exact s choices simple.consistent all)

  cut_late : is_cut s.settings terms course ≡ is_late limit_here ran.readings
  cut_late = where_listening (λ o. is_late o ran.readings) refl s.settings.listening terms.limit

  timed_limited : is_timed s.settings terms ≡ is_some limit_here
  timed_limited = where_listening is_some refl s.settings.listening terms.limit

  -- the run was not cut, and makes steps
  abbrev IsUncut : Type 0
  IsUncut = (is_late limit_here ran.readings ≡ false) × (1 ≤ terms.batch)

  uncut : IsWhole s terms course → IsUncut
  uncut whole = (sym cut_late ∙ whole.0, whole.1)

  -- where a predicate is left, they are supported, and the order of writing is kept
  order_kept : 0 < length qs → keeps_write_list s.settings ≡ true
  order_kept some = go s.settings.invalidator refl
    where
      go : (b : Bool) → s.settings.invalidator ≡ b → keeps_write_list s.settings ≡ true
      go true is = or_right (is_some s.settings.time_to_live) s.settings.invalidator is
      go false is = absurd (not_empty qs (nothing_kept s.predicates qs ran.dropped.steps (simple.unsupported is) ran.dropped.drops ran.dropped.kept) some)

  same_capacity : q.capacity ≡ s.capacity
  same_capacity = ap (λ (t : parts.Tests). t.capacity) by_state

  at_rest : IsWhole s terms course → HasUnsettled (stock_of d ks) ⊎ IsWithin s.capacity d.access
  at_rest whole = elim (ran.rest (sym cut_late ∙ whole.0) whole.1) [
    | inl some ↦ inl some
    | inr within ↦ inr (subst (λ o. IsWithin o d.access) same_capacity within)
  ]

  idle_by_state : (sweeps_writes q || is_over q.capacity d.access) ≡ leaves_more_idle left_state
  idle_by_state =
      let live : is_some q.time_to_live ≡ is_some s.settings.time_to_live = sym (mapped_is_some as_nanos q.time_to_live) ∙ ap (λ (t : parts.Tests). is_some t.time_to_live) by_state in
      let idle : is_some q.time_to_idle ≡ is_some s.settings.time_to_idle = sym (mapped_is_some as_nanos q.time_to_idle) ∙ ap (λ (t : parts.Tests). is_some t.time_to_idle) by_state in
      let invalid : is_some q.valid_after ≡ is_some s.invalid_before = ap (λ (t : parts.Tests). is_some t.invalid_before) by_state in
      joined (is_some q.time_to_live) (is_some q.time_to_idle) (is_some q.valid_after) (is_over q.capacity d.access) (is_some s.settings.time_to_live) (is_some s.settings.time_to_idle) (is_some s.invalid_before) (is_over s.capacity d.access)
      live idle invalid (ap (λ o. is_over o d.access) same_capacity)

  leaves : LeavesBehind s terms course left_state
  leaves =
      let near = count_is_near s.outstanding d.records d.access end_consistent in
      record {
        within = λ whole. elim (at_rest whole) [
          | inl some ↦ inr (some_unsettled d.records d.access some.number some.is_in some.unsettled)
          | inr within ↦ inl within
        ];
        cut = λ cut. ran.cut (sym cut_late ∙ cut);
        more = λ whole is. ran.whole (sym cut_late ∙ whole.0) whole.1 is;
        unfinished = λ whole some settled. elim (ran.unfinished (order_kept some) (sym cut_late ∙ whole.0) whole.1 some) [ inl is ↦ is | inr none ↦ absurd (true≢false (sym settled ∙ no_settled d.records d.access none)) ];
        idle = λ enabled none. ran.idle none ∙ idle_by_state;
        count_high = near.0;
        count_low = near.1;
      }

  -- once everything was sent, no member is unsettled
  none_unsettled : IsAllSent s → HasUnsettled (stock_of d ks) → ⊥
  none_unsettled all some = true≢false (sym (all_settled (IsWaitingIn s.outstanding []) d.records d.access end_consistent (nothing_waits s.outstanding all) some.number some.is_in) ∙ some.unsettled)

  -- and each record is a settled member
  run_settles_each : IsAllSent s → (k : ℕ) (r : Record K V) → get d.records k ≡ Some r → (is_member k d.access ≡ true) × (is_applied r ≡ true)
  run_settles_each all k r there = record_settled (IsWaitingIn s.outstanding []) (nothing_waits s.outstanding all) k r (counted_of k d.access) (subst (λ o. IsSound (IsWaitingIn s.outstanding []) k o (counted_of k d.access)) there (end_consistent.sound k))

  -- ---- the write list

  list_before : keeps_write_list s.settings ≡ true → ms ≡ write_list_before_steps s ns choices
  list_before kept = applied.listed kept ∙ ap (λ b. written_after_writes b s.capacity s.settings.policy (after_queued_reads s) ns s.writes applied.moves) (sym kept)

  list_after : keeps_write_list s.settings ≡ true → ks ≡ write_list_at_end s ns choices
  list_after kept =
      listed-seen c d ms ks ran.by.steps ran.by.led ∙ ap (λ xs. written_after_choices xs ran.by.steps) (list_before kept)
      ∙ sym (drops_unlisted (written_after_choices (write_list_before_steps s ns choices) ran.by.steps) ran.dropped.steps ran.dropped.drops) ∙ sym (written-append (write_list_before_steps s ns choices) ran.by.steps ran.dropped.steps)

  -- a sweep of the last pass stands after some of the run's steps, and unsettled members do not end it
  split_all : (first second : List Choice) → ran.by.steps ≡ first ++ second → ran.by.steps ++ ran.dropped.steps ≡ first ++ (second ++ ran.dropped.steps)
  split_all first second split = ap (λ xs. xs ++ ran.dropped.steps) split ∙ append_assoc first second ran.dropped.steps

  -- what is left after the first steps, as the passes see it
  seen_after : (first : List Choice) → stock_of (after_choices (before_steps s choices) first) (written_after_choices ms first) ≡ after_steps (stock_of c ms) first
  seen_after first = ap (λ b. stock_of (after_choices b first) (written_after_choices ms first)) before_same ∙ sym (steps-seen c ms first)

  -- once everything was sent, no member is unsettled after some of the steps either
  none_between : IsAllSent s → (first second : List Choice) → ran.by.steps ≡ first ++ second → HasUnsettled (after_steps (stock_of c ms) first) → ⊥
  none_between all first second split some =
      let may = may-second MayLeave (stock_of c ms) first second (subst (MayAll MayLeave (stock_of c ms)) split each_leaves) in
      let last = unsettled-steps (after_steps (stock_of c ms) first) second may some in
      let same : after_steps (after_steps (stock_of c ms) first) second ≡ stock_of d ks = sym (steps-append (stock_of c ms) first second) ∙ sym (ap (after_steps (stock_of c ms)) split) ∙ sym ran.by.led in
      none_unsettled all (subst (λ e. HasUnsettled e) same last)

  -- where the sweep of the last pass ended, as the reference cache tells it
  ended : (sweep : Sweep) (Rests : Contents K V → Type 0) (at : HasSwept q sweep terms.batch (stock_of c ms) ran.by.steps IsUncut) → (IsAtRest q sweep (after_steps (stock_of c ms) at.first) → Rests (after_choices (before_steps s choices) at.first))
      → (s.predicates ≡ [] → IsDone q sweep (passes * terms.batch) (length at.first) (after_steps (stock_of c ms) at.first)) → EndsSweep s terms course Rests (after_choices (before_steps s choices) at.first) (length at.first)
  ended sweep Rests at rests each = record {
    used = spent terms.batch at.done;
    all_used = λ none. spent (passes * terms.batch) (each none);
    rest = λ whole settled. elim (at.rest (uncut whole)) [
      | inl some ↦ absurd (none_left some settled)
      | inr rest ↦ rests rest
    ];
  }
    where
      after : Contents K V
      after = after_choices (before_steps s choices) at.first

      spent : (turns : ℕ) → IsDone q sweep turns (length at.first) (after_steps (stock_of c ms) at.first) → Rests after ⊎ ((settled_members after.records after.access ≡ []) ⊎ (turns ≤ length at.first))
      spent turns (inl stopped) = inl (rests stopped.0)
      spent turns (inr (inl none)) = inr (inl (subst (λ (e : Stock K V). settled_members e.contents.records e.contents.access ≡ []) (sym (seen_after at.first)) none))
      spent turns (inr (inr all)) = inr (inr all)

      none_left : HasUnsettled (after_steps (stock_of c ms) at.first) → IsAllSent s ⊎ (list_any (λ a. not (is_settled after.records a.number)) after.access ≡ false) → ⊥
      none_left some (inl all) = none_between all at.first at.second at.split some
      none_left some (inr none) =
          let there = subst (λ (e : Stock K V). HasUnsettled e) (sym (seen_after at.first)) some in
          true≢false (sym (some_unsettled after.records after.access there.number there.is_in there.unsettled) ∙ none)

  -- at rest by the write list
  written_front : keeps_write_list s.settings ≡ true → (first : List Choice) → IsAtRest q Written (after_steps (stock_of c ms) first) → IsAtRestByWrite (tests_of s terms.now) (after_choices (before_steps s choices) first).records (written_after_choices (write_list_before_steps s ns choices) first)
  written_front kept first rest =
      subst (λ t. IsAtRestByWrite t (after_choices (before_steps s choices) first).records (written_after_choices (write_list_before_steps s ns choices) first)) by_state
      (subst (λ xs. IsAtRestByWrite (tests_in q) (after_choices (before_steps s choices) first).records (written_after_choices xs first)) (list_before kept)
      (subst (λ (e : Stock K V). IsAtRestByWrite (tests_in q) e.contents.records e.written) (sym (seen_after first)) rest))

  -- where the last sweep by it ended
  writes_ended : keeps_write_list s.settings ≡ true → (first second : List Choice) × (ran.by.steps ++ ran.dropped.steps ≡ first ++ second)
      × EndsSweep s terms course (λ e. IsAtRestByWrite (tests_of s terms.now) e.records (written_after_choices (write_list_before_steps s ns choices) first)) (after_choices (before_steps s choices) first) (length first)
  writes_ended kept =
      let swept = ran.writes_swept in
      let Rests : Contents K V → Type 0 = λ e. IsAtRestByWrite (tests_of s terms.now) e.records (written_after_choices (write_list_before_steps s ns choices) swept.first) in
      (swept.first, swept.second ++ ran.dropped.steps, split_all swept.first swept.second swept.split, ended Written Rests swept (written_front kept swept.first) ran.writes_turned)

  -- and by the access list
  read_front : (first : List Choice) → IsAtRest q Read (after_steps (stock_of c ms) first) → IsAtRestByRead (tests_of s terms.now) (after_choices (before_steps s choices) first)
  read_front first rest =
      subst (λ t. IsAtRestByRead t (after_choices (before_steps s choices) first)) by_state
      (subst (λ (e : Stock K V). IsAtRest q Read e) (sym (seen_after first)) rest)

  reads_ended : (first second : List Choice) × (ran.by.steps ++ ran.dropped.steps ≡ first ++ second) × EndsSweep s terms course (IsAtRestByRead (tests_of s terms.now)) (after_choices (before_steps s choices) first) (length first)
  reads_ended =
      let swept = ran.reads_swept in
      (swept.first, swept.second ++ ran.dropped.steps, split_all swept.first swept.second swept.split, ended Read (IsAtRestByRead (tests_of s terms.now)) swept (read_front swept.first) ran.reads_turned)

  -- the surplus is swept last, and dropping predicates changes nothing of it
  surplus_ended : EndsSweep s terms course (λ e. IsWithin s.capacity e.access) (at_end s choices) (length (ran.by.steps ++ ran.dropped.steps))
  surplus_ended = record {
    used = spent terms.batch ran.used.0;
    all_used = λ none. spent (passes * terms.batch) (ran.used.1 none);
    rest = λ whole settled. elim (at_rest whole) [
      | inl some ↦ absurd (none_left some settled)
      | inr within ↦ subst (λ (e : Contents K V). IsWithin s.capacity e.access) (sym end_same) within
    ];
  }
    where
      spent : (turns : ℕ) → IsDone q Surplus turns (length ran.by.steps) (stock_of d ks) → IsWithin s.capacity (at_end s choices).access ⊎ ((settled_members (at_end s choices).records (at_end s choices).access ≡ []) ⊎ (turns ≤ length (ran.by.steps ++ ran.dropped.steps)))
      spent turns (inl stopped) = inl (subst (λ (e : Contents K V). IsWithin s.capacity e.access) (sym end_same) (subst (λ o. IsWithin o d.access) same_capacity stopped.0))
      spent turns (inr (inl none)) = inr (inl (subst (λ (e : Contents K V). settled_members e.records e.access ≡ []) (sym end_same) none))
      spent turns (inr (inr all)) = inr (inr (let both = length-append ran.by.steps ran.dropped.steps in omega arith))

      none_left : HasUnsettled (stock_of d ks) → IsAllSent s ⊎ (list_any (λ a. not (is_settled (at_end s choices).records a.number)) (at_end s choices).access ≡ false) → ⊥
      none_left some (inl all) = none_unsettled all some
      none_left some (inr none) =
          let settled = subst (λ (e : Contents K V). list_any (λ a. not (is_settled e.records a.number)) e.access ≡ false) end_same none in
          true≢false (sym (some_unsettled d.records d.access some.number some.is_in some.unsettled) ∙ settled)

  leaves_list : LeavesList ns ks s terms choices course
  leaves_list = record { list = list_after; swept = writes_ended }

  module _ (read : X → K → V → ℕ → Option ℕ → ℕ → Option ℕ) (on_time : NeverRenewsOnRead read s → OnTime) (lasts : NeverRenewsOnRead read s → (k : ℕ) (r : Record K V) → get d.records k ≡ Some r → is_member k d.access ≡ true → is_applied r ≡ true → is_expired r terms.now ≡ false) where
    justified : AreJustified says (tests_of s terms.now) (before_steps s choices) s.predicates (ran.by.steps ++ ran.dropped.steps)
    justified =
        subst (λ t. AreJustified says t (before_steps s choices) s.predicates (ran.by.steps ++ ran.dropped.steps)) by_state
        (subst (λ b. AreJustified says (tests_in q) b s.predicates (ran.by.steps ++ ran.dropped.steps)) (sym before_same)
        (justified-append says (tests_in q) c s.predicates ran.by.steps ran.dropped.steps (steps_justified (tests_in q) says s.predicates c ms ran.by.steps ran.by.may)
        (subst (λ ps. AreJustified says (tests_in q) (after_choices c ran.by.steps) ps ran.dropped.steps) (sym (steps_keep_predicates s.predicates (stock_of c ms) ran.by.steps each_leaves))
        (drops_sketched says (tests_in q) (stock_of d ks).contents (after_choices c ran.by.steps) (ap (λ (e : Contents K V). e.records) (led-seen c d ms ks ran.by.steps ran.by.led sketched)) s.predicates ran.dropped.steps ran.dropped.drops (ran.dropped.justified (tests_in q))))))

    is_free : AreFree says s terms.now choices
    is_free = (applied.may, justified)

    -- once everything was sent, the steps begin with settled members alone
    begun_consistent : IsConsistent (IsWaitingIn s.outstanding []) c.records c.access
    begun_consistent = subst (λ (e : Contents K V). IsConsistent (IsWaitingIn s.outstanding []) e.records e.access) before_same (run_kept s begun simple.consistent)

    members_at_first : IsAllSent s → (k : ℕ) (r : Record K V) → get c.records k ≡ Some r → (is_applied r ≡ true) × (is_member k c.access ≡ true)
    members_at_first all k r there =
        let is = record_settled (IsWaitingIn s.outstanding []) (nothing_waits s.outstanding all) k r (counted_of k c.access) (subst (λ o. IsSound (IsWaitingIn s.outstanding []) k o (counted_of k c.access)) there (begun_consistent.sound k)) in
        (is.1, is.0)

    few_members : IsAllSent s → len s.records ≤ terms.batch → length c.access ≤ terms.batch
    few_members all enough =
        let count = exact_count c.records c.access (exact_when_nothing_waits (IsWaitingIn s.outstanding []) c.records c.access begun_consistent (nothing_waits s.outstanding all)) in
        let less = len-fewer s.records c.records (record { key = λ k r there. (let old = run_keeps s begun k r (ap (λ (e : Contents K V). get e.records k) before_same ∙ there) in (old.0, old.1)) }) in
        omega arith

    -- with a batch for all records, no predicate is left
    no_predicate : IsAllSent s → len s.records ≤ terms.batch → qs ≡ []
    no_predicate all enough = go (keeps_write_list s.settings) refl
      where
        go : (b : Bool) → keeps_write_list s.settings ≡ b → qs ≡ []
        go true kept = ran.predicates kept (few_members all enough) (λ k r there. members_at_first all k r there)
        go false none = nothing_kept s.predicates qs ran.dropped.steps (simple.unsupported (or_parts (is_some s.settings.time_to_live) s.settings.invalidator none).1) ran.dropped.drops ran.dropped.kept

    settles : Settles says read s terms course left_state
    settles = record {
      settled = λ never k r there is_in up_to_date. lasts never k r there is_in up_to_date;
      exact = λ all. run_leaves_exact all;
      within = λ whole all. elim (at_rest whole) [ inl some ↦ absurd (none_unsettled all some) | inr within ↦ within ];
      expired = λ all never k r there. let each = run_settles_each all k r there in lasts never k r there each.0 each.1;
      predicates = λ all enabled enough. no_predicate all enough;
      covered = λ all enough p k r is there covers. not_contained qs p (no_predicate all enough) (subst (λ ps. Contains ps p) kept_same (covering_stays says s terms.now choices is_free p k r is (ap (λ (c : Contents K V). get c.records k) end_same ∙ there) covers));
    }

    module _ (capacity : ℕ) (plain : IsPlainSurplus s terms.now capacity (before_steps s choices)) where
      -- a surplus is removed from the front, and nothing else
      just_surplus : IsWhole s terms course → (front : List Member) × (prefix (before_steps s choices).access (total_weight (before_steps s choices).access - capacity) ≡ Some front) × (removed_by (ran.by.steps ++ ran.dropped.steps) ≡ numbers_of front)
      just_surplus whole =
          elim (at_rest whole) [
            | inl some ↦
                let settled = subst (λ (e : Contents K V). is_member some.number e.access ≡ true → is_settled e.records some.number ≡ true) end_same
                (leaves_settled says s terms.now choices capacity simple.consistent is_free plain some.number) in
                absurd (true≢false (sym (settled some.is_in) ∙ some.unsettled))
            | inr within ↦ removes_enough says s terms.now choices capacity simple.consistent is_free plain (subst (λ (e : Contents K V). IsWithin s.capacity e.access) (sym end_same) within)
          ]

      -- as far as a run comes that is cut after its first pass
      first_batch : is_cut s.settings terms course ≡ true → passes ≡ 1 → removed_by (ran.by.steps ++ ran.dropped.steps) ≡ numbers_of (take terms.batch (before_steps s choices).access)
      first_batch cut one =
          removes_first says s terms.now choices capacity terms.batch simple.consistent is_free plain
          (ap length removed_same ∙ ran.batch_used (sym cut_late ∙ cut) one plain.no_predicate (both_make_room ran.by.steps ran.dropped.steps (removes_for_size_alone says s terms.now choices capacity simple.consistent is_free plain makes_room (λ n. refl))).0)

    -- no pass is made for nothing
    all_needed : (capacity : ℕ) → IsPlainSurplus s terms.now capacity (before_steps s choices) → IsWhole s terms course → passes ≡ length (removed_by (ran.by.steps ++ ran.dropped.steps)) / terms.batch + 1
    all_needed capacity plain whole =
        subst (λ ns. passes ≡ length ns / terms.batch + 1) (sym removed_same)
        (ran.exact (sym cut_late ∙ whole.0) whole.1 plain.no_predicate (both_make_room ran.by.steps ran.dropped.steps (removes_for_size_alone says s terms.now choices capacity simple.consistent is_free plain makes_room (λ n. refl))).0)

    -- the steps are in order, whatever sketch the contents have
    in_order : FollowsGrounds (SomeCovers says s.predicates) (tests_of s terms.now) (NoneCovers says (kept_by_choices s.predicates ran.dropped.steps)) (NeverRenewsOnRead read s) (keeps_write_list s.settings) terms.batch (grounds_of passes) (before_steps s choices) (write_list_before_steps s ns choices) ran.by.steps
    in_order =
        let spared = NoneCovers says (kept_by_choices s.predicates ran.dropped.steps) in
        let never = NeverRenewsOnRead read s in
        let list = write_list_before_steps s ns choices in
        subst (λ t. FollowsGrounds (SomeCovers says s.predicates) t spared never (keeps_write_list s.settings) terms.batch (grounds_of passes) (before_steps s choices) list ran.by.steps) by_state
        (subst (λ b. FollowsGrounds (SomeCovers says s.predicates) (tests_in q) spared never (keeps_write_list s.settings) terms.batch (grounds_of passes) b list ran.by.steps) (sym before_same)
        (grounds-also (SomeCovers says s.predicates) (SomeCovers says s.predicates) (λ r covered. covered) (tests_in q) c.sketch (keeps_write_list s.settings) (NoneCovers says qs) spared (λ r none. subst (λ ps. NoneCovers says ps r) ran.dropped.kept none) OnTime never on_time terms.batch (grounds_of passes) (stock_of c ms).contents ms list ran.by.steps list_before ran.in_order))

    -- no reading but the last is late by the limit given, whether the clock is read at all or not
    ends_by_terms : (b : Bool) → s.settings.listening ≡ b → is_late (if b then terms.limit else None) (take (length ran.readings - 1) ran.readings) ≡ false → is_late terms.limit (take (length ran.readings - 1) ran.readings) ≡ false
    ends_by_terms true listens none = none
    ends_by_terms false listens none = subst (λ rs. is_late terms.limit (take (length rs - 1) rs) ≡ false) (sym unread) (late_of_none terms.limit)
      where
        unread : ran.readings ≡ []
        unread = ran.untimed (ap (λ b. is_some (if b then terms.limit else None)) listens)

        late_of_none : (limit : Option ℕ) → is_late limit (take (length {A = Instant} [] - 1) []) ≡ false
        late_of_none None = refl
        late_of_none (Some limit) = refl

    bounded : IsBounded says read ns s terms choices course
    bounded = record {
      made = ran.made;
      passes = subst (λ ns. passes ≤ length ns + 1) (sym removed_same) ran.few;
      removing = λ cut. subst (λ ns. passes ≤ length ns) (sym removed_same) (ran.removing (sym cut_late ∙ cut));
      timed = λ timed. ran.timed (sym timed_limited ∙ timed) ∙ ap (λ b. passes + (if b then 1 else 0)) (sym cut_late);
      untimed = λ untimed. ran.untimed (sym timed_limited ∙ untimed);
      ends = ends_by_terms s.settings.listening refl ran.ends;
      in_order = (ran.by.steps, ran.dropped.steps, refl, ran.dropped.drops, in_order);
      full = λ none. (let full = ran.full none in let both = length-append ran.by.steps ran.dropped.steps in omega arith);
      reads_swept = reads_ended;
      surplus_swept = surplus_ended;
      needed = all_needed;
      surplus = just_surplus;
      cut_surplus = first_batch;
    }

    -- the run keeps its promises
    promised : ListedRun says read ns ks s terms course (when_listening s.settings.listening (left_in_run s choices)) left_state
    promised = (rw simple.enabled (choices, (is_free, sym run_same, refl), (bounded, leaves_list)), ((leaves, settles), λ off. absurd (true≢false (sym off ∙ simple.enabled))))

  -- the listener is notified of what leaves
  promised_told : s.settings.listening ≡ is_some l → Heard tells l (when_listening s.settings.listening (left_in_run s choices)) n
  promised_told listening =
      subst (λ b. Heard tells l (when_listening b (left_in_run s choices)) n) (sym listening)
      (told-on tells l m n (left_by_writes s.capacity s.settings.policy (after_queued_reads s) s.writes applied.moves) (left_by_choices (before_steps s choices) (ran.by.steps ++ ran.dropped.steps)) applied.told
      (subst (λ b. Told tells m (left_by_choices b (ran.by.steps ++ ran.dropped.steps)) n) (sym before_same)
      (subst (λ xs. Told tells m xs n) (sym (gone-append c ran.by.steps ran.dropped.steps ∙ ap (λ xs. left_by_choices c ran.by.steps ++ xs) (drops_silent (after_choices c ran.by.steps) ran.dropped.steps ran.dropped.drops) ∙ append-nil (left_by_choices c ran.by.steps)))
      (subst (λ xs. Told tells m xs n) (left-seen None c ran.by.steps) ran.by.told))))

  -- it keeps all promises, from one write list to the other
  pub run_promised : (read : X → K → V → ℕ → Option ℕ → ℕ → Option ℕ) → (NeverRenewsOnRead read s → OnTime) → (NeverRenewsOnRead read s → (k : ℕ) (r : Record K V) → get d.records k ≡ Some r → is_member k d.access ≡ true → is_applied r ≡ true → is_expired r terms.now ≡ false)
      → s.settings.listening ≡ is_some l → IsPromised says read tells reads ns ks s terms left passes (with_contents s d qs) l n clock clock_after
  run_promised read on_time lasts listening = record {
    readings = ran.readings;
    notices = when_listening s.settings.listening (left_in_run s choices);
    run = promised read on_time lasts;
    heard = promised_told listening;
    led = ran.read;
  }

  -- a listener stays set
  pub run_keeps_listening : is_some n ≡ is_some l
  run_keeps_listening = told_same tells m n (left_by_choices (stock_of c ms).contents ran.by.steps) ran.by.told ∙ told_same tells l m (left_by_writes s.capacity s.settings.policy (after_queued_reads s) s.writes applied.moves) applied.told
