-- A run of maintenance of the cache, from what applying the queues and the passes make of its inner part.
use Rattle.std.proofs.Common.{◌≡◌, refl, ℕ, Bool, true, false, List, [], length, min, Option, Some, None, is_some, inl, inr, ap, sym, subst, ◌∙◌, if◌then◌else◌}
use Rattle.moka_parts.specs.declared.notification.RemovalCause.{RemovalCause}
use Rattle.moka_records.specs.declared.instant.Instant.{Instant}
use Rattle.moka_parts.specs.declared.records.Registered.{Registered}
use Rattle.std.specs.FinMap.{get, empty}
use Rattle.moka_records.specs.declared.records.Record.{Record}
use Rattle.moka_records.specs.Records.{is_applied, is_member, total_weight}
use Rattle.moka_parts.specs.Settling.{IsAllSent, NeverRenewsOnRead}
use Rattle.moka_parts.specs.Visibility.{is_expired}
use Rattle.moka_parts.specs.Exact.{IsExact}
use Rattle.moka_parts.specs.State.{State, is_disabled, with_contents}
use Rattle.moka_parts.specs.Reads.{after_reads}
use Rattle.moka_records.specs.Time.{greatest, has_passed, moment_of}
use Rattle.moka_parts.specs.Maintenance as parts
use Rattle.moka_parts.specs.Maintenance.{Terms, tests_of}
use Rattle.moka_parts.specs.Calls.{RunStep}
use Rattle.moka_parts.specs.Surroundings.{Leads}
use Rattle.moka_parts.specs.Runs.{Engine}
use Rattle.moka_laws.proofs.AtEnd.{bare_is_exact}
use Rattle.moka_records.proofs.Options.{none_by_test}
use Rattle.moka_laws.proofs.RunReturns.{run_returns, disabled_promised}
use Rattle.moka_maintenance.specs.declared.sweep.Tests.{Tests}
use Rattle.moka_maintenance.specs.Steps.{contents_with, stock_in}
use Rattle.moka_maintenance.specs.Timers.{AreOnTime, HasNoneDue, KeepsTimers}
use Rattle.moka_maintenance.proofs.Timing.{keeps-on, lasts-timed, still-timed}
use Rattle.moka_maintenance.specs.Sweep.{tests_in}
use Rattle.moka_maintenance.specs.Admission.{ArePrepared}
use Rattle.moka_maintenance.specs.Passes.{IsRan}
use Rattle.moka_maintenance.proofs.Scanned.{nothing_kept}
use Rattle.moka_maintenance.proofs.Promises.{IsSimple, run_promised, queues_leave_lasting, run_keeps_listening, run_leaves_lasting, run_leaves_valid, run_leaves_exact}
use Rattle.moka_inner.specs.Interior.{Interior}
use Rattle.moka_engine.specs.BaseCache.{IsCache, IsEngine}
use Rattle.moka_engine.specs.Makes.{Takes}
use Rattle.moka_engine.proofs.EngineSteps.{with_inner, cache_with}
use Rattle.moka_engine.proofs.Stocked.{stocked-on}

-- ---- a cache that is not disabled: its inner part at first, with its queues applied, and after the passes

module _ {K V X L P W C S : Type 0} {tells : L → K → V → RemovalCause → L → Type 0} {reads : C → Instant → C → Type 0} {eq : K → K → Bool} {read : X → K → V → ℕ → Option ℕ → ℕ → Option ℕ} {old now : Engine K V S X L P W} {m n : Option L}
    (is : old ≡ now) (i a j : Interior K V S) (held : cache_with old i ≡ old) (h : IsEngine eq read old.listener i.kept old.state) (enabled_now : is_disabled now.state.capacity ≡ false)
    {has_weigher : Bool} (weighs : has_weigher ≡ is_some old.state.settings.weigher) (applied_with : ArePrepared tells old.state.capacity old.state.settings.policy i.kept.ordered has_weigher (after_reads (contents_with i.sketch i.kept) i.reads) (contents_with a.sketch a.kept) i.kept.written a.kept.written i.writes old.listener m)
    (applied_rest : a ≡ record i { kept = a.kept; sketch = a.sketch; writes = []; reads = []; operation_room = a.operation_room }) (kept_first : KeepsTimers i.kept a.kept) (kept_then : KeepsTimers a.kept j.kept)
    {q : Tests} (terms : Terms) (by_state : tests_in q ≡ tests_of old.state terms.now) {limit : Option ℕ} (limited : limit ≡ (if old.state.settings.listening then terms.limit else None))
    {says : P → K → V → Bool → Type 0} {left_predicates : List (Registered P)} {clock clock_after : C} {passes : ℕ} {left : Bool} (ran_by : IsRan tells says q reads limit terms.batch a.kept.ordered (AreOnTime a.kept) old.state.predicates left_predicates (stock_in a.kept) (stock_in j.kept) m n clock clock_after passes left)
    (ran_rest : j ≡ record a { kept = j.kept; operation_room = j.operation_room })
    (count_after weight_after : ℕ) (counted : count_after ≡ length j.kept.access) (weighed : weight_after ≡ min (total_weight j.kept.access) greatest) where
  -- the states before and after the run
  abbrev s : State K V X P W
  s = with_inner old.state i

  abbrev t : State K V X P W
  t = record (with_inner old.state j) { predicates = left_predicates; count = count_after; weight = weight_after }

  cache : IsCache eq old.listener s
  cache = subst (λ (c : Engine K V S X L P W). IsCache eq old.listener c.state) (sym held) h.cache

  enabled : is_disabled s.capacity ≡ false
  enabled = ap (λ (c : Engine K V S X L P W). is_disabled c.state.capacity) is ∙ enabled_now

  ran : IsRan tells says q reads limit terms.batch i.kept.ordered (AreOnTime a.kept) s.predicates left_predicates (stock_in a.kept) (stock_in j.kept) m n clock clock_after passes left
  ran = subst (λ b. IsRan tells says q reads limit terms.batch b (AreOnTime a.kept) s.predicates left_predicates (stock_in a.kept) (stock_in j.kept) m n clock clock_after passes left) kept_first.ordered ran_by

  applied : ArePrepared tells s.capacity s.settings.policy i.kept.ordered (is_some s.settings.weigher) (after_reads (contents_with i.sketch i.kept) i.reads) (contents_with a.sketch a.kept) i.kept.written a.kept.written i.writes old.listener m
  applied = subst (λ b. ArePrepared tells s.capacity s.settings.policy i.kept.ordered b (after_reads (contents_with i.sketch i.kept) i.reads) (contents_with a.sketch a.kept) i.kept.written a.kept.written i.writes old.listener m) weighs applied_with

  sketched : j.sketch ≡ a.sketch
  sketched = ap (λ (x : Interior K V S). x.sketch) ran_rest

  ends : t ≡ with_contents s (contents_with j.sketch j.kept) left_predicates
  ends =
      ap (λ n. record (with_inner old.state j) { predicates = left_predicates; count = n; weight = weight_after }) counted
      ∙ ap (λ n. record (with_inner old.state j) { predicates = left_predicates; count = length j.kept.access; weight = n }) weighed
      ∙ ap (λ (x : Interior K V S). record (with_inner old.state (record x { kept = j.kept; sketch = j.sketch })) { predicates = left_predicates; count = length j.kept.access; weight = min (total_weight j.kept.access) greatest }) ran_rest
      ∙ ap (λ (x : Interior K V S). record (with_inner old.state (record x { kept = j.kept; sketch = j.sketch })) { predicates = left_predicates; count = length j.kept.access; weight = min (total_weight j.kept.access) greatest }) applied_rest

  simple : IsSimple s
  simple = record { enabled = enabled; unsupported = cache.served.unsupported; consistent = cache.valid.consistent }

  keeps : KeepsTimers i.kept j.kept
  keeps = keeps-on i.kept a.kept j.kept kept_first kept_then

  -- what always holds of the cache holds again
  pub run_keeps_whole : IsEngine eq read n j.kept t
  run_keeps_whole = record {
    cache = subst (IsCache eq n) (sym ends) (record {
      valid = run_leaves_valid s simple terms by_state h.store.ordered refl applied limited refl sketched ran eq cache.valid;
      served = record {
        unsupported = λ off. nothing_kept s.predicates left_predicates ran.dropped.steps (cache.served.unsupported off) ran.dropped.drops ran.dropped.kept;
        unexpiring = λ none. run_leaves_lasting s simple terms by_state h.store.ordered refl applied limited refl sketched ran (cache.served.unexpiring none);
      };
      listens = cache.listens ∙ sym (run_keeps_listening s simple terms by_state h.store.ordered refl applied limited refl sketched ran);
    });
    store = stocked-on h.store j.kept keeps;
  }

  -- once every operation was sent, the report is exact
  pub run_ends_exact : now.state.outstanding ≡ empty → IsExact t
  run_ends_exact sent =
      let all : IsAllSent s = ap (λ (c : Engine K V S X L P W). c.state.outstanding) (held ∙ is) ∙ sent in
      subst IsExact (sym ends) (run_leaves_exact s simple terms by_state h.store.ordered refl applied limited refl sketched ran all)

  -- where no hit renews an expiry, timers are on time before the passes
  on_time : NeverRenewsOnRead read s → AreOnTime a.kept
  on_time never = go (is_some s.settings.expiry) refl
    where
      go : (b : Bool) → is_some s.settings.expiry ≡ b → AreOnTime a.kept
      go true set = let timed = h.store.timed ∙ set in inl (kept_first.timed ∙ timed, still-timed i.kept a.kept timed kept_first (h.store.timers never timed))
      go false unset = inr (queues_leave_lasting s simple terms by_state h.store.ordered refl applied limited refl sketched ran (cache.served.unexpiring (none_by_test s.settings.expiry unset)))

  -- where no hit renews an expiry, no settled member is left whose expiry has come
  lasts : HasNoneDue q.now.0 j.kept → NeverRenewsOnRead read s → (k : ℕ) (r : Record K V) → get j.kept.records k ≡ Some r → is_member k j.kept.access ≡ true → is_applied r ≡ true → is_expired r terms.now ≡ false
  lasts none never k r there is_in settled = go (is_some s.settings.expiry) refl
    where
      now_is : q.now.0 ≡ terms.now
      now_is = ap (λ (t : parts.Tests). t.now) by_state

      go : (b : Bool) → is_some s.settings.expiry ≡ b → is_expired r terms.now ≡ false
      go true set =
          let timed = h.store.timed ∙ set in
          subst (λ n. is_expired r n ≡ false) now_is (lasts-timed q.now.0 j.kept (still-timed i.kept j.kept timed keeps (h.store.timers never timed)) none k r there is_in settled)
      go false unset =
          ap (λ e. has_passed (moment_of e) terms.now) (run_leaves_lasting s simple terms by_state h.store.ordered refl applied limited refl sketched ran (cache.served.unexpiring (none_by_test s.settings.expiry unset)) k r there)

  -- the run keeps its promises
  pub cache_runs : HasNoneDue q.now.0 j.kept → Takes says read tells (λ Runs s. RunStep Runs s terms left) now (record (cache_with old j) { state = t; listener = n; passes = passes }) (λ e. Leads reads clock e.readings clock_after)
  cache_runs none =
      run_returns (held ∙ is) j.kept.written j.kept.room (run_promised s simple terms by_state h.store.ordered refl applied limited refl sketched ran read on_time (lasts none) cache.listens)
      (ap (λ (u : State K V X P W). record (cache_with old j) { state = u; listener = n; passes = passes }) ends ∙ ap (λ (x : S). record (cache_with old j) { hasher = x; state = with_contents s (contents_with j.sketch j.kept) left_predicates; listener = n; passes = passes }) keeps.hasher)

-- ---- a disabled cache

module _ {K V S X L P W : Type 0} {eq : K → K → Bool} {old now : Engine K V S X L P W} (is : old ≡ now) (h : IsCache eq old.listener old.state) (disabled_now : is_disabled now.state.capacity ≡ true) where
  disabled : is_disabled old.state.capacity ≡ true
  disabled = ap (λ (c : Engine K V S X L P W). is_disabled c.state.capacity) is ∙ disabled_now

  -- a run of it does nothing
  pub disabled_cache_runs : {C : Type 0} (says : P → K → V → Bool → Type 0) (read : X → K → V → ℕ → Option ℕ → ℕ → Option ℕ) (tells : L → K → V → RemovalCause → L → Type 0) (reads : C → Instant → C → Type 0) (terms : Terms) (clock : C) → Takes says read tells (λ Runs s. RunStep Runs s terms false) now (record old { passes = 0 }) (λ e. Leads reads clock e.readings clock)
  disabled_cache_runs says read tells reads terms clock =
      run_returns is old.write_list old.room (disabled_promised old.state (h.valid.numbered.disabled disabled) disabled terms says read tells reads old.write_list old.listener clock) refl

  -- and its report is exact
  pub disabled_exact : IsExact old.state
  disabled_exact = bare_is_exact old.state (h.valid.numbered.disabled disabled)
