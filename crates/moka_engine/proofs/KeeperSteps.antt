-- A run of the cache that its housekeeper makes, and what always holds after it.
use Rattle.std.proofs.Common.{◌≡◌, refl, ℕ, Bool, false, List, [], ◌∷◌, ◌++◌, length, Option, ap, sym, subst, ◌∙◌, if◌then◌else◌}
use Rattle.std.specs.Prelude.{nat_lt}
use Rattle.moka_parts.specs.declared.notification.RemovalCause.{RemovalCause}
use Rattle.moka_records.specs.declared.instant.Instant.{Instant}
use Rattle.moka_records.specs.declared.records.ReadOperation.{ReadOperation}
use Rattle.moka_parts.specs.Calls.{no_events, keeper_terms, queue_length, RecordsRead, RunStep, KeeperRun, RunsIfDue}
use Rattle.moka_parts.specs.Housekeeper.{Keeper, MakesRun}
use Rattle.moka_parts.specs.Housekeeping.{is_due, after_run_due, limit_of_run}
use Rattle.moka_parts.specs.Listed.{ListedRun}
use Rattle.moka_parts.specs.Maintenance.{Terms}
use Rattle.moka_parts.specs.Runs.{Engine, Befalls}
use Rattle.moka_parts.specs.State.{State, Events}
use Rattle.moka_parts.specs.Surroundings.{Leads}
use Rattle.moka_laws.proofs.Kept.{kept_by_run}
use Rattle.moka_laws.proofs.StepsKeep.{valid_with}
use Rattle.moka_store.specs.Store.{Kept}
use Rattle.moka_engine.specs.BaseCache.{IsEngine}
use Rattle.moka_engine.specs.Makes.{EngineRuns, Takes}
use Rattle.moka_inner.specs.Interior.{Interior}
use Rattle.moka_engine.proofs.EngineSteps.{with_inner, cache_with, order_and_hasher, cache_changed}
use Rattle.moka_laws.proofs.Quiet.{befalls-nothing}
use Rattle.moka_engine.proofs.GetSteps.{reads_queued}

-- the housekeeper of a state
abbrev keeper_of : {K V X P W : Type 0} → State K V X P W → Keeper
keeper_of s = record { housekeeping = s.housekeeping; listening = s.settings.listening; run_limit = s.settings.run_limit; run_repeats = s.settings.run_repeats; run_batch = s.settings.run_batch }

-- the state with another housekeeper
abbrev with_keeper : {K V X P W : Type 0} → State K V X P W → Keeper → State K V X P W
with_keeper s k = record s { housekeeping = k.housekeeping; settings = record s.settings { listening = k.listening; run_limit = k.run_limit; run_repeats = k.run_repeats; run_batch = k.run_batch } }

-- one that is given the same for its runs
keeper_changed : {K V X P W : Type 0} (s : State K V X P W) (k : Keeper) → k ≡ record (keeper_of s) { housekeeping = k.housekeeping } → with_keeper s k ≡ record s { housekeeping = k.housekeeping }
keeper_changed s k same = ap (λ (x : Keeper). record (with_keeper s x) { housekeeping = k.housekeeping }) same

-- a run leaves the housekeeper as it is
keeper_kept : {K V X P W : Type 0} (says : P → K → V → Bool → Type 0) (read : X → K → V → ℕ → Option ℕ → ℕ → Option ℕ) (before after : List ℕ) (s : State K V X P W) (terms : Terms) (answer : Bool) (e : Events K V) (t : State K V X P W) →
    RunStep (ListedRun says read before after) s terms answer e t → keeper_of t ≡ keeper_of s
keeper_kept says read before after s terms answer e t (course, run, same, told) = kept_by_run (λ u. keeper_of u ≡ keeper_of s) s t refl _ says terms course e.notices (λ ch on free. refl) run.0

-- ---- its run

module _ {K V S X L P W C : Type 0} (says : P → K → V → Bool → Type 0) (read : X → K → V → ℕ → Option ℕ → ℕ → Option ℕ) (tells : L → K → V → RemovalCause → L → Type 0) (reads : C → Instant → C → Type 0)
    {at old mid : Engine K V S X L P W} (is_old : at ≡ old) {h k : Keeper} (of_at : h ≡ keeper_of at.state) (now : ℕ) {clock clock_after : C}
    (ran : MakesRun (EngineRuns says read tells) reads h old now clock k mid clock_after) where
  of_old : h ≡ keeper_of old.state
  of_old = of_at ∙ ap (λ (c : Engine K V S X L P W). keeper_of c.state) is_old

  -- the housekeeper is given the same for its runs as before
  keeper_after : {left : Engine K V S X L P W} → left ≡ mid → k ≡ record (keeper_of left.state) { housekeeping = k.housekeeping }
  keeper_after {left} is =
      let e = ran.3.0 in
      let g : Keeper = keeper_of left.state in
      let of_mid : g ≡ keeper_of mid.state = ap (λ (c : Engine K V S X L P W). keeper_of c.state) is in
      let kept : h ≡ g = of_old ∙ sym (keeper_kept says read old.write_list mid.write_list old.state (record { now = now; limit = limit_of_run h.listening h.run_limit; batch = h.run_batch }) ran.1 e mid.state ran.3.1) ∙ sym of_mid in
      let here : record g { housekeeping = after_run_due h.housekeeping h.listening now ran.1 } ≡ record g { housekeeping = k.housekeeping } = ap (λ (x : Keeper). record g { housekeeping = x.housekeeping }) (sym ran.4) in
      ran.4 ∙ ap (λ (x : Keeper). record x { housekeeping = after_run_due h.housekeeping h.listening now ran.1 }) kept ∙ here

  -- what always holds of the cache that has run holds with its housekeeper
  pub keeper_keeps : {left : Engine K V S X L P W} → left ≡ mid → {eq : K → K → Bool} {l : Option L} {kept : Kept K V S} → IsEngine eq read l kept left.state → IsEngine eq read l kept (with_keeper left.state k)
  keeper_keeps {left} is {eq} {l} {kept} holds =
      let s = left.state in
      subst (IsEngine eq read l kept) (sym (keeper_changed s k (keeper_after is))) (record {
        cache = record {
          valid = valid_with eq s s.reads s.invalid_before s.predicates k.housekeeping holds.cache.valid;
          served = record { unsupported = holds.cache.served.unsupported; unexpiring = holds.cache.served.unexpiring };
          listens = holds.cache.listens;
        };
        store = holds.store;
      })

  -- the run of the definitions, where only the housekeeping changes after that of the cache
  pub keeper_runs : {left : Engine K V S X L P W} → left ≡ mid → Takes says read tells (λ Runs s. KeeperRun Runs s now) old (record left { state = with_keeper left.state k }) (λ e. Leads reads clock e.readings clock_after)
  keeper_runs {left} is =
      let ends : record left { state = with_keeper left.state k } ≡ record mid { state = record mid.state { housekeeping = k.housekeeping } } = ap (λ s. record left { state = s }) (keeper_changed left.state k (keeper_after is)) ∙ ap (λ (c : Engine K V S X L P W). record c { state = record c.state { housekeeping = k.housekeeping } }) is in
      subst (λ (c : Engine K V S X L P W). Takes says read tells (λ Runs s. KeeperRun Runs s now) old c (λ e. Leads reads clock e.readings clock_after)) (sym ends)
      (ran.3.0, (ran.1, mid.state, step, next), befalls, subst (λ readings. Leads reads clock readings clock_after) (sym ran.3.3) ran.2)
    where
      step : RunStep (ListedRun says read old.write_list mid.write_list) old.state (keeper_terms old.state.settings now) ran.1 ran.3.0 mid.state
      step = subst (λ (x : Keeper). RunStep (ListedRun says read old.write_list mid.write_list) old.state (record { now = now; limit = limit_of_run x.listening x.run_limit; batch = x.run_batch }) ran.1 ran.3.0 mid.state) of_old ran.3.1

      next : record mid.state { housekeeping = k.housekeeping } ≡ record mid.state { housekeeping = after_run_due old.state.housekeeping old.state.settings.listening now ran.1 }
      next = ap (λ x. record mid.state { housekeeping = x }) (ap (λ (x : Keeper). x.housekeeping) ran.4 ∙ ap (λ (x : Keeper). after_run_due x.housekeeping x.listening now ran.1) of_old)

      befalls : Befalls tells ran.3.0 old (record mid { state = record mid.state { housekeeping = k.housekeeping } })
      befalls = record {
        kept = ap (λ (c : Engine K V S X L P W). record c { state = record mid.state { housekeeping = k.housekeeping } }) ran.3.2.kept;
        heard = ran.3.2.heard;
        passes = ran.3.2.passes;
        listed = ran.3.2.listed;
      }

module _ {K V S X L P W C : Type 0} (says : P → K → V → Bool → Type 0) (read : X → K → V → ℕ → Option ℕ → ℕ → Option ℕ) (tells : L → K → V → RemovalCause → L → Type 0) (reads : C → Instant → C → Type 0) where
  -- no run is due, and nothing happens
  pub nothing_due : {old now : Engine K V S X L P W} → old ≡ now → (queued : State K V X P W → ℕ) (moment : ℕ) (clock : C) → is_due old.state.housekeeping (queued old.state) moment ≡ false →
      Takes says read tells (λ Runs s. RunsIfDue Runs s (queued s) moment) now now (λ e. Leads reads clock e.readings clock)
  nothing_due {old} is queued moment clock due =
      subst (λ c. Takes says read tells (λ Runs s. RunsIfDue Runs s (queued s) moment) c c (λ e. Leads reads clock e.readings clock)) is (no_events, rw due (refl, refl), befalls-nothing tells old, refl)

  module _ (old : Engine K V S X L P W) (now : ℕ) (clock clock_after : C) where
    -- the cache makes the run that is due, if one is
    abbrev RunsBefore : Engine K V S X L P W → Type 0
    RunsBefore mid = Takes says read tells (λ Runs s. RunsIfDue Runs s (length s.reads) now) old mid (λ e. Leads reads clock e.readings clock_after)

    -- and a read is queued after it
    pub read_follows : {at mid : Engine K V S X L P W} → at ≡ mid → RunsBefore mid → (i : Interior K V S) → cache_with at i ≡ at → (operation : ReadOperation) (j : Interior K V S) → j ≡ record i { reads = if nat_lt (length i.reads) queue_length then i.reads ++ operation ∷ [] else i.reads } →
        Takes says read tells (λ Runs s. RecordsRead Runs s now operation) old (cache_with at j) (λ e. Leads reads clock e.readings clock_after)
    read_follows {at} is ran i held operation j step =
        let before : RunsBefore at = subst RunsBefore (sym is) ran in
        let inside : with_inner at.state i ≡ at.state = ap (λ (c : Engine K V S X L P W). c.state) held in
        let same = ap (λ (x : Interior K V S). order_and_hasher x.kept) step in
        subst (λ (c : Engine K V S X L P W). Takes says read tells (λ Runs s. RecordsRead Runs s now operation) old c (λ e. Leads reads clock e.readings clock_after)) (sym (cache_changed at i j held same)) (
          before.0,
          (at.state, before.1, reads_queued at.state i inside operation j step),
          record {
            kept = ap (λ (c : Engine K V S X L P W). record c { state = with_inner at.state j; room = j.kept.room }) before.2.kept;
            heard = before.2.heard;
            passes = before.2.passes;
            listed = before.2.listed;
          },
          before.3,
        )
