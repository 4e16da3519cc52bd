-- Look-ups that record nothing as steps of the reference cache.
use Rattle.std.proofs.Common.{◌≡◌, refl, ℕ, Bool, true, false, true≢false, inl, inr, Option, Some, None, is_some, Result, Ok, Err, ap, sym, subst, ◌∙◌}
use Rattle.moka_types.specs.declared.error.OutOfMemory.{OutOfMemory}
use Rattle.moka_parts.specs.declared.notification.RemovalCause.{RemovalCause}
use Rattle.moka_records.specs.declared.instant.Instant.{Instant}
use Rattle.moka_records.specs.declared.records.Record.{Record}
use Rattle.moka_parts.specs.Calls.{no_events, IsHit, IsMissed, PeeksAt, PeekStep, ScansAt, after_hit}
use Rattle.moka_records.specs.Records.{Records, record_of_key}
use Rattle.moka_parts.specs.Runs.{Engine, Befalls}
use Rattle.moka_parts.specs.State.{State, is_disabled}
use Rattle.moka_parts.specs.Visibility.{IsHidden, IsShown}
use Rattle.moka_laws.proofs.CallsKeep.{found_enabled}
use Rattle.moka_store.specs.declared.store.Handle.{Handle}
use Rattle.moka_store.specs.Store.{Kept}
use Rattle.moka_inner.specs.Interior.{Interior}
use Rattle.moka_engine.specs.BaseCache.{IsEngine}
use Rattle.moka_lookups.specs.Expirations.{expirations_of}
use Rattle.moka_lookups.specs.Gets.{Finds, IsFound}
use Rattle.moka_engine.proofs.EngineSteps.{with_inner, cache_with, order_and_hasher, befalls-inside, key-inside}
use Rattle.moka_laws.proofs.Quiet.{befalls-nothing}
use Rattle.moka_engine.proofs.GetSteps.{IsNoted, record_read}

module _ {K V S X L P W : Type 0} (says : P → K → V → Bool → Type 0) (read : X → K → V → ℕ → Option ℕ → ℕ → Option ℕ) (tells : L → K → V → RemovalCause → L → Type 0) (eq : K → K → Bool)
    {old now : Engine K V S X L P W} (is : old ≡ now) (key : K) (ignored : Bool) (moment : Instant) where
  -- a look-up of the first cache that answers so, and leaves the second
  abbrev Peeks : Engine K V S X L P W → Result (Option V) OutOfMemory → Engine K V S X L P W → Type 0
  Peeks before a new = PeekStep says read eq before.state key ignored moment.0 a new.state × Befalls tells no_events before new

  -- of nothing visible, as in a disabled cache
  pub peek_misses : ((r : Record K V) → record_of_key eq old.state.records key ≡ Some r → IsMissed says old.state ignored r moment.0) → Peeks now (Ok None) now
  peek_misses hidden = subst (λ c. Peeks c (Ok None) c) is (step (is_disabled old.state.capacity) refl, befalls-nothing tells old)
    where
      at : (o : Option (Record K V)) → record_of_key eq old.state.records key ≡ o → PeeksAt says read old.state o ignored moment.0 (Ok None) old.state
      at None found = (refl, refl)
      at (Some r) found = (hidden r found, refl)

      step : (b : Bool) → is_disabled old.state.capacity ≡ b → PeekStep says read eq old.state key ignored moment.0 (Ok None) old.state
      step true disabled = rw disabled (refl, refl)
      step false enabled = rw enabled (at (record_of_key eq old.state.records key) refl)

  module _ {l : Option L} {handle : Handle} {r : Record K V} (i : Interior K V S) (h : IsEngine eq read l i.kept old.state)
      (at : IsFound i.kept (expirations_of old.state.settings) old.state.invalid_before says old.state.predicates (record_of_key eq i.kept.records key) ignored moment.0 handle r) (held : cache_with old i ≡ old) where
    inside : with_inner old.state i ≡ old.state
    inside = ap (λ (c : Engine K V S X L P W). c.state) held

    found : record_of_key eq old.state.records key ≡ Some r
    found = key-inside h.cache i inside key (Some r) at.found

    enabled : is_disabled old.state.capacity ≡ false
    enabled = found_enabled eq old.state key r h.cache.valid.numbered found

    seen : IsHit says old.state ignored r moment.0
    seen = (at.accepted, (at.shown, at.uncovered))

    -- of what is visible
    pub peek_hits : {mid : Interior K V S} {moment_read : Instant} {expires : Option Instant} {is_renewed : Bool} → IsNoted read (expirations_of old.state.settings) i mid handle.number r moment.0 moment_read expires is_renewed → Peeks now (Ok (Some r.value)) (cache_with old mid)
    peek_hits {mid} noted =
        let done : PeekStep says read eq old.state key ignored moment.0 (Ok (Some r.value)) (after_hit read old.state r moment.0) = rw (enabled, found) (seen, refl, refl) in
        subst (λ c. Peeks c (Ok (Some r.value)) (cache_with old mid)) is (
          subst (λ (t : State K V X P W). PeekStep says read eq old.state key ignored moment.0 (Ok (Some r.value)) t) (sym (record_read h noted inside)) done,
          befalls-inside old i mid held (ap order_and_hasher noted.kept) tells,
        )

    -- of what cannot be cloned
    pub peek_refused : (error : OutOfMemory) → Peeks now (Err error) now
    peek_refused error = subst (λ c. Peeks c (Err error) c) is (rw (enabled, found) (seen, refl), befalls-nothing tells old)

-- ---- looks that change nothing

module _ {K V S X L P W : Type 0} (says : P → K → V → Bool → Type 0) {old now : Engine K V S X L P W} (is : old ≡ now) (kept : Kept K V S) (sought : Records K V → Option (Record K V)) (moment : ℕ) where
  -- what is found of the record sought
  abbrev FindsIn : Option (Handle × Record K V) → Type 0
  FindsIn found = Finds kept (expirations_of old.state.settings) old.state.invalid_before says old.state.predicates (sought old.state.records) false moment found

  abbrev Scans : Engine K V S X L P W → Result (Option V) OutOfMemory → Type 0
  Scans c a = ScansAt says c.state (sought c.state.records) moment a

  -- what is not found is hidden
  hidden_there : FindsIn None → (r : Record K V) → sought old.state.records ≡ Some r → IsHidden says old.state r moment
  hidden_there hidden r there = elim (hidden r there) [
    | inl never ↦ absurd (true≢false (sym never))
    | inr is ↦ is
  ]

  pub scan_misses : FindsIn None → Scans now (Ok None)
  scan_misses hidden = subst (λ c. Scans c (Ok None)) is (at (sought old.state.records) refl)
    where
      at : (o : Option (Record K V)) → sought old.state.records ≡ o → ScansAt says old.state o moment (Ok None)
      at None found = refl
      at (Some r) found = hidden_there hidden r found

  module _ (handle : Handle) (r : Record K V) (at : FindsIn (Some (handle, r))) where
    pub scan_hits : Scans now (Ok (Some r.value))
    scan_hits = subst (λ c. Scans c (Ok (Some r.value))) is (rw (at.found) ((at.shown, at.uncovered), refl))

    pub scan_refused : (error : OutOfMemory) → Scans now (Err error)
    scan_refused error = subst (λ c. Scans c (Err error)) is (rw (at.found) (at.shown, at.uncovered))

  -- whether there is anything visible
  pub shows : (found : Option (Handle × Record K V)) → FindsIn found → IsShown says now.state (sought now.state.records) moment (is_some found)
  shows found finds = subst (λ (c : Engine K V S X L P W). IsShown says c.state (sought c.state.records) moment (is_some found)) is (at found finds (sought old.state.records) refl)
    where
      at : (found : Option (Handle × Record K V)) → FindsIn found → (o : Option (Record K V)) → sought old.state.records ≡ o → IsShown says old.state o moment (is_some found)
      at None hidden None there = refl
      at None hidden (Some r) there = hidden_there hidden r there
      at (Some (handle, r)) seen o there = rw (sym there ∙ seen.found) (seen.shown, seen.uncovered)
