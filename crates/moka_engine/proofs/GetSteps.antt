-- Look-ups as steps of the reference cache, and what always holds after them.
use Rattle.std.proofs.Common.{◌≡◌, refl, ℕ, Bool, true, false, List, [], ◌∷◌, ◌++◌, length, Option, Some, None, option_map, Result, Ok, Err, ap, sym, subst, ◌∙◌, if◌then◌else◌}
use Rattle.std.specs.Prelude.{nat_lt}
use Rattle.std.specs.Cmp.{IsEquivalence}
use Rattle.std.specs.FinMap.{get, insert}
use Rattle.moka_types.specs.declared.calls.Entry.{Entry}
use Rattle.moka_types.specs.declared.error.OutOfMemory.{OutOfMemory}
use Rattle.moka_parts.specs.declared.notification.RemovalCause.{RemovalCause}
use Rattle.moka_records.specs.declared.instant.Instant.{Instant}
use Rattle.moka_records.specs.declared.records.ReadOperation.{ReadOperation}
use Rattle.moka_records.specs.declared.records.ReadOperation.TheVariants.{Hit, Miss}
use Rattle.moka_records.specs.declared.records.Record.{Record}
use Rattle.moka_parts.specs.Calls.{no_events, queue_length, GetsAt, RecordsRead, queueing, IsMissed, IsHit, answer_at, hit_record, after_hit, hit_at, hit_operation}
use Rattle.moka_parts.specs.Expiry.{is_renewal, renewed, answer_to_hit}
use Rattle.moka_parts.specs.Housekeeping.{is_due}
use Rattle.moka_parts.specs.Listed.{ListedRun}
use Rattle.moka_parts.specs.Maintenance.{Terms, Course}
use Rattle.moka_types.specs.Policy.{Expirations}
use Rattle.moka_parts.specs.Notices.{Notice}
use Rattle.moka_records.specs.Records.{Records, record_of_key, with_record}
use Rattle.moka_parts.specs.Runs.{Engine, Befalls}
use Rattle.moka_parts.specs.State.{State, Settings, Events, is_disabled}
use Rattle.moka_parts.specs.Surroundings.{Leads}
use Rattle.moka_laws.proofs.CallsKeep.{found_enabled}
use Rattle.moka_records.proofs.Lookup.{present_key}
use Rattle.moka_records.proofs.Maps.{get_inserted}
use Rattle.moka_laws.proofs.StepsKeep.{hit_valid, valid_with}
use Rattle.moka_store.specs.declared.store.Handle.{Handle}
use Rattle.moka_store.specs.Store.{Kept}
use Rattle.moka_inner.specs.Interior.{Interior}
use Rattle.moka_engine.specs.BaseCache.{IsStocked, IsEngine}
use Rattle.moka_lookups.specs.Expirations.{expirations_of, expiring_by}
use Rattle.moka_engine.specs.Looks.{LooksUp}
use Rattle.moka_lookups.specs.Gets.{IsFound, Touches, entry_at}
use Rattle.moka_engine.specs.Makes.{Takes}
use Rattle.moka_engine.proofs.EngineSteps.{with_inner, cache_with, order_and_hasher, cache_changed, befalls-inside, unexpiring-inserted, cache-inner, there-inside, number-inside, own-inside}
use Rattle.moka_laws.proofs.Quiet.{befalls-nothing}
use Rattle.moka_engine.proofs.Stocked.{stocked-touched, stays-unrenewed, same_duration}

-- ---- what a hit makes of a record

module _ {K V X W : Type 0} (read : X → K → V → ℕ → Option ℕ → ℕ → Option ℕ) (settings : Settings X W) (r : Record K V) where
  -- no more of the settings counts than what lets records expire
  answer_alike : (o : Option X) (at : ℕ) → answer_to_hit read (expiring_by (expirations_of settings)) o r at ≡ answer_to_hit read settings o r at
  answer_alike None at = refl
  answer_alike (Some x) at = refl

  -- without an expiry nothing is renewed
  unrenewed : (o : Option X) → o ≡ None → (at : ℕ) → is_renewal settings r at (answer_to_hit read settings o r at) ≡ false
  unrenewed o none at = rw (none, same_duration) refl

module _ {K V X P W : Type 0} (read : X → K → V → ℕ → Option ℕ → ℕ → Option ℕ) (s : State K V X P W) (r : Record K V) (now : ℕ) (at : Instant) (expires : Option Instant) (is_renewed : Bool) (t : Touches read (expirations_of s.settings) r now at.0 expires is_renewed) where
  moment_is : at ≡ record { 0 = hit_at read s r now }
  moment_is = ap (λ (n : ℕ). record { 0 = n }) t.moment

  expiry_is : expires ≡ renewed s.settings r (hit_at read s r now) (answer_at read s r now)
  expiry_is = t.expiry ∙ rw (t.moment, answer_alike read s.settings r s.settings.expiry (hit_at read s r now)) refl

  renewal_is : is_renewed ≡ is_renewal s.settings r (hit_at read s r now) (answer_at read s r now)
  renewal_is = t.renewal ∙ rw (t.moment, answer_alike read s.settings r s.settings.expiry (hit_at read s r now)) refl

  -- the record is that of a hit
  record_is : record r { read = at; expires = expires } ≡ hit_record read s r now
  record_is = ap (λ (i : Instant). record r { read = i; expires = expires }) moment_is ∙ ap (λ (x : Option Instant). record r { read = record { 0 = hit_at read s r now }; expires = x }) expiry_is

  -- and so is the read that is queued
  operation_is : (n : ℕ) → r.number ≡ n → Hit n r.hash is_renewed ≡ hit_operation read s r now
  operation_is n number = ap (λ k. Hit k r.hash is_renewed) (sym number) ∙ ap (Hit r.number r.hash) renewal_is

-- ---- the inner part

-- a hit of the record at this number, and the inner part before and after it was noted there
pub record IsNoted {K V X S : Type 0} (read : X → K → V → ℕ → Option ℕ → ℕ → Option ℕ) (x : Expirations X) (i j : Interior K V S) (n : ℕ) (r : Record K V) (now : ℕ) (at : Instant) (expires : Option Instant) (is_renewed : Bool) : Type 0 where
  pub there : get i.kept.records n ≡ Some r
  pub touches : Touches read x r now at.0 expires is_renewed
  pub rest : j ≡ record i { kept = j.kept }
  pub kept : j.kept ≡ record i.kept { records = insert i.kept.records n (record r { read = at; expires = expires }) }

module _ {K V X L P W S : Type 0} {eq : K → K → Bool} {l : Option L} {s : State K V X P W} {read : X → K → V → ℕ → Option ℕ → ℕ → Option ℕ} {i j : Interior K V S} {n : ℕ} {r : Record K V} {now : ℕ} {at : Instant} {expires : Option Instant} {is_renewed : Bool}
    (h : IsEngine eq read l i.kept s) (noted : IsNoted read (expirations_of s.settings) i j n r now at expires is_renewed) (inside : with_inner s i ≡ s) where
  number : r.number ≡ n
  number = (number-inside h.cache i inside n r noted.there).0

  -- the state after a hit
  pub record_read : with_inner s j ≡ after_hit read s r now
  record_read =
      let q : Record K V = record r { read = at; expires = expires } in
      let here : with_inner s (record i { kept = record i.kept { records = insert i.kept.records n q } }) ≡ record (with_inner s i) { records = with_record (with_inner s i).records q } = rw number refl in
      ap (with_inner s) (noted.rest ∙ ap (λ (k : Kept K V S). record i { kept = k }) noted.kept) ∙ here
      ∙ ap (λ (u : State K V X P W). record u { records = with_record u.records q }) inside
      ∙ ap (λ (p : Record K V). record s { records = with_record s.records p }) (record_is read s r now at expires is_renewed noted.touches)

  -- the read that is queued
  pub operation_noted : Hit n r.hash is_renewed ≡ hit_operation read s r now
  operation_noted = operation_is read s r now at expires is_renewed noted.touches n number

  module _ (laws : IsEquivalence eq) where
    own : record_of_key eq s.records r.key ≡ Some r
    own = own-inside h.cache i inside laws n r noted.there

    -- what always holds of the cache
    pub whole-noted : IsEngine eq read l j.kept (with_inner s j)
    whole-noted = record {
      cache = cache-inner h.cache l refl j record_read (hit_valid eq (λ _ _ _ _. ⊥) read s r.key r now own h.cache.valid)
          (λ none. unexpiring-inserted s.records (h.cache.served.unexpiring none) r.number (hit_record read s r now)
          (rw (unrenewed read s.settings r s.settings.expiry none (hit_at read s r now)) (h.cache.served.unexpiring none n r (there-inside h.cache i inside n r noted.there))));
      store = subst (IsStocked read s.settings) (sym noted.kept)
          (stocked-touched h.store n r at expires noted.there (λ never. expiry_is read s r now at expires is_renewed noted.touches ∙ stays-unrenewed read s.settings r never (hit_at read s r now)));
    }

    -- and it is still the record of each of its keys
    pub number-read : (key : K) → eq key r.key ≡ true → option_map (λ (x : Record K V). x.number) (record_of_key eq j.kept.records key) ≡ Some n
    number-read key asked =
        let q : Record K V = record r { read = at; expires = expires } in
        let here : get j.kept.records n ≡ Some q = ap (λ (k : Kept K V S). get k.records n) noted.kept ∙ get_inserted i.kept.records n q in
        ap (option_map (λ (x : Record K V). x.number)) (present_key eq j.kept.records key laws whole-noted.cache.valid.numbered.numbered.one_each n q here asked) ∙ ap Some number

-- a read is queued
pub reads_queued : {K V X P W S : Type 0} (s : State K V X P W) (i : Interior K V S) → with_inner s i ≡ s → (operation : ReadOperation) (j : Interior K V S) → j ≡ record i { reads = if nat_lt (length i.reads) queue_length then i.reads ++ operation ∷ [] else i.reads } → with_inner s j ≡ queueing s operation
reads_queued s i inside operation j step = ap (with_inner s) step ∙ ap (λ t. queueing t operation) inside

-- what always holds of the cache after that
pub whole-queued : {K V X L P W S : Type 0} {eq : K → K → Bool} {l : Option L} {s : State K V X P W} {read : X → K → V → ℕ → Option ℕ → ℕ → Option ℕ} (i : Interior K V S) → IsEngine eq read l i.kept s → with_inner s i ≡ s → (operation : ReadOperation) (j : Interior K V S)
    → j ≡ record i { reads = if nat_lt (length i.reads) queue_length then i.reads ++ operation ∷ [] else i.reads } → IsEngine eq read l j.kept (with_inner s j)
whole-queued {eq = eq} {l = l} {s = s} {read = read} i h inside operation j step = record {
  cache = cache-inner h.cache l refl j (reads_queued s i inside operation j step) (valid_with eq s (queueing s operation).reads s.invalid_before s.predicates s.housekeeping h.cache.valid) h.cache.served.unexpiring;
  store = subst (λ (x : Interior _ _ _). IsStocked read s.settings x.kept) (sym step) h.store;
}

-- ---- steps of the state

module _ {K V X P W : Type 0} (says : P → K → V → Bool → Type 0) (read : X → K → V → ℕ → Option ℕ → ℕ → Option ℕ) (sought : Records K V → Option (Record K V)) (hash : ℕ) (need_key ignored : Bool) (now : ℕ)
    (Runs : State K V X P W → Terms → Course → List (Notice K V) → State K V X P W → Type 0) (s : State K V X P W) where
  module _ (enabled : is_disabled s.capacity ≡ false) where
    -- nothing is found that is visible
    missed : ((r : Record K V) → sought s.records ≡ Some r → IsMissed says s ignored r now) → (e : Events K V) (t : State K V X P W) → RecordsRead Runs s now (Miss hash) e t → LooksUp says read sought hash need_key ignored now Runs s (Ok None) e t
    missed hidden e t recorded = rw enabled (at (sought s.records) refl)
      where
        at : (o : Option (Record K V)) → sought s.records ≡ o → GetsAt says read Runs s o hash need_key ignored now (Ok None) e t
        at None found = (refl, recorded)
        at (Some r) found = (hidden r found, recorded)

    module _ (r : Record K V) (found : sought s.records ≡ Some r) (seen : IsHit says s ignored r now) where
      -- memory for a clone is refused
      refused : (error : OutOfMemory) → LooksUp says read sought hash need_key ignored now Runs s (Err error) no_events s
      refused error = rw (enabled, found) (seen, (refl, refl))

      -- a record is found that is visible
      hit : (e : Events K V) (t : State K V X P W) → RecordsRead Runs (after_hit read s r now) (hit_at read s r now) (hit_operation read s r now) e t → LooksUp says read sought hash need_key ignored now Runs s (Ok (Some (entry_at need_key r))) e t
      hit e t recorded = rw (enabled, found) (seen, refl, refl, recorded)

-- ---- what a look-up returns

module _ {K V S X L P W C : Type 0} (says : P → K → V → Bool → Type 0) (read : X → K → V → ℕ → Option ℕ → ℕ → Option ℕ) (tells : L → K → V → RemovalCause → L → Type 0) (reads : C → Instant → C → Type 0)
    {old now : Engine K V S X L P W} (is : old ≡ now) (sought : Records K V → Option (Record K V)) (hash : ℕ) (need_key ignored : Bool) (moment : Instant) (clock : C) where
  -- a look-up of the first cache that answers so, and leaves the second
  abbrev Gets : Engine K V S X L P W → Result (Option (Entry K V)) OutOfMemory → Engine K V S X L P W → C → Type 0
  Gets before a new after = Takes says read tells (λ Runs s. LooksUp says read sought hash need_key ignored moment.0 Runs s a) before new (λ e. Leads reads clock e.readings after)

  -- the read is recorded at the moment, after a run if one is due
  abbrev IsRecorded : Instant → ReadOperation → Engine K V S X L P W → Engine K V S X L P W → C → Type 0
  IsRecorded at operation before new after = Takes says read tells (λ Runs s. RecordsRead Runs s at.0 operation) before new (λ e. Leads reads clock e.readings after)

  -- of nothing visible: in a disabled cache nothing happens, and else the miss is recorded
  pub get_misses : ((r : Record K V) → sought old.state.records ≡ Some r → IsMissed says old.state ignored r moment.0) → {new : Engine K V S X L P W} {after : C}
      → (is_disabled now.state.capacity ≡ true → (new ≡ now) × (after ≡ clock)) → (is_disabled now.state.capacity ≡ false → IsRecorded moment (Miss hash) now new after) → Gets now (Ok None) new after
  get_misses hidden {new} {after} =
      subst (λ c. (is_disabled c.state.capacity ≡ true → (new ≡ c) × (after ≡ clock)) → (is_disabled c.state.capacity ≡ false → IsRecorded moment (Miss hash) c new after) → Gets c (Ok None) new after) is (of_old (is_disabled old.state.capacity) refl)
    where
      of_old : (b : Bool) → is_disabled old.state.capacity ≡ b → (is_disabled old.state.capacity ≡ true → (new ≡ old) × (after ≡ clock)) → (is_disabled old.state.capacity ≡ false → IsRecorded moment (Miss hash) old new after) → Gets old (Ok None) new after
      of_old true disabled unchanged recorded =
          let same = unchanged disabled in
          let idle : Gets old (Ok None) old clock = (no_events, rw disabled (refl, (refl, refl)), befalls-nothing tells old, refl) in
          rw (same.0, same.1) idle
      of_old false enabled unchanged recorded =
          let made = recorded enabled in
          (made.0, missed says read sought hash need_key ignored moment.0 (ListedRun says read old.write_list new.write_list) old.state enabled hidden made.0 new.state made.1, made.2, made.3)

  module _ {eq : K → K → Bool} {l : Option L} {handle : Handle} {r : Record K V} (laws : IsEquivalence eq) (i : Interior K V S) (h : IsEngine eq read l i.kept old.state)
      (at : IsFound i.kept (expirations_of old.state.settings) old.state.invalid_before says old.state.predicates (sought i.kept.records) ignored moment.0 handle r) (held : cache_with old i ≡ old) where
    inside : with_inner old.state i ≡ old.state
    inside = ap (λ (c : Engine K V S X L P W). c.state) held

    found : sought old.state.records ≡ Some r
    found = ap (λ (t : State K V X P W). sought t.records) (sym inside) ∙ at.found

    seen : IsHit says old.state ignored r moment.0
    seen = (at.accepted, (at.shown, at.uncovered))

    enabled : is_disabled old.state.capacity ≡ false
    enabled = found_enabled eq old.state r.key r h.cache.valid.numbered (own-inside h.cache i inside laws handle.number r at.numbered)

    -- of what cannot be cloned
    pub get_refused : (error : OutOfMemory) → Gets now (Err error) now clock
    get_refused error =
        subst (λ c. Gets c (Err error) c clock) is (no_events, refused says read sought hash need_key ignored moment.0 (ListedRun says read old.write_list old.write_list) old.state enabled r found seen error, befalls-nothing tells old, refl)

    module _ {mid : Interior K V S} {moment_read : Instant} {expires : Option Instant} {is_renewed : Bool} (noted : IsNoted read (expirations_of old.state.settings) i mid handle.number r moment.0 moment_read expires is_renewed) where
      touched : cache_with old mid ≡ record old { state = after_hit read old.state r moment.0; room = mid.kept.room }
      touched = cache_changed old i mid held (ap order_and_hasher noted.kept) ∙ ap (λ (s : State K V X P W). record old { state = s; room = mid.kept.room }) (record_read h noted inside)

      -- of what is visible, with what recording the read does
      pub get_hits : {new : Engine K V S X L P W} {after : C} → IsRecorded moment_read (Hit handle.number r.hash is_renewed) (cache_with old mid) new after → Gets now (Ok (Some (entry_at need_key r))) new after
      get_hits {new} {after} made =
          let s = after_hit read old.state r moment.0 in
          let recorded = subst (λ c. IsRecorded moment_read (Hit handle.number r.hash is_renewed) c new after) touched made in
          let e = recorded.0 in
          let at_hit : RecordsRead (ListedRun says read old.write_list new.write_list) s (hit_at read old.state r moment.0) (Hit handle.number r.hash is_renewed) e new.state =
          subst (λ m. RecordsRead (ListedRun says read old.write_list new.write_list) s m (Hit handle.number r.hash is_renewed) e new.state) noted.touches.moment recorded.1 in
          let of_hit : RecordsRead (ListedRun says read old.write_list new.write_list) s (hit_at read old.state r moment.0) (hit_operation read old.state r moment.0) e new.state =
          subst (λ o. RecordsRead (ListedRun says read old.write_list new.write_list) s (hit_at read old.state r moment.0) o e new.state) (operation_noted h noted inside) at_hit in
          let befalls : Befalls tells e old new = record { kept = recorded.2.kept; heard = recorded.2.heard; passes = recorded.2.passes; listed = recorded.2.listed } in
          subst (λ c. Gets c (Ok (Some (entry_at need_key r))) new after) is (e, hit says read sought hash need_key ignored moment.0 (ListedRun says read old.write_list new.write_list) old.state enabled r found seen e new.state of_hit, befalls, recorded.3)

      -- where no run is due the read is only queued
      pub queues_read : is_due old.state.housekeeping (length mid.reads) moment_read.0 ≡ false → (operation : ReadOperation) (j : Interior K V S) → j ≡ record mid { reads = if nat_lt (length mid.reads) queue_length then mid.reads ++ operation ∷ [] else mid.reads }
          → IsRecorded moment_read operation (cache_with old mid) (cache_with old j) clock
      queues_read due operation j step = (
        no_events,
        (with_inner old.state mid, rw due (refl, refl), reads_queued (with_inner old.state mid) mid refl operation j step),
        befalls-inside (cache_with old mid) mid j refl (ap (λ (x : Interior K V S). order_and_hasher x.kept) step) tells,
        refl,
      )
