-- Inserts as steps of the reference cache, and what always holds after them.
use Rattle.std.proofs.Common.{◌≡◌, refl, ℕ, ◌+◌, ◌^◌, ◌≤◌, Bool, true, false, [], ◌∷◌, ◌↔◌, Option, Some, None, Result, Ok, Err, is_some, ap, sym, subst, ◌∙◌, arith}
use Rattle.std.specs.Prelude.{nat_le}
use Rattle.std.specs.Cmp.{IsEquivalence}
use Rattle.std.specs.FinMap.{get, insert, len}
use Rattle.moka_types.specs.declared.calls.Ticket.{Ticket}
use Rattle.moka_types.specs.declared.error.InsertError.{InsertError}
use Rattle.moka_types.specs.declared.error.InsertError.TheVariants.{NumbersUsedUp, OutOfMemory}
use Rattle.moka_types.specs.declared.error.InsertRefused.{InsertRefused}
use Rattle.moka_parts.specs.declared.notification.RemovalCause.{RemovalCause}
use Rattle.moka_records.specs.declared.instant.Instant.{Instant}
use Rattle.moka_records.specs.declared.records.Operation.TheVariants.{Upsert}
use Rattle.moka_records.specs.declared.records.Record.{Record}
use Rattle.moka_parts.specs.Calls.{no_events, only_notices, Weighs, InsertStep, HasInsertError, handing_out, inserted, new_record, replaced, updated_record}
use Rattle.moka_parts.specs.Causes.{cause_of_replacement}
use Rattle.moka_parts.specs.Expiry.{expires_at_first, expires_updated}
use Rattle.moka_parts.specs.Notification.{HearsOnce}
use Rattle.moka_parts.specs.Notices.{when_listening}
use Rattle.moka_records.specs.Records.{record_of_key, with_record}
use Rattle.moka_parts.specs.Runs.{Engine, Befalls}
use Rattle.moka_parts.specs.State.{State, Settings, Events, is_disabled}
use Rattle.moka_laws.proofs.CallsKeep.{inserted_valid, replaced_valid}
use Rattle.moka_table.specs.Updates.{updated}
use Rattle.moka_table.specs.declared.table.Update.{Update}
use Rattle.moka_inner.specs.Interior.{Interior, first_record, handing_out_inside}
use Rattle.moka_engine.specs.BaseCache.{IsCache, IsStocked, IsEngine}
use Rattle.moka_lookups.specs.Expirations.{expirations_of, expiring_by}
use Rattle.moka_engine.proofs.Stocked.{stocked-inserted, update_waits}
use Rattle.moka_engine.proofs.EngineSteps.{with_inner, cache_with, order_and_hasher, cache_changed, without_room, inside-roomier, stocked-room, befalls-inside, unexpiring-inserted, cache-inner, there-inside, number-inside, key-inside}

-- ---- refusals

pub not_at_least : (a b : ℕ) → (a ≤ b → ⊥) → nat_le a b ≡ false
not_at_least a b h = grind arith

at_least : (a b : ℕ) → a ≤ b → nat_le a b ≡ true
at_least a b h = grind arith

-- room refused for this reason
abbrev pub refusal : InsertError → Result (Unit {0}) InsertError
refusal e = Err e

-- the error is the one that the tickets that are left ask for
pub has_error : {K V X P W : Type 0} (s : State K V X P W) (more : ℕ) (e : InsertError) → (refusal e ≡ refusal NumbersUsedUp) ↔ (2 ^ 64 ≤ s.next_ticket + len s.records + more) → HasInsertError s more e
has_error s more NumbersUsedUp h = at_least (2 ^ 64) (s.next_ticket + len s.records + more) (h.0 refl)
has_error s more OutOfMemory h = not_at_least (2 ^ 64) (s.next_ticket + len s.records + more) (λ up. let e = h.1 up in cc)

-- ---- what an insert makes of the state

module _ {K V X W : Type 0} (created : X → K → V → ℕ → Option ℕ) (updating : X → K → V → ℕ → Option ℕ → Option ℕ) (settings : Settings X W) where
  -- no more of the settings counts than what lets records expire
  updated_alike : (o : Option X) (key : K) (value : V) (r : Record K V) (now : ℕ) → expires_updated created updating (expiring_by (expirations_of settings)) o key value r now ≡ expires_updated created updating settings o key value r now
  updated_alike None key value r now = refl
  updated_alike (Some x) key value r now = refl

  -- without an expiry the record expires as before
  lasts_updated : (o : Option X) → o ≡ None → (key : K) (value : V) (r : Record K V) (now : ℕ) → expires_updated created updating settings o key value r now ≡ r.expires
  lasts_updated o none key value r now = rw none refl

-- the update has the expiry that an insert of the key gives to its record
abbrev ExpiresUpdated : {K V X P W : Type 0} → (X → K → V → ℕ → Option ℕ) → (X → K → V → ℕ → Option ℕ → Option ℕ) → State K V X P W → K → Update V → Record K V → Type 0
ExpiresUpdated created updating s key update r = update.expires ≡ expires_updated created updating (expiring_by (expirations_of s.settings)) s.settings.expiry key update.value (record r { written = update.now; read = update.now }) update.now.0

module _ {K V X P W S : Type 0} (created : X → K → V → ℕ → Option ℕ) (updating : X → K → V → ℕ → Option ℕ → Option ℕ) (s : State K V X P W) (i j : Interior K V S) (inside : with_inner s i ≡ s) (key : K) (hash : ℕ) (update : Update V) where
  -- a new value for the record
  replaces : (r : Record K V) (n : ℕ) → r.number ≡ n → ExpiresUpdated created updating s key update r → j ≡ handing_out_inside i (insert i.kept.records n (updated update r)) (Upsert n (r.generation + 1) update.weight hash) j → with_inner s j ≡ replaced created updating s r key hash update.value update.now update.weight
  replaces r n number is step =
      let q : Record K V = updated update r in
      let here : with_inner s (handing_out_inside i (insert i.kept.records n q) (Upsert n (r.generation + 1) update.weight hash) j) ≡ handing_out (record (with_inner s i) { records = with_record (with_inner s i).records q }) (Upsert r.number (r.generation + 1) update.weight hash) = rw number refl in
      let so = is ∙ updated_alike created updating s.settings s.settings.expiry key update.value (record r { written = update.now; read = update.now }) update.now.0 in
      ap (with_inner s) step ∙ here
      ∙ ap (λ (t : State K V X P W). handing_out (record t { records = with_record t.records q }) (Upsert r.number (r.generation + 1) update.weight hash)) inside
      ∙ ap (λ (e : Option Instant). handing_out (record s { records = with_record s.records (record q { expires = e }) }) (Upsert r.number (r.generation + 1) update.weight hash)) so

  -- a new record
  inserts : update.expires ≡ expires_at_first created s.settings.expiry key update.value update.now.0
      → j ≡ record (handing_out_inside i (with_record i.kept.records (first_record i.next_number key hash update)) (Upsert i.next_number 1 update.weight hash) j) { next_number = i.next_number + 1 } → with_inner s j ≡ inserted created updating s key hash update.value update.now update.weight
  inserts is step =
      ap (with_inner s) step
      ∙ ap (λ (e : Option Instant). with_inner s (record (handing_out_inside i (with_record i.kept.records (record (first_record i.next_number key hash update) { expires = e })) (Upsert i.next_number 1 update.weight hash) j) { next_number = i.next_number + 1 })) is
      ∙ ap (λ (t : State K V X P W). inserted created updating t key hash update.value update.now update.weight) inside

-- ---- what always holds of the cache, once room was made

module _ {K V X L P W S : Type 0} {eq : K → K → Bool} {read : X → K → V → ℕ → Option ℕ → ℕ → Option ℕ} {l : Option L} {s : State K V X P W} (created : X → K → V → ℕ → Option ℕ) (before i j : Interior K V S) (h : IsEngine eq read l before.kept s) (inside_before : with_inner s before ≡ s) (rooms : without_room i ≡ without_room before) (key : K) (hash : ℕ) (update : Update V) where
  inside : with_inner s i ≡ s
  inside = inside-roomier s before i inside_before rooms

  stored : IsStocked read s.settings i.kept
  stored = stocked-room before i rooms h.store

  -- after an insert of a key that is there
  pub whole-updated : (updating : X → K → V → ℕ → Option ℕ → Option ℕ) (m : Option L) → is_some m ≡ is_some l → (n : ℕ) (r : Record K V) → get before.kept.records n ≡ Some r → record_of_key eq before.kept.records key ≡ Some r → ExpiresUpdated created updating s key update r
      → j ≡ handing_out_inside i (insert i.kept.records n (updated update r)) (Upsert n (r.generation + 1) update.weight hash) j → IsEngine eq read m j.kept (with_inner s j)
  whole-updated updating m same n r here found is step =
      let there = there-inside h.cache before inside_before n r here in
      let q : Record K V = updated_record created updating s r key update.value update.now update.weight in
      record {
        cache = cache-inner h.cache m same j (replaces created updating s i j inside key hash update r n (number-inside h.cache before inside_before n r here).0 is step)
            (replaced_valid eq created updating s r key hash update.value update.now update.weight (key-inside h.cache before inside_before key (Some r) found) h.cache.valid)
            (λ none. unexpiring-inserted s.records (h.cache.served.unexpiring none) r.number q (lasts_updated created updating s.settings s.settings.expiry none key update.value (record r { written = update.now; read = update.now }) update.now.0 ∙ h.cache.served.unexpiring none n r there));
        store = subst (λ (x : Interior K V S). IsStocked read s.settings x.kept) (sym step) (stocked-inserted stored n (updated update r) j.kept.places j.kept.room (update_waits s h.cache.valid.consistent n r there update));
      }

  -- after an insert of a new key
  pub whole-inserted : IsEquivalence eq → is_disabled s.capacity ≡ false → record_of_key eq before.kept.records key ≡ None → update.expires ≡ expires_at_first created s.settings.expiry key update.value update.now.0
      → j ≡ record (handing_out_inside i (with_record i.kept.records (first_record i.next_number key hash update)) (Upsert i.next_number 1 update.weight hash) j) { next_number = i.next_number + 1 } → IsEngine eq read l j.kept (with_inner s j)
  whole-inserted laws enabled absent is step =
      let updating : X → K → V → ℕ → Option ℕ → Option ℕ = λ _ _ _ _ _. None in
      let new : Record K V = new_record created updating s key hash update.value update.now update.weight in
      record {
        cache = cache-inner h.cache l refl j (inserts created updating s i j inside key hash update is step)
            (inserted_valid eq created updating s key hash update.value update.now update.weight laws enabled (key-inside h.cache before inside_before key None absent) h.cache.valid)
            (λ none. unexpiring-inserted s.records (h.cache.served.unexpiring none) s.next_number new (rw none refl));
        store = subst (λ (x : Interior K V S). IsStocked read s.settings x.kept) (sym step) (stocked-inserted stored i.next_number (first_record i.next_number key hash update) j.kept.places j.kept.room refl);
      }

-- ---- what the calls return

module _ {K V S X L P W : Type 0} (created : X → K → V → ℕ → Option ℕ) (updating : X → K → V → ℕ → Option ℕ → Option ℕ) (weighs : W → K → V → ℕ → Type 0) (tells : L → K → V → RemovalCause → L → Type 0) (eq : K → K → Bool)
    {old now : Engine K V S X L P W} (is : old ≡ now) (before : Interior K V S) (held : cache_with old before ≡ old) (i : Interior K V S) (rooms : without_room i ≡ without_room before) (key : K) (hash : ℕ) (value : V) (moment : Instant) where
  -- a call that answers so, and leaves this inner part and listener
  abbrev Inserts : Result (Ticket × Instant) (InsertRefused K V) → Interior K V S → Option L → Engine K V S X L P W → Type 0
  Inserts a j m c = (e : Events K V) × InsertStep created updating weighs eq c.state key hash value moment a e (with_inner old.state j) × Befalls tells e c (record (cache_with old j) { listener = m }) × (e ≡ only_notices e.notices)

  inside_first : with_inner old.state before ≡ old.state
  inside_first = ap (λ (c : Engine K V S X L P W). c.state) held

  -- room was made
  inside_still : with_inner old.state i ≡ old.state
  inside_still = inside-roomier old.state before i inside_first rooms

  shown_still : order_and_hasher i.kept ≡ order_and_hasher before.kept
  shown_still = ap (λ (x : Interior K V S). order_and_hasher x.kept) rooms

  found_in_state : (o : Option (Record K V)) → record_of_key eq before.kept.records key ≡ o → record_of_key eq old.state.records key ≡ o
  found_in_state o found = ap (λ (t : State K V X P W). record_of_key eq t.records key) (sym inside_first) ∙ found

  -- a new key, with no room for its record or the operation
  pub new_refused : record_of_key eq before.kept.records key ≡ None → (error : InsertError) → (refusal error ≡ refusal NumbersUsedUp) ↔ (2 ^ 64 ≤ before.next_ticket + len before.kept.records + 1)
      → Inserts (Err (record { error = error; key = key; value = value })) i old.listener now
  new_refused none error used_up =
      let refused : HasInsertError (with_inner old.state before) 1 error = has_error (with_inner old.state before) 1 error used_up in
      subst (Inserts (Err (record { error = error; key = key; value = value })) i old.listener) is (
        no_events,
        rw (found_in_state None none) ((refl, refl, subst (λ t. HasInsertError t 1 error) inside_first refused), (inside_still, refl)),
        befalls-inside old before i held shown_still tells,
        refl,
      )

  -- a new key, with its record
  pub new_returns : record_of_key eq before.kept.records key ≡ None → (j : Interior K V S) (w : ℕ) → Weighs weighs old.state.settings.weigher key value w
      → (2 ^ 64 ≤ before.next_ticket + len before.kept.records + 1 → ⊥) → (ticket : Ticket) → ticket.0 ≡ i.next_ticket → (expires : Option Instant) → expires ≡ expires_at_first created old.state.settings.expiry key value moment.0
      → j ≡ record (handing_out_inside i (with_record i.kept.records (first_record i.next_number key hash (record { value = value; now = moment; expires = expires; weight = w }))) (Upsert i.next_number 1 w hash) j) { next_number = i.next_number + 1 }
      → Inserts (Ok (ticket, moment)) j old.listener now
  new_returns none j w weighed enough ticket next expires first step =
      let numbers : nat_le (2 ^ 64) (before.next_ticket + len before.kept.records + 1) ≡ false = not_at_least (2 ^ 64) (before.next_ticket + len before.kept.records + 1) enough in
      let made = inserts created updating old.state i j inside_still key hash (record { value = value; now = moment; expires = expires; weight = w }) first step in
      subst (Inserts (Ok (ticket, moment)) j old.listener) is (
        no_events,
        rw (found_in_state None none) (w, weighed, subst (λ (t : State K V X P W). nat_le (2 ^ 64) (t.next_ticket + len t.records + 1) ≡ false) inside_first numbers, next ∙ ap (λ (t : State K V X P W). t.next_ticket) inside_still, refl, made, refl),
        befalls-inside old before j held (ap (λ (x : Interior K V S). order_and_hasher x.kept) step ∙ shown_still) tells,
        refl,
      )

  -- a key that is there, with no room for its operation
  pub update_refused : (r : Record K V) → record_of_key eq before.kept.records key ≡ Some r → (error : InsertError) → (refusal error ≡ refusal NumbersUsedUp) ↔ (2 ^ 64 ≤ before.next_ticket + len before.kept.records)
      → Inserts (Err (record { error = error; key = key; value = value })) i old.listener now
  update_refused r found error used_up =
      let refused : HasInsertError (with_inner old.state before) 0 error = has_error (with_inner old.state before) 0 error (λ e. let p = used_up.0 e in omega arith, λ p. used_up.1 (omega arith)) in
      subst (Inserts (Err (record { error = error; key = key; value = value })) i old.listener) is (
        no_events,
        rw (found_in_state (Some r) found) ((refl, refl, subst (λ t. HasInsertError t 0 error) inside_first refused), (inside_still, refl)),
        befalls-inside old before i held shown_still tells,
        refl,
      )

  -- a key that is there, with a new value
  pub update_returns : IsCache eq old.listener old.state → (m : Option L) (j : Interior K V S) (n : ℕ) (r : Record K V) → get before.kept.records n ≡ Some r → record_of_key eq before.kept.records key ≡ Some r → (w : ℕ) → Weighs weighs old.state.settings.weigher key value w
      → (2 ^ 64 ≤ before.next_ticket + len before.kept.records → ⊥) → (ticket : Ticket) → ticket.0 ≡ i.next_ticket → (expires : Option Instant) → ExpiresUpdated created updating old.state key (record { value = value; now = moment; expires = expires; weight = w }) r
      → j ≡ handing_out_inside i (insert i.kept.records n (updated (record { value = value; now = moment; expires = expires; weight = w }) r)) (Upsert n (r.generation + 1) w hash) j
      → (left : V) → left ≡ r.value → (cause : RemovalCause) → cause ≡ cause_of_replacement old.state.settings old.state.invalid_before r moment.0 → HearsOnce tells old.listener key left cause m
      → Inserts (Ok (ticket, moment)) j m now
  update_returns h m j n r there found w weighed enough ticket next expires expiring step left same_value cause same_cause heard =
      let numbers : nat_le (2 ^ 64) (before.next_ticket + len before.kept.records + 0) ≡ false = not_at_least (2 ^ 64) (before.next_ticket + len before.kept.records + 0) (λ p. enough (omega arith)) in
      let made = replaces created updating old.state i j inside_still key hash (record { value = value; now = moment; expires = expires; weight = w }) r n (number-inside h before inside_first n r there).0 expiring step in
      let e = only_notices (when_listening old.state.settings.listening ((key, r.value, cause_of_replacement old.state.settings old.state.invalid_before r moment.0) ∷ [])) in
      let changed = cache_changed old before j held (ap (λ (x : Interior K V S). order_and_hasher x.kept) step ∙ shown_still) in
      subst (Inserts (Ok (ticket, moment)) j m) is (
        e,
        rw (found_in_state (Some r) found) (w, weighed, subst (λ (t : State K V X P W). nat_le (2 ^ 64) (t.next_ticket + len t.records + 0) ≡ false) inside_first numbers, next ∙ ap (λ (t : State K V X P W). t.next_ticket) inside_still, refl, made, refl),
        subst (λ (c : Engine K V S X L P W). Befalls tells e old (record c { listener = m })) (sym changed) (record { kept = refl; heard = rw (h.listens, ← same_value, ← same_cause) heard; passes = refl; listed = λ none. refl }),
        refl,
      )
