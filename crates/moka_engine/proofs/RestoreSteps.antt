-- Entries that are put back as steps of the reference cache, and what always holds after that.
use Rattle.std.proofs.Common.{◌≡◌, refl, ℕ, ◌+◌, ◌^◌, ◌≤◌, Bool, true, false, true≢false, ◌&&◌, not, inl, inr, ◌↔◌, Option, Some, None, Result, Ok, Err, is_some, ap, sym, subst, ◌∙◌}
use Rattle.std.specs.Prelude.{nat_le}
use Rattle.std.specs.Cmp.{IsEquivalence, nat_cmp_total}
use Rattle.std.specs.FinMap.{FinMap, get, insert, len, same_map, nat_cmp-IsAntisymmetric}
use Rattle.std.specs.Ordering.{nat_cmp}
use Rattle.moka_types.specs.declared.calls.Ticket.{Ticket}
use Rattle.moka_types.specs.declared.error.InsertError.{InsertError}
use Rattle.moka_types.specs.declared.error.InsertError.TheVariants.{NumbersUsedUp, OutOfMemory}
use Rattle.moka_records.specs.declared.records.Operation.TheVariants.{Upsert}
use Rattle.moka_records.specs.declared.records.Record.{Record}
use Rattle.moka_parts.specs.Calls.{Weighs, HasInsertError, are_numbers_used_up, inserted, new_record}
use Rattle.moka_records.specs.Records.{Records, record_of_key, with_record}
use Rattle.moka_parts.specs.Runs.{Engine}
use Rattle.moka_parts.specs.Settling.{IsValid, IsWaiting}
use Rattle.moka_parts.specs.State.{State, is_disabled}
use Rattle.moka_laws.proofs.CallsKeep.{inserted_valid, replaced_from, with_records_numbered}
use Rattle.moka_laws.proofs.Consistent.{renew_kept}
use Rattle.moka_records.proofs.Maps.{same_or_apart, get_inserted, get_past_insert}
use Rattle.moka_types.specs.declared.restores.Restored.{Restored}
use Rattle.moka_types.specs.declared.restores.RestoreRefused.{RestoreRefused}
use Rattle.moka_engine.specs.BaseCache.{IsStocked, IsEngine}
use Rattle.moka_parts.specs.Restores.{HasRestoreError, RestoreStep, is_unsupported, restore_error, restored_record, restored}
use Rattle.moka_engine.proofs.InsertSteps.{has_error, not_at_least, refusal}
use Rattle.moka_engine.proofs.Stocked.{stocked-inserted}
use Rattle.moka_inner.specs.Interior.{Interior, first_record, handing_out_inside}
use Rattle.moka_engine.proofs.EngineSteps.{with_inner, cache_with, without_room, inside-roomier, stocked-room, unexpiring-inserted, cache-inner, key-inside}

-- what is put in twice under a number is what is put in last
insert_again : {X : Type 0} (m : FinMap nat_cmp X) (n : ℕ) (x y : X) → insert (insert m n x) n y ≡ insert m n y
insert_again m n x y = same_map nat_cmp_total nat_cmp-IsAntisymmetric (insert (insert m n x) n y) (insert m n y) (λ k. elim (same_or_apart k n) [
  | inl same ↦ rw same (get_inserted (insert m n x) n y ∙ sym (get_inserted m n y))
  | inr apart ↦ get_past_insert (insert m n x) n y k apart ∙ get_past_insert m n x k apart ∙ sym (get_past_insert m n y k apart)
])

module _ {K V X P W : Type 0} (eq : K → K → Bool) where
  -- what always holds does so after an entry is put back
  pub restored_valid : (s : State K V X P W) (item : Restored K V) (hash w : ℕ) → IsEquivalence eq → is_disabled s.capacity ≡ false → record_of_key eq s.records item.key ≡ None → IsValid eq s → IsValid eq (restored s item hash w)
  restored_valid s item hash w laws enabled absent h =
      let created : X → K → V → ℕ → Option ℕ = λ _ _ _ _. None in
      let updating : X → K → V → ℕ → Option ℕ → Option ℕ = λ _ _ _ _ _. None in
      let t : State K V X P W = inserted created updating s item.key hash item.value item.last_modified w in
      let r : Record K V = new_record created updating s item.key hash item.value item.last_modified w in
      let q : Record K V = restored_record s item hash w in
      let valid = inserted_valid eq created updating s item.key hash item.value item.last_modified w laws enabled absent h in
      let there : get t.records s.next_number ≡ Some r = get_inserted s.records s.next_number r in
      subst (λ (records : Records K V). IsValid eq (record t { records = records })) (insert_again s.records s.next_number r q) (record {
        consistent = renew_kept (IsWaiting t) t.records t.access valid.consistent s.next_number r q there refl refl refl;
        numbered = with_records_numbered eq t (with_record t.records q) enabled valid.numbered (replaced_from eq t r q there refl refl);
        rising = valid.rising;
      })

  -- the state after an entry is put back
  restores : {S : Type 0} → (s : State K V X P W) (i j : Interior K V S) (inside : with_inner s i ≡ s) (item : Restored K V) (hash w : ℕ)
      → j ≡ record (handing_out_inside i (with_record i.kept.records (record (first_record i.next_number item.key hash (record { value = item.value; now = item.last_modified; expires = item.expires; weight = w })) { read = item.last_accessed })) (Upsert i.next_number 1 w hash) j) { next_number = i.next_number + 1 }
      → with_inner s j ≡ restored s item hash w
  restores s i j inside item hash w step = ap (with_inner s) step ∙ ap (λ (t : State K V X P W). restored t item hash w) inside

-- without an expiry no entry with one of its own is put back
lasts : {A B : Type 0} (e : Option A) (x : Option B) → (is_some e && not (is_some x)) ≡ false → x ≡ None → e ≡ None
lasts None x supported none = refl
lasts (Some e) x supported none = (let impossible : true ≡ false = rw none at supported in absurd (true≢false impossible))

-- what always holds of a cache after an entry was put back, once room was made
pub whole-restored : {K V X L P W S : Type 0} {eq : K → K → Bool} {read : X → K → V → ℕ → Option ℕ → ℕ → Option ℕ} {l : Option L} {s : State K V X P W} (laws : IsEquivalence eq) (before i j : Interior K V S) → IsEngine eq read l before.kept s → with_inner s before ≡ s → without_room i ≡ without_room before →
    is_disabled s.capacity ≡ false → (item : Restored K V) (hash w : ℕ) → record_of_key eq before.kept.records item.key ≡ None → is_unsupported s item ≡ false
    → j ≡ record (handing_out_inside i (with_record i.kept.records (record (first_record i.next_number item.key hash (record { value = item.value; now = item.last_modified; expires = item.expires; weight = w })) { read = item.last_accessed })) (Upsert i.next_number 1 w hash) j) { next_number = i.next_number + 1 } → IsEngine eq read l j.kept (with_inner s j)
whole-restored {K} {V} {X} {L} {P} {W} {S} {eq} {read} {l} {s} laws before i j h inside_before rooms enabled item hash w absent supported step =
    let inside = inside-roomier s before i inside_before rooms in
    let new : Record K V = record (first_record i.next_number item.key hash (record { value = item.value; now = item.last_modified; expires = item.expires; weight = w })) { read = item.last_accessed } in
    record {
      cache = cache-inner h.cache l refl j (restores eq s i j inside item hash w step) (restored_valid eq s item hash w laws enabled (key-inside h.cache before inside_before item.key None absent) h.cache.valid)
          (λ unset. unexpiring-inserted s.records (h.cache.served.unexpiring unset) s.next_number (restored_record s item hash w) (lasts item.expires s.settings.expiry supported unset));
      store = subst (λ (x : Interior K V S). IsStocked read s.settings x.kept) (sym step) (stocked-inserted (stocked-room before i rooms h.store) i.next_number new j.kept.places j.kept.room refl);
    }

-- ---- the step

-- where room is refused, that is the reason
refused_room : {K V X P W : Type 0} (weighs : W → K → V → ℕ → Type 0) (eq : K → K → Bool) (s : State K V X P W) (item : Restored K V) → record_of_key eq s.records item.key ≡ None → is_unsupported s item ≡ false → (error : InsertError) → HasInsertError s 1 error → HasRestoreError weighs eq s item (restore_error error)
refused_room weighs eq s item absent supported NumbersUsedUp used_up = (absent, supported, used_up)
refused_room weighs eq s item absent supported OutOfMemory enough = (absent, supported, enough)

-- of an entry whose key has no record, once room was asked for
module _ {K V X L P W S : Type 0} (weighs : W → K → V → ℕ → Type 0) (eq : K → K → Bool) {old now : Engine K V S X L P W} (is : old ≡ now) (before i : Interior K V S) (held : cache_with old before ≡ old) (rooms : without_room i ≡ without_room before) (item : Restored K V) (hash_by : S → ℕ) (absent : record_of_key eq before.kept.records item.key ≡ None) (supported : is_unsupported old.state item ≡ false) where
  abbrev Restores : Result Ticket (RestoreRefused K V) → Interior K V S → Engine K V S X L P W → Type 0
  Restores a j c = RestoreStep weighs eq c.state item (hash_by c.hasher) a (with_inner old.state j)

  inside_first : with_inner old.state before ≡ old.state
  inside_first = ap (λ (c : Engine K V S X L P W). c.state) held

  inside_still : with_inner old.state i ≡ old.state
  inside_still = inside-roomier old.state before i inside_first rooms

  absent_there : record_of_key eq old.state.records item.key ≡ None
  absent_there = ap (λ (t : State K V X P W). record_of_key eq t.records item.key) (sym inside_first) ∙ absent

  -- there is no room for it
  pub not_put_back : (error : InsertError) → (refusal error ≡ refusal NumbersUsedUp) ↔ (2 ^ 64 ≤ before.next_ticket + len before.kept.records + 1) → Restores (Err (record { error = restore_error error; item = item })) i now
  not_put_back error used_up =
      let refused : HasInsertError (with_inner old.state before) 1 error = has_error (with_inner old.state before) 1 error used_up in
      subst (Restores (Err (record { error = restore_error error; item = item })) i) is
      (refl, refused_room weighs eq old.state item absent_there supported error (subst (λ (t : State K V X P W). HasInsertError t 1 error) inside_first refused), inside_still)

  -- it has its record
  pub put_back : (hash w : ℕ) → hash ≡ hash_by old.hasher → Weighs weighs old.state.settings.weigher item.key item.value w → (2 ^ 64 ≤ before.next_ticket + len before.kept.records + 1 → ⊥) → (j : Interior K V S) (ticket : Ticket) → ticket.0 ≡ i.next_ticket
      → j ≡ record (handing_out_inside i (with_record i.kept.records (record (first_record i.next_number item.key hash (record { value = item.value; now = item.last_modified; expires = item.expires; weight = w })) { read = item.last_accessed })) (Upsert i.next_number 1 w hash) j) { next_number = i.next_number + 1 } → Restores (Ok ticket) j now
  put_back hash w own weighed enough j ticket next step =
      let numbers : nat_le (2 ^ 64) (before.next_ticket + len before.kept.records + 1) ≡ false = not_at_least (2 ^ 64) (before.next_ticket + len before.kept.records + 1) enough in
      let made = restores eq old.state i j inside_still item hash w step ∙ ap (λ (h : ℕ). restored old.state item h w) own in
      subst (Restores (Ok ticket) j) is
      (w, weighed, absent_there, supported, subst (λ (t : State K V X P W). are_numbers_used_up t 1 ≡ false) inside_first numbers, next ∙ ap (λ (t : State K V X P W). t.next_ticket) inside_still, made)
