-- What was put back is there when all has been put back, where nothing but time takes a record out.
use Rattle.std.proofs.Common.{◌≡◌, refl, ℕ, ◌+◌, ◌<◌, Bool, false, List, [], ◌∷◌, ◌++◌, Option, Some, None, Ok, ap, sym, subst, ◌∙◌, inl, inr, arith}
use Rattle.std.specs.Cmp.{IsEquivalence}
use Rattle.std.specs.FinMap.{get, insert, values}
use Rattle.std.proofs.lemmas.List.Sums.{sum_by-cons}
use Rattle.std.proofs.lemmas.List.Sorted.{sum_by-IsPermutation}
use Rattle.std.specs.List.{AllByRecursion}
use Rattle.std.proofs.lemmas.Option.{same_Some}
use Rattle.moka_types.specs.declared.calls.Ticket.{Ticket}
use Rattle.moka_records.specs.declared.records.Operation.TheVariants.{Upsert}
use Rattle.moka_records.specs.declared.records.Record.{Record}
use Rattle.moka_parts.specs.Exact.{weight_of_records}
use Rattle.moka_parts.specs.Settling.{IsValid, IsWaiting}
use Rattle.moka_parts.specs.State.{State, is_disabled}
use Rattle.moka_parts.specs.Visibility.{has_lapsed}
use Rattle.moka_laws.proofs.CallsKeep.{next_number_free}
use Rattle.moka_records.proofs.Lookup.{record_of_key_found, present_key}
use Rattle.moka_records.proofs.Maps.{same_or_apart, get_inserted, get_past_insert}
use Rattle.moka_records.proofs.Values.{values_inserted}
use Rattle.moka_engine.specs.parts.Restored.{Restored}
use Rattle.moka_engine.specs.Restores.{RestoreStep, restored, restored_record}
use Rattle.moka_cache.proofs.Restoring.{of_applied}
use Rattle.moka_cache.specs.Saves.{AreAsWeighed, HasRoomFor, IsOfItem, IsRestored, IsRoomyFor, KeepsUnexpired, TakesOnlyExpired, has_expired}

module _ {K V X P W : Type 0} (eq : K → K → Bool) where
  -- putting an entry back takes nothing out, and leaves room for the others
  module _ (weighs : W → K → V → ℕ → Type 0) (s t : State K V X P W) (item : Restored K V) (hash : ℕ) (ticket : Ticket) (step : RestoreStep weighs eq s item hash (Ok ticket) t) (valid : IsValid eq s) where
    abbrev record_of : Record K V
    record_of = restored_record s item hash step.0

    -- what was there stands at another number
    past : (n : ℕ) → n < s.next_number → get (insert s.records s.next_number record_of) n ≡ get s.records n
    past n below = elim (same_or_apart n s.next_number) [
      | inl same ↦ absurd (omega arith)
      | inr apart ↦ get_past_insert s.records s.next_number record_of n apart
    ]

    still : (n : ℕ) (r : Record K V) → get s.records n ≡ Some r → get (insert s.records s.next_number record_of) n ≡ Some r
    still n r there = past n (valid.numbered.numbered.numbered n r there).1 ∙ there

    weight_after : weight_of_records (insert s.records s.next_number record_of) ≡ step.0 + weight_of_records s.records
    weight_after =
        sum_by-IsPermutation (λ (x : Record K V). x.weight) _ _ (values_inserted s.records s.next_number record_of (next_number_free eq s valid.numbered)) ∙ sum_by-cons (λ (x : Record K V). x.weight) record_of (values s.records)

    weighed_after : AreAsWeighed s → AreAsWeighed (restored s item hash step.0)
    weighed_after weighed = record {
      once = weighed.once;
      counted = λ n w is. let at = weighed.counted n w is in (at.0, still n at.0 at.1, at.2);
      waiting = waits;
    }
      where
        before : (n g w x : ℕ) → IsWaiting s (Upsert n g w x) → (r : Record K V) → get (insert s.records s.next_number record_of) n ≡ Some r → r.weight ≡ w
        before n g w x is r there = weighed.waiting n g w x is r (sym (past n (valid.numbered.numbered.known (Upsert n g w x) is)) ∙ there)

        own : (n g w x : ℕ) → Upsert s.next_number 1 step.0 hash ≡ Upsert n g w x → (r : Record K V) → get (insert s.records s.next_number record_of) n ≡ Some r → r.weight ≡ w
        own n g w x same r there =
            let number : s.next_number ≡ n = cc in
            let weight : step.0 ≡ w = cc in
            let is : record_of ≡ r = same_Some record_of r (sym (get_inserted s.records s.next_number record_of) ∙ ap (get (insert s.records s.next_number record_of)) number ∙ there) in
            sym (ap (λ (y : Record K V). y.weight) is) ∙ weight

        waits : (n g w x : ℕ) → IsWaiting (restored s item hash step.0) (Upsert n g w x) → (r : Record K V) → get (insert s.records s.next_number record_of) n ≡ Some r → r.weight ≡ w
        waits n g w x (inr queued) r there = before n g w x (inr queued) r there
        waits n g w x (inl (k, at)) r there = elim (same_or_apart k s.next_ticket) [
          | inl same ↦
              own n g w x (same_Some (Upsert s.next_number 1 step.0 hash) (Upsert n g w x) (sym (get_inserted s.outstanding s.next_ticket (Upsert s.next_number 1 step.0 hash)) ∙ sym (ap (get (insert s.outstanding s.next_ticket (Upsert s.next_number 1 step.0 hash))) same) ∙ at)) r there
          | inr apart ↦ before n g w x (inl (k, sym (get_past_insert s.outstanding s.next_ticket (Upsert s.next_number 1 step.0 hash) k apart) ∙ at)) r there
        ]

    room_after : (others : List (Restored K V)) (o : Option ℕ) → HasRoomFor weighs o (item ∷ others) s → HasRoomFor weighs o others (restored s item hash step.0)
    room_after others None room = tt
    room_after others (Some capacity) (enabled, weighed, (total, (own, rest, sum, most, weigh), enough)) =
        let fits = most step.0 step.1 in
        let all = weight_after in
        (enabled, weighed_after weighed, (rest, weigh, omega (arith, sum, fits, enough, all)))

    pub lasts_restored : (now : ℕ) → TakesOnlyExpired weighs (item ∷ []) now s t
    lasts_restored now others roomy =
        subst (λ (u : State K V X P W). KeepsUnexpired now s u × IsRoomyFor weighs others u) (sym step.6) (
          record { settings = refl; capacity = refl; there = λ n r there fresh. (r.applied, still n r there) },
          record { room = room_after others s.capacity roomy.room; bound = roomy.bound; predicates = roomy.predicates },
        )

  module _ (weighs : W → K → V → ℕ → Type 0) (now : ℕ) (s : State K V X P W) where
    -- a record of the entry is there
    abbrev HasRecord : State K V X P W → Restored K V → Type 0
    HasRecord t item = (n : ℕ) × (r : Record K V) × (get t.records n ≡ Some r) × IsOfItem item r

    -- of each that has not expired
    abbrev pub HaveRecords : State K V X P W → List (Restored K V) → Type 0
    HaveRecords t items = AllByRecursion (λ item. has_expired s.settings now item ≡ false → HasRecord t item) items

    -- they stay
    still_there : (t u : State K V X P W) → KeepsUnexpired now s t → t.invalid_before ≡ None → KeepsUnexpired now t u → (items : List (Restored K V)) → HaveRecords t items → HaveRecords u items
    still_there t u first bound second [] there = tt
    still_there t u first bound second (item ∷ items) (here, rest) = (λ unexpired. on unexpired (here unexpired), still_there t u first bound second items rest)
      where
        on : has_expired s.settings now item ≡ false → HasRecord t item → HasRecord u item
        on unexpired (n, r, there, of) =
            let fresh : has_lapsed t.settings t.invalid_before r now ≡ false = rw (first.settings, bound, of.expires_is, of.written_is, of.read_is, unexpired) refl in
            let after = second.there n r there fresh in
            (n, record r { applied = after.0 }, after.1, of_applied item r after.0 of)

    one_more : (u : State K V X P W) (items : List (Restored K V)) (item : Restored K V) → HaveRecords u items → HasRecord u item → HaveRecords u (items ++ item ∷ [])
    one_more u [] item all here = (λ unexpired. here, tt)
    one_more u (x ∷ items) item (first, rest) here = (first, one_more u items item rest here)

    enabled : (items : List (Restored K V)) (t : State K V X P W) (o : Option ℕ) → HasRoomFor weighs o items t → is_disabled o ≡ false
    enabled items t None room = refl
    enabled items t (Some capacity) room = room.0

    -- and one more comes to them
    pub records_more : (t u : State K V X P W) (items : List (Restored K V)) (item : Restored K V) (others : List (Restored K V)) → KeepsUnexpired now s t → IsRoomyFor weighs others t → KeepsUnexpired now t u → HaveRecords t items → (is_disabled t.capacity ≡ false → IsRestored eq u item) → HaveRecords u (items ++ item ∷ [])
    records_more t u items item others first roomy second all restored =
        let here = restored (enabled others t t.capacity roomy.room) in
        let at = record_of_key_found eq u.records item.key here.kept here.found in
        one_more u items item (still_there t u first roomy.bound second items all) (at.0, here.kept, at.1, here.of_item)

    -- so each is its key's record
    pub all_restored : (t : State K V X P W) → IsEquivalence eq → IsValid eq t → (items : List (Restored K V)) → HaveRecords t items → AllByRecursion (λ item. has_expired s.settings now item ≡ false → IsRestored eq t item) items
    all_restored t laws valid [] all = tt
    all_restored t laws valid (item ∷ items) (here, rest) = (λ unexpired. its (here unexpired), all_restored t laws valid items rest)
      where
        its : HasRecord t item → IsRestored eq t item
        its (n, r, there, of) = record {
          kept = r;
          found = present_key eq t.records item.key laws valid.numbered.numbered.one_each n r there (ap (eq item.key) of.key_is ∙ laws.refl item.key);
          of_item = of;
        }
