-- The changes that calls in the order of time make keep a state in order.
use Rattle.std.proofs.Common.{◌≡◌, refl, ℕ, ◌+◌, ◌<◌, ◌≤◌, Bool, ◌==◌, List, map, Option, Some, None, ap, sym, ◌∙◌, subst, ◌⊎◌, inl, inr, arith, if◌then◌else◌, Contains, option_and_then}
use Rattle.std.specs.FinMap.{get, insert, remove}
use Rattle.moka_laws.proofs.Types.{Instant, Record, Registered, ReadOperation, Ticketed, Operation, Upsert, Removal, Housekeeping, State}
use Rattle.moka_records.specs.Records.{record_of_key, with_record, counted_of}
use Rattle.moka_parts.specs.Settling.{IsWaiting, IsTracked, IsValid, WaitsAt}
use Rattle.moka_parts.specs.Order.{waiting_by_ticket, written_if, written_by, IsNewer, IsInOrder}
use Rattle.moka_parts.specs.Calls.{handing_out, new_record, inserted, updated_record, replaced, hit_record, after_hit}
use Rattle.moka_records.proofs.Maps.{same_or_apart, itself_tested, get_inserted, get_past_insert, get_removed, get_past_remove, apart_below, found_inserted}
use Rattle.moka_laws.proofs.RunKeeps.{keeps_remove}
use Rattle.moka_laws.proofs.Rises.{thins_each, thins_all}
use Rattle.moka_laws.proofs.InOrder.{settled_moment, settled_at, waiting_at, waiting_less, IsLater, IsOrdered, newer_left}
use Rattle.moka_laws.proofs.OrderKept.{of_each}
use Rattle.moka_laws.proofs.Tickets.{each_waits}
use Rattle.moka_laws.proofs.OrderedStates.{ordered_from, in_order_from, handed_in_order}
use Rattle.moka_laws.proofs.CallsKeep.{record_at_its_number, nothing_waits_of_next}
use Rattle.moka_laws.proofs.Waiting.{waits_at}

-- ---- one change of a state

module _ {K V X P W : Type 0} (s : State K V X P W) (ns : List ℕ) (o : IsInOrder s ns) where
  -- what the order does not speak of may change
  pub order_with : (reads : List ReadOperation) (bound : Option Instant) (predicates : List (Registered P)) (housekeeping : Housekeeping) (capacity : Option ℕ) (next_number : ℕ) → IsInOrder (record s { reads = reads; invalid_before = bound; predicates = predicates; housekeeping = housekeeping; capacity = capacity; next_number = next_number }) ns
  order_with reads bound predicates housekeeping capacity next_number = record { listed = o.listed; rising = o.rising; below = o.below; newer = o.newer; written = o.written }

  module _ (eq : K → K → Bool) (h : IsValid eq s) where
    pub waits : (q : Ticketed) → Contains (waiting_by_ticket s) q → WaitsAt s.outstanding s.writes q.ticket q.operation
    waits q there = of_each (λ (q : Ticketed). WaitsAt s.outstanding s.writes q.ticket q.operation) (waiting_by_ticket s) (each_waits s.outstanding s.writes) q there

    -- a record is put in, newer than all that waits of it and written no earlier than any
    module _ (n g w x : ℕ) (q : Record K V) (fresh : q.applied < g) (present : q.generation ≡ g)
        (older : (t k v y : ℕ) → Contains (waiting_by_ticket s) (record { ticket = t; operation = Upsert n k v y }) → (q.applied < k) × (k < g))
        (last : (k : ℕ) (r : Record K V) → get s.records k ≡ Some r → r.written.0 ≤ q.written.0) where
      put_settled : (k : ℕ) → (settled_at (insert s.records n q) k ≡ settled_at s.records k) ⊎ (settled_at (insert s.records n q) k ≡ None)
      put_settled k = elim (same_or_apart k n) [
        | inl same ↦ inr (ap (settled_at (insert s.records n q)) same ∙ ap settled_moment (get_inserted s.records n q) ∙ ap (λ b. if b then Some q.written.0 else None) (apart_below q.applied q.generation (subst (λ i. q.applied < i) (sym present) fresh)))
        | inr apart ↦ inl (ap settled_moment (get_past_insert s.records n q k apart))
      ]

      put_waiting : (p : Operation) (t : ℕ) → Contains (waiting_by_ticket s) (record { ticket = t; operation = p }) → (written_by (insert s.records n q) p ≡ written_by s.records p) ⊎ (written_by (insert s.records n q) p ≡ None)
      put_waiting (Removal m k) t wait = inl refl
      put_waiting (Upsert m k v y) t wait = elim (same_or_apart m n) [
        | inl same ↦ (let old = older t k v y (subst (λ i. Contains (waiting_by_ticket s) (record { ticket = t; operation = Upsert i k v y })) same wait) in
            inr (ap (option_and_then (written_if (insert s.records n q) k)) (ap (get (insert s.records n q)) same ∙ get_inserted s.records n q) ∙ ap (λ b. if b then Some q.written.0 else None) (apart_below k q.generation (subst (λ i. k < i) (sym present) old.1))))
        | inr apart ↦ inl (ap (option_and_then (written_if s.records k)) (get_past_insert s.records n q m apart))
      ]

      put_newer : (p : Operation) (t : ℕ) → Contains (waiting_by_ticket s) (record { ticket = t; operation = p }) → IsNewer s.records p → IsNewer (insert s.records n q) p
      put_newer (Removal m k) t wait old = tt
      put_newer (Upsert m k v y) t wait old = λ r there. elim (found_inserted s.records n q m r there) [
        | inl (same, one) ↦ subst (λ (z : Record K V). z.applied < k) one (older t k v y (subst (λ i. Contains (waiting_by_ticket s) (record { ticket = t; operation = Upsert i k v y })) same wait)).0
        | inr (apart, before) ↦ old r before
      ]

      put_later : (p : Operation) (t : ℕ) → Contains (waiting_by_ticket s) (record { ticket = t; operation = p }) → IsLater p (Upsert n g w x)
      put_later (Removal m k) t wait = tt
      put_later (Upsert m k v y) t wait = λ same. (older t k v y (subst (λ i. Contains (waiting_by_ticket s) (record { ticket = t; operation = Upsert i k v y })) same wait)).1

      put_last : (k : ℕ) (r : Record K V) → get (insert s.records n q) k ≡ Some r → r.written.0 ≤ q.written.0
      put_last k r there = elim (found_inserted s.records n q k r there) [
        | inl (same, one) ↦ subst (λ (z : Record K V). z.written.0 ≤ q.written.0) one (omega arith)
        | inr (apart, before) ↦ last k r before
      ]

      pub put_in_order : IsInOrder (handing_out (record s { records = insert s.records n q }) (Upsert n g w x)) ns
      put_in_order = handed_in_order s ns (insert s.records n q) (Upsert n g w x) h.numbered.ticketed h.rising o put_settled
          (λ a there. put_waiting a.operation a.ticket there) (λ a there. put_newer a.operation a.ticket there (o.newer a there))
          (λ r there. let both : Some q ≡ Some r = sym (get_inserted s.records n q) ∙ there in let one : q ≡ r = cc in subst (λ (z : Record K V). z.applied < g) one fresh)
          (λ a there. put_later a.operation a.ticket there)
          (inr (q.written.0, ap (option_and_then (written_if (insert s.records n q) g)) (get_inserted s.records n q) ∙ ap (λ b. if b then Some q.written.0 else None) (ap (λ i. g == i) present ∙ itself_tested g), put_last))

    -- a record leaves, and its removal is handed out
    pub taken_in_order : (n g : ℕ) → IsInOrder (handing_out (record s { records = remove s.records n }) (Removal n g)) ns
    taken_in_order n g = handed_in_order s ns (remove s.records n) (Removal n g) h.numbered.ticketed h.rising o settled
        (λ a there. waiting_less s.records (remove s.records n) (keeps_remove s.records n) a) (λ a there. newer_left s.records n a.operation (o.newer a there)) tt (λ a there. any a.operation) (inl refl)
      where
        settled : (k : ℕ) → (settled_at (remove s.records n) k ≡ settled_at s.records k) ⊎ (settled_at (remove s.records n) k ≡ None)
        settled k = elim (same_or_apart k n) [
          | inl same ↦ inr (ap settled_moment (ap (get (remove s.records n)) same ∙ get_removed s.records n))
          | inr apart ↦ inl (ap settled_moment (get_past_remove s.records n k apart))
        ]

        any : (p : Operation) → IsLater p (Removal n g)
        any (Removal m k) = tt
        any (Upsert m k v y) = tt

    -- a record is read
    pub renewed_in_order : (n : ℕ) (r q : Record K V) → get s.records n ≡ Some r → q.generation ≡ r.generation → q.applied ≡ r.applied → q.written.0 ≡ r.written.0 → IsInOrder (record s { records = insert s.records n q }) ns
    renewed_in_order n r q there generation applied written =
        let old : IsOrdered s.records s.access ns (waiting_by_ticket s) = ordered_from s ns o h.rising in
        in_order_from (record s { records = insert s.records n q }) ns (record {
          once = old.once;
          members = old.members;
          newer = λ a wait. newer a.operation (old.newer a wait);
          rises = thins_each (settled_at s.records) (settled_at (insert s.records n q)) ns (map (waiting_at s.records) (waiting_by_ticket s)) (map (waiting_at (insert s.records n q)) (waiting_by_ticket s)) (λ k. inl (settled k))
              (thins_all (waiting_at s.records) (waiting_at (insert s.records n q)) (waiting_by_ticket s) (λ a. inl (waiting a.operation))) 0 old.rises;
          later = old.later;
        }) o.rising o.below
      where
        settled : (k : ℕ) → settled_at (insert s.records n q) k ≡ settled_at s.records k
        settled k = elim (same_or_apart k n) [
          | inl same ↦ ap (settled_at (insert s.records n q)) same ∙ ap settled_moment (get_inserted s.records n q)
              ∙ ap (λ b. if b then Some q.written.0 else None) (ap (λ i. i == q.generation) applied ∙ ap (λ i. r.applied == i) generation) ∙ ap (λ i. if r.applied == r.generation then Some i else None) written
              ∙ sym (ap settled_moment there) ∙ sym (ap (settled_at s.records) same)
          | inr apart ↦ ap settled_moment (get_past_insert s.records n q k apart)
        ]

        waiting : (p : Operation) → written_by (insert s.records n q) p ≡ written_by s.records p
        waiting (Removal m k) = refl
        waiting (Upsert m k v y) = elim (same_or_apart m n) [
          | inl same ↦ ap (λ i. option_and_then (written_if s.records k) (get (insert s.records n q) i)) same ∙ ap (option_and_then (written_if s.records k)) (get_inserted s.records n q)
              ∙ ap (λ i. if k == i then Some q.written.0 else None) generation ∙ ap (λ i. if k == r.generation then Some i else None) written
              ∙ sym (ap (option_and_then (written_if s.records k)) there) ∙ sym (ap (λ i. option_and_then (written_if s.records k) (get s.records i)) same)
          | inr apart ↦ ap (option_and_then (written_if s.records k)) (get_past_insert s.records n q m apart)
        ]

        newer : (p : Operation) → IsNewer s.records p → IsNewer (insert s.records n q) p
        newer (Removal m k) old = tt
        newer (Upsert m k v y) old = λ z at. elim (found_inserted s.records n q m z at) [
          | inl (same, one) ↦ subst (λ (z : Record K V). z.applied < k) one (subst (λ i. i < k) (sym applied) (old r (ap (get s.records) same ∙ there)))
          | inr (apart, before) ↦ old z before
        ]

-- ---- the changes that calls make

module _ {K V X P W : Type 0} (eq : K → K → Bool) where
  module _ (created : X → K → V → ℕ → Option ℕ) (updated : X → K → V → ℕ → Option ℕ → Option ℕ) where
    -- an insert of a new key
    pub inserted_in_order : (s : State K V X P W) (ns : List ℕ) (key : K) (hash : ℕ) (value : V) (now : Instant) (w : ℕ) → IsValid eq s → ((n : ℕ) (r : Record K V) → get s.records n ≡ Some r → r.written.0 ≤ now.0) → IsInOrder s ns → IsInOrder (inserted created updated s key hash value now w) ns
    inserted_in_order s ns key hash value now w h last o =
        let q : Record K V = new_record created updated s key hash value now w in
        let put = put_in_order s ns o eq h s.next_number 1 w hash q (omega arith) refl (λ t k v y there. absurd (nothing_waits_of_next eq s h.numbered (Upsert s.next_number k v y) (waits_at s.outstanding s.writes t (Upsert s.next_number k v y) (waits s ns o eq h (record { ticket = t; operation = Upsert s.next_number k v y }) there)) refl)) last in
        order_with (handing_out (record s { records = with_record s.records q }) (Upsert s.next_number 1 w hash)) ns put s.reads s.invalid_before s.predicates s.housekeeping s.capacity (s.next_number + 1)

    -- and of a known one
    pub replaced_in_order : (s : State K V X P W) (ns : List ℕ) (r : Record K V) (key : K) (hash : ℕ) (value : V) (now : Instant) (w : ℕ) → IsValid eq s → record_of_key eq s.records key ≡ Some r → ((n : ℕ) (r : Record K V) → get s.records n ≡ Some r → r.written.0 ≤ now.0) → IsInOrder s ns → IsInOrder (replaced created updated s r key hash value now w) ns
    replaced_in_order s ns r key hash value now w h found last o =
        let there : get s.records r.number ≡ Some r = record_at_its_number eq s key r h.numbered found in
        let tracked : IsTracked (IsWaiting s) r.number r (counted_of r.number s.access) = rw there at (h.consistent.sound r.number) in
        let low = tracked.applied in
        put_in_order s ns o eq h r.number (r.generation + 1) w hash (updated_record created updated s r key value now w) (omega arith) refl
        (λ t k v y wait. (o.newer (record { ticket = t; operation = Upsert r.number k v y }) wait r there, (let below = (tracked.carried k v y (waits_at s.outstanding s.writes t (Upsert r.number k v y) (waits s ns o eq h (record { ticket = t; operation = Upsert r.number k v y }) wait))).0 in omega arith))) last

  -- a hit
  pub hit_in_order : (read : X → K → V → ℕ → Option ℕ → ℕ → Option ℕ) (s : State K V X P W) (ns : List ℕ) (key : K) (r : Record K V) (now : ℕ) → IsValid eq s → record_of_key eq s.records key ≡ Some r → IsInOrder s ns → IsInOrder (after_hit read s r now) ns
  hit_in_order read s ns key r now h found o = renewed_in_order s ns o eq h r.number r (hit_record read s r now) (record_at_its_number eq s key r h.numbered found) refl refl refl
