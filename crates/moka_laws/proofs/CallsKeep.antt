-- Every call keeps what holds at every moment.
use Rattle.std.proofs.Common.{◌≡◌, refl, ℕ, ◌+◌, ◌<◌, Bool, true, false, List, Option, Some, None, ap, sym, ◌∙◌, subst, ◌⊎◌, inl, inr, arith, true≢false}
use Rattle.std.specs.Cmp.{IsEquivalence}
use Rattle.std.specs.FinMap.{get, insert, remove}
use Rattle.moka_laws.proofs.Types.{Instant, Record, Operation, Upsert, Removal, Ticketed, Records, Operations, State}
use Rattle.moka_records.specs.Records.{counted_of, record_of_key}
use Rattle.moka_parts.specs.State.{is_disabled}
use Rattle.moka_parts.specs.Settling.{number_of, IsWaiting, IsTracked, AreTicketed, IsWellNumbered, IsValid, IsConsistent}
use Rattle.moka_parts.specs.Calls.{new_record, inserted, updated_record, replaced, handing_out}
use Rattle.moka_records.proofs.Maps.{nothing_at, found_inserted, found_removed}
use Rattle.moka_laws.proofs.Waiting.{HandsOut, hands_out, waits_at}
use Rattle.moka_laws.proofs.Consistent.{take_kept, put_kept}
use Rattle.moka_laws.proofs.Rising.{rising_handed, IsLatest}
use Rattle.moka_records.proofs.Lookup.{record_of_key_found, absent_key}
use Rattle.std.proofs.lemmas.Bool.{false_from_ne_true}

none_there : {A : Type 0} (o : Option A) → ((x : A) → o ≡ Some x → ⊥) → o ≡ None
none_there None h = refl
none_there (Some x) h = absurd (h x refl)

-- one more is handed out under the next ticket
pub ticketed_handed : (outstanding : Operations) (writes : List Ticketed) (next : ℕ) (o : Operation) → AreTicketed outstanding writes next → AreTicketed (insert outstanding next o) writes (next + 1)
ticketed_handed outstanding writes next o h = record {
  handed = λ ticket p there. elim (found_inserted outstanding next o ticket p there) [
    | inl (same, one) ↦ omega arith
    | inr (apart, before) ↦ let below = h.handed ticket p before in omega arith
  ];
  sent = λ q there. let below = h.sent q there in omega arith;
}

module _ {K V X P W : Type 0} (eq : K → K → Bool) where
  -- the next number is no record's, the next ticket no operation's, and nothing waits of the next number
  pub next_number_free : (s : State K V X P W) → IsWellNumbered eq s → get s.records s.next_number ≡ None
  next_number_free s h = none_there (get s.records s.next_number) (λ r there. let below = (h.numbered.numbered s.next_number r there).1 in omega arith)

  -- the next ticket is not in use
  pub next_ticket_free : (s : State K V X P W) → IsWellNumbered eq s → get s.outstanding s.next_ticket ≡ None
  next_ticket_free s h = none_there (get s.outstanding s.next_ticket) (λ x there. let below = h.ticketed.handed s.next_ticket x there in omega arith)

  -- nothing waits of the next number
  pub nothing_waits_of_next : (s : State K V X P W) → IsWellNumbered eq s → (x : Operation) → IsWaiting s x → number_of x ≡ s.next_number → ⊥
  nothing_waits_of_next s h x waits same = let below = h.numbered.known x waits in omega arith

  -- ---- other changes of records and operations

  -- other records under the same numbers
  pub with_records_numbered : (s : State K V X P W) (records : Records K V) → is_disabled s.capacity ≡ false → IsWellNumbered eq s →
      ((n : ℕ) (r : Record K V) → get records n ≡ Some r → (q : Record K V) × (get s.records n ≡ Some q) × ((r.key ≡ q.key) × (r.number ≡ q.number))) → IsWellNumbered eq (record s { records = records })
  with_records_numbered s records on h old = record {
    numbered = record {
      numbered = λ k r there. let q = old k r there in let own = h.numbered.numbered k q.0 q.1 in (q.2.1 ∙ own.0, own.1);
      known = h.numbered.known;
      one_each = λ a b p q there also same. let x = old a p there in let y = old b q also in
          h.numbered.one_each a b x.0 y.0 x.1 y.1 (sym (ap (λ k. eq k y.0.key) x.2.0) ∙ sym (ap (eq p.key) y.2.0) ∙ same);
    };
    ticketed = h.ticketed;
    disabled = λ off. absurd (true≢false (sym off ∙ on));
  }

  -- the records change, and one more operation of a known number is handed out, the latest of its number
  handed_valid : (s : State K V X P W) (records : Records K V) (next_number : ℕ) (o : Operation) → IsValid eq s → (HandsOut (IsWaiting s) (IsWaiting (handing_out s o)) o → IsConsistent (IsWaiting (handing_out s o)) records s.access) →
      IsWellNumbered eq (record s { records = records; next_number = next_number }) → number_of o < next_number → IsLatest s.outstanding s.writes o → IsValid eq (handing_out (record s { records = records; next_number = next_number }) o)
  handed_valid s records next_number o h consistent numbered own latest = record {
    consistent = consistent out;
    numbered = record {
      numbered = record { numbered = numbered.numbered.numbered; known = λ x waits. known x (out.back x waits); one_each = numbered.numbered.one_each };
      ticketed = ticketed_handed s.outstanding s.writes s.next_ticket o h.numbered.ticketed;
      disabled = numbered.disabled;
    };
    rising = rising_handed s.outstanding s.writes s.next_ticket o h.numbered.ticketed latest h.rising;
  }
    where
      out : HandsOut (IsWaiting s) (IsWaiting (handing_out s o)) o
      out = hands_out s.outstanding s.writes s.next_ticket o (next_ticket_free s h.numbered)

      known : (x : Operation) → IsWaiting s x ⊎ (x ≡ o) → number_of x < next_number
      known x (inl waits) = numbered.numbered.known x waits
      known x (inr same) = subst (λ n. n < next_number) (sym (ap number_of same)) own

  -- a record of the map stands at its own number
  pub record_at_its_number : (s : State K V X P W) (key : K) (r : Record K V) → IsWellNumbered eq s → record_of_key eq s.records key ≡ Some r → get s.records r.number ≡ Some r
  record_at_its_number s key r h found =
      let at = record_of_key_found eq s.records key r found in
      ap (get s.records) (h.numbered.numbered at.0 r at.1).0 ∙ at.1

  -- where a record is found, the map is not disabled
  pub found_enabled : (s : State K V X P W) (key : K) (r : Record K V) → IsWellNumbered eq s → record_of_key eq s.records key ≡ Some r → is_disabled s.capacity ≡ false
  found_enabled s key r h found = false_from_ne_true (is_disabled s.capacity) (λ off.
      let at = record_of_key_found eq s.records key r found in
      nothing_at at.0 r (sym (ap (λ m. get m at.0) (h.disabled off).no_records) ∙ at.1))

  -- a record in place of the one at its number, with the same key
  pub replaced_from : (s : State K V X P W) (r q : Record K V) → get s.records r.number ≡ Some r → q.key ≡ r.key → q.number ≡ r.number → (n : ℕ) (x : Record K V) → get (insert s.records r.number q) n ≡ Some x → (y : Record K V) × (get s.records n ≡ Some y) × ((x.key ≡ y.key) × (x.number ≡ y.number))
  replaced_from s r q there key number n x at = elim (found_inserted s.records r.number q n x at) [
    | inl (same, one) ↦ (r, ap (get s.records) same ∙ there, (sym (ap (λ (z : Record K V). z.key) one) ∙ key, sym (ap (λ (z : Record K V). z.number) one) ∙ number))
    | inr (apart, before) ↦ (x, before, (refl, refl))
  ]

  -- ---- inserts

  module _ (created : X → K → V → ℕ → Option ℕ) (updated : X → K → V → ℕ → Option ℕ → Option ℕ) where
    -- of a new key
    pub inserted_valid : (s : State K V X P W) (key : K) (hash : ℕ) (value : V) (now : Instant) (w : ℕ) → IsEquivalence eq → is_disabled s.capacity ≡ false → record_of_key eq s.records key ≡ None → IsValid eq s → IsValid eq (inserted created updated s key hash value now w)
    inserted_valid s key hash value now w laws on absent h =
        handed_valid s (insert s.records s.next_number new) (s.next_number + 1) (Upsert s.next_number 1 w hash) h
        (put_kept (IsWaiting s) (IsWaiting (inserted created updated s key hash value now w)) s.records s.access h.consistent s.next_number new hash (omega arith)
        (λ g v x waits. absurd (nothing_waits_of_next s n (Upsert s.next_number g v x) waits refl)) (λ g waits. nothing_waits_of_next s n (Removal s.next_number g) waits refl))
        (record {
          numbered = record { numbered = numbered; known = λ x waits. let below = n.numbered.known x waits in omega arith; one_each = one_each };
          ticketed = n.ticketed;
          disabled = λ off. absurd (true≢false (sym off ∙ on));
        })
        (omega arith) (λ ticket g v x waits. absurd (nothing_waits_of_next s n (Upsert s.next_number g v x) (waits_at s.outstanding s.writes ticket (Upsert s.next_number g v x) waits) refl))
      where
        n : IsWellNumbered eq s
        n = h.numbered

        new : Record K V
        new = new_record created updated s key hash value now w

        numbered : (k : ℕ) (r : Record K V) → get (insert s.records s.next_number new) k ≡ Some r → (r.number ≡ k) × (k < s.next_number + 1)
        numbered k r there = elim (found_inserted s.records s.next_number new k r there) [
          | inl (same, one) ↦ (sym (ap (λ (x : Record K V). x.number) one) ∙ sym same, omega arith)
          | inr (apart, old) ↦ let own = n.numbered.numbered k r old in let below = own.1 in (own.0, omega arith)
        ]

        no_other : (k : ℕ) (r : Record K V) → get s.records k ≡ Some r → eq key r.key ≡ true → ⊥
        no_other k r there same = true≢false (sym same ∙ absent_key eq s.records key absent k r there)

        one_each : (a b : ℕ) (p q : Record K V) → get (insert s.records s.next_number new) a ≡ Some p → get (insert s.records s.next_number new) b ≡ Some q → eq p.key q.key ≡ true → a ≡ b
        one_each a b p q there also alike = elim (found_inserted s.records s.next_number new a p there) [
          | inl (same, mine) ↦ elim (found_inserted s.records s.next_number new b q also) [
            | inl (too, its) ↦ same ∙ sym too
            | inr (apart, old) ↦ absurd (no_other b q old (ap (λ (x : Record K V). eq x.key q.key) mine ∙ alike))
          ]
          | inr (apart, old) ↦ elim (found_inserted s.records s.next_number new b q also) [
            | inl (too, its) ↦ absurd (no_other a p old (laws.symm key p.key ∙ ap (λ (x : Record K V). eq p.key x.key) its ∙ alike))
            | inr (far, too) ↦ n.numbered.one_each a b p q old too alike
          ]
        ]

  -- of a key that has a record
  pub replaced_valid : (created : X → K → V → ℕ → Option ℕ) (updated : X → K → V → ℕ → Option ℕ → Option ℕ) (s : State K V X P W) (r : Record K V) (key : K) (hash : ℕ) (value : V) (now : Instant) (w : ℕ) → record_of_key eq s.records key ≡ Some r → IsValid eq s → IsValid eq (replaced created updated s r key hash value now w)
  replaced_valid created updated s r key hash value now w found h =
      let there : get s.records r.number ≡ Some r = record_at_its_number s key r h.numbered found in
      let q : Record K V = updated_record created updated s r key value now w in
      let on : is_disabled s.capacity ≡ false = found_enabled s key r h.numbered found in
      let old : IsTracked (IsWaiting s) r.number r (counted_of r.number s.access) = rw there at (h.consistent.sound r.number) in
      let low = old.applied in
      let older : (g v x : ℕ) → IsWaiting s (Upsert r.number g v x) → g < r.generation + 1 = λ g v x waits. let at_most = (old.carried g v x waits).0 in omega arith in
      handed_valid s (insert s.records r.number q) s.next_number (Upsert r.number (r.generation + 1) w hash) h
      (put_kept (IsWaiting s) (IsWaiting (replaced created updated s r key hash value now w)) s.records s.access h.consistent r.number q hash (omega arith) older old.stays)
      (with_records_numbered s (insert s.records r.number q) on h.numbered (replaced_from s r q there refl refl))
      (h.numbered.numbered.numbered r.number r there).1 (λ t g v x waits. older g v x (waits_at s.outstanding s.writes t (Upsert r.number g v x) waits))

  -- ---- removals

  -- of the record that a key has
  pub removal_valid : (s : State K V X P W) (key : K) (r : Record K V) → record_of_key eq s.records key ≡ Some r → IsValid eq s → IsValid eq (handing_out (record s { records = remove s.records r.number }) (Removal r.number (r.generation + 1)))
  removal_valid s key r found h =
      let there : get s.records r.number ≡ Some r = record_at_its_number s key r h.numbered found in
      let o : Operation = Removal r.number (r.generation + 1) in
      handed_valid s (remove s.records r.number) s.next_number o h
      (take_kept (IsWaiting s) (IsWaiting (handing_out s o)) s.records s.access h.consistent r.number (r.generation + 1))
      (with_records_numbered s (remove s.records r.number) (found_enabled s key r h.numbered found) h.numbered (λ n x at. (x, (found_removed s.records r.number n x at).1, (refl, refl))))
      (h.numbered.numbered.numbered r.number r there).1 tt
