-- What an insert puts into the map is there when its ticket was posted.
use Rattle.std.proofs.Common.{◌≡◌, refl, ℕ, ◌<◌, ◌≤◌, Bool, true, false, Option, Some, None, Ok, ap, sym, subst, ◌∙◌, inr, arith}
use Rattle.std.specs.Cmp.{IsEquivalence}
use Rattle.std.specs.FinMap.{get}
use Rattle.moka_records.specs.declared.instant.Instant.{Instant}
use Rattle.moka_records.specs.declared.records.Record.{Record}
use Rattle.moka_records.specs.declared.records.Operation.{Operation}
use Rattle.moka_records.specs.declared.records.Operation.TheVariants.{Upsert, Removal}
use Rattle.moka_records.specs.declared.records.Ticketed.{Ticketed}
use Rattle.moka_types.specs.declared.calls.Ticket.{Ticket}
use Rattle.moka_records.specs.Records.{record_of_key, counted_of}
use Rattle.moka_parts.specs.State.{State, Events}
use Rattle.moka_parts.specs.Settling.{IsWaiting, IsTracked, IsValid}
use Rattle.moka_parts.specs.Expiry.{expires_at_first, expires_updated}
use Rattle.moka_parts.specs.Calls.{new_record, updated_record, InsertsAt, InsertStep, ContainsStep}
use Rattle.moka_parts.specs.Visibility.{has_lapsed, NoneCovers, IsShown}
use Rattle.moka_records.proofs.Maps.{get_inserted}
use Rattle.moka_records.proofs.Lookup.{record_of_key_found, present_key}
use Rattle.moka_laws.proofs.Tickets.{all_of}
use Rattle.moka_cache.specs.Unsent.{IsHeld, IsOlder, AreOlder, IsThere, ShowsWrites}

-- what waits is older than a record at the next number
pub next_is_newest : {K V X P W : Type 0} (eq : K → K → Bool) (s : State K V X P W) → IsValid eq s → (r : Record K V) → AreOlder s.next_number r s.writes
next_is_newest eq s valid r = all_of (λ (h : Ticketed). IsOlder s.next_number r h.operation) s.writes (λ h there. one h.operation (inr (h.ticket, there)))
  where
    one : (o : Operation) → IsWaiting s o → IsOlder s.next_number r o
    one (Upsert k g w x) waiting = λ same. let below : k < s.next_number = valid.numbered.numbered.known (Upsert k g w x) waiting in absurd (omega arith)
    one (Removal k g) waiting = tt

-- no expiry is set, and no record has one of its own
abbrev pub IsBare : {K V X P W : Type 0} → State K V X P W → Type 0
IsBare {K} {V} s = (s.settings.expiry ≡ None) × ((n : ℕ) (r : Record K V) → get s.records n ≡ Some r → r.expires ≡ None)

module _ {K V X P W : Type 0} (eq : K → K → Bool) (laws : IsEquivalence eq) (key : K) (value : V) (now : Instant) where
  -- the record that an insert made of the key: it is held, what is queued of it is older, and it has the value
  pub record IsPut (Bare : Type 0) (t : State K V X P W) : Type 0 where
    pub made : Record K V
    pub held : IsHeld made.number made t.records
    pub older : AreOlder made.number made t.writes
    pub alike : eq key made.key ≡ true
    pub value_is : made.value ≡ value
    pub written_is : made.written ≡ now
    pub read_is : made.read ≡ now
    -- where no record has an expiry, it has none
    pub unexpiring : Bare → made.expires ≡ None

  -- after an insert
  pub put_by_insert : (created : X → K → V → ℕ → Option ℕ) (updated : X → K → V → ℕ → Option ℕ → Option ℕ) (weighs : W → K → V → ℕ → Type 0) (s : State K V X P W) (hash : ℕ) (a : Ticket × Instant) (e : Events K V) (t : State K V X P W) → IsValid eq s → InsertStep created updated weighs eq s key hash value now (Ok a) e t → IsPut (IsBare s) t
  put_by_insert created updated weighs s hash a e t valid step = go (record_of_key eq s.records key) refl step
    where
      go : (o : Option (Record K V)) → record_of_key eq s.records key ≡ o → InsertsAt created updated weighs s o key hash value now (Ok a) e t → IsPut (IsBare s) t
      go None absent step =
          let r : Record K V = new_record created updated s key hash value now step.0 in
          subst (IsPut (IsBare s)) (sym step.5) (record {
            made = r;
            held = record { applied = 0; there = get_inserted s.records s.next_number r; below = omega arith };
            older = next_is_newest eq s valid r;
            alike = laws.refl key;
            value_is = refl;
            written_is = refl;
            read_is = refl;
            unexpiring = λ bare. ap (λ x. expires_at_first created x key value now.0) bare.0;
          })
      go (Some old) found step =
          let r : Record K V = updated_record created updated s old key value now step.0 in
          subst (IsPut (IsBare s)) (sym step.5) (record {
            made = r;
            held = record { applied = old.applied; there = get_inserted s.records old.number r; below = (let limit = tracked.applied in omega arith) };
            older = all_of (λ (h : Ticketed). IsOlder old.number r h.operation) s.writes (λ h there. update_older h.operation (inr (h.ticket, there)));
            alike = at.2;
            value_is = refl;
            written_is = refl;
            read_is = refl;
            unexpiring = λ bare. ap (λ x. expires_updated created updated s.settings x key value (record old { written = now; read = now }) now.0) bare.0 ∙ bare.1 old.number old own;
          })
        where
          at : (n : ℕ) × (get s.records n ≡ Some old) × (eq key old.key ≡ true)
          at = record_of_key_found eq s.records key old found

          own : get s.records old.number ≡ Some old
          own = ap (get s.records) (valid.numbered.numbered.numbered at.0 old at.1).0 ∙ at.1

          tracked : IsTracked (IsWaiting s) old.number old (counted_of old.number s.access)
          tracked = rw own at (valid.consistent.sound old.number)

          update_older : (o : Operation) → IsWaiting s o → IsOlder old.number (updated_record created updated s old key value now step.0) o
          update_older (Upsert k g w x) waiting = λ same. let limit : g ≤ old.generation = (tracked.carried g w x (subst (λ k. IsWaiting s (Upsert k g w x)) same waiting)).0 in omega arith
          update_older (Removal k g) waiting = tt

  -- where it is held, it is the key's record
  pub kept_where_held : (Bare : Type 0) (s t : State K V X P W) → IsValid eq t → (put : IsPut Bare s) → IsHeld put.made.number put.made t.records → IsThere eq t key value now
  kept_where_held Bare s t valid put held = record {
    kept = record put.made { applied = held.applied };
    found = present_key eq t.records key laws valid.numbered.numbered.one_each put.made.number (record put.made { applied = held.applied }) held.there put.alike;
    value_is = put.value_is;
    written_is = put.written_is;
    read_is = put.read_is;
  }

  -- it is shown at its moment, where nothing hides what is written then
  pub shown_where_held : (says : P → K → V → Bool → Type 0) (Bare : Type 0) (s t : State K V X P W) → IsValid eq t → (put : IsPut Bare s) → IsHeld put.made.number put.made t.records → Bare → ShowsWrites t now.0 → ContainsStep says eq t key now.0 true
  shown_where_held says Bare s t valid put held bare shows =
      let r : Record K V = record put.made { applied = held.applied } in
      let found = present_key eq t.records key laws valid.numbered.numbered.one_each put.made.number r held.there put.alike in
      subst (λ o. IsShown says t o now.0 true) (sym found) (visible, subst (λ ps. NoneCovers says ps r) (sym shows.unhidden) tt)
    where
      visible : has_lapsed t.settings t.invalid_before (record put.made { applied = held.applied }) now.0 ≡ false
      visible = rw (put.unexpiring bare, put.written_is, put.read_is, shows.live, shows.idle, shows.valid) refl
