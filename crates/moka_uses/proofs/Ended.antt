-- A record that was put into a new cache with an expiry is shown until its time is over.
use Rattle.std.proofs.Common.{◌≡◌, refl, ℕ, Bool, true, false, ◌||◌, not, [], Option, Some, None, Ok, ap, sym, subst, ◌∙◌, inl, inr, nat_le, nat_lt, arith}
use Rattle.std.specs.Cmp.{IsEquivalence}
use Rattle.moka_engine.specs.parts.Ticket.{Ticket}
use Rattle.moka_engine.specs.parts.Instant.{Instant}
use Rattle.moka_engine.specs.parts.Record.{Record}
use Rattle.moka_engine.specs.Calls.{InsertsAt, InsertStep, new_record, SendStep, ContainsStep}
use Rattle.moka_engine.specs.Records.{record_of_key}
use Rattle.moka_engine.specs.State.{State, Settings, Events, new_state}
use Rattle.moka_engine.specs.Time.{plus}
use Rattle.moka_engine.specs.Visibility.{IsShown}
use Rattle.moka_engine.proofs.Lookup.{record_of_key_empty}
use Rattle.moka_uses.proofs.Found.{one_record}
use Rattle.moka_uses.proofs.Sent.{Sends, sends}

-- before a moment, or not
before_or_not : (t end : ℕ) (b : Bool) → (nat_le end t || false || false || false || false) ≡ b → nat_lt t end ≡ not b
before_or_not t end b e = grind (arith, e)

module _ {K V X P W : Type 0} (says : P → K → V → Bool → Type 0) where
  -- what hides the record is its own expiry alone
  pub record IsEnding (s : State K V X P W) (r : Record K V) (end : ℕ) : Type 0 where
    pub unhidden : s.predicates ≡ []
    pub valid : s.invalid_before ≡ None
    pub live : s.settings.time_to_live ≡ None
    pub idle : s.settings.time_to_idle ≡ None
    pub expires : r.expires ≡ Some (record { 0 = end })

  -- such a record is shown before it expires, and not from then on
  pub shown_until : (s : State K V X P W) (r : Record K V) (end : ℕ) → IsEnding s r end → (now : ℕ) (shown : Bool) → IsShown says s (Some r) now shown → shown ≡ nat_lt now end
  shown_until s r end ends now true h = sym (before_or_not now end false (rw (ends.expires, ends.valid, ends.live, ends.idle) at h.0))
  shown_until s r end ends now false h = elim h [
    | inl lapsed ↦ sym (before_or_not now end true (rw (ends.expires, ends.valid, ends.live, ends.idle) at lapsed))
    | inr covered ↦ absurd (rw ends.unhidden at covered)
  ]

module _ {K V X P W : Type 0} (eq : K → K → Bool) (says : P → K → V → Bool → Type 0) (created : X → K → V → ℕ → Option ℕ) (updated : X → K → V → ℕ → Option ℕ → Option ℕ) (weighs : W → K → V → ℕ → Type 0) where
  -- what was put into a new cache and sent is shown as long as the expiry answered, where no times are set
  pub shown_as_long : IsEquivalence eq → (settings : Settings X W) (capacity : Option ℕ) (made first_ticket : ℕ) (old : State K V X P W) → old ≡ new_state settings capacity made first_ticket
      → settings.time_to_live ≡ None → settings.time_to_idle ≡ None → (x : X) → settings.expiry ≡ Some x
      → (key : K) (hash : ℕ) (value : V) (now : Instant) (lasts : ℕ) → created x key value now.0 ≡ Some lasts
      → (a : Ticket × Instant) (e : Events K V) (s : State K V X P W) → InsertStep created updated weighs eq old key hash value now (Ok a) e s
      → (ticket : ℕ) (u : Unit {0}) (t : State K V X P W) → SendStep s ticket (Ok u) t
      → (later : ℕ) (shown : Bool) → ContainsStep says eq t key later shown → shown ≡ nat_lt later (plus now.0 lasts)
  shown_as_long laws settings capacity made first_ticket old is live idle x expiry key hash value now lasts answer a e s put ticket u t sent later shown look =
      shown_until says t r (plus now.0 lasts) (record {
        unhidden = send.alike.predicates ∙ ap (λ x. x.predicates) step.5;
        valid = send.alike.bound ∙ ap (λ x. x.invalid_before) step.5;
        live = ap (λ x. x.time_to_live) set ∙ live;
        idle = ap (λ x. x.time_to_idle) set ∙ idle;
        expires = rw (expiry, answer) refl;
      }) later shown (subst (λ o. IsShown says t o later shown) there look)
    where
      new : State K V X P W
      new = new_state settings capacity made first_ticket

      step : InsertsAt created updated weighs new None key hash value now (Ok a) e s
      step = subst (λ o. InsertsAt created updated weighs new o key hash value now (Ok a) e s) (record_of_key_empty eq key) (subst (λ x. InsertStep created updated weighs eq x key hash value now (Ok a) e s) is put)

      send : Sends s ticket t
      send = sends s ticket u t sent

      set : t.settings ≡ settings
      set = send.alike.settings ∙ ap (λ x. x.settings) step.5

      r : Record K V
      r = new_record created updated new key hash value now step.0

      there : record_of_key eq t.records key ≡ Some r
      there = ap (λ m. record_of_key eq m key) (send.records ∙ ap (λ x. x.records) step.5) ∙ one_record eq laws key 1 r (laws.refl key)
