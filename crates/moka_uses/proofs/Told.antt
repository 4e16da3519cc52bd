-- What a listener is notified of where a value is replaced.
use Rattle.std.proofs.Common.{◌≡◌, refl, ℕ, Bool, true, List, [], ◌∷◌, Option, Some, None, Ok, ap, subst, ◌∙◌}
use Rattle.std.specs.Cmp.{IsEquivalence}
use Rattle.moka_engine.specs.parts.Ticket.{Ticket}
use Rattle.moka_engine.specs.parts.RemovalCause.{RemovalCause}
use Rattle.moka_engine.specs.parts.Instant.{Instant}
use Rattle.moka_engine.specs.parts.Record.{Record}
use Rattle.moka_engine.specs.Calls.{InsertsAt, InsertStep, new_record, SendStep}
use Rattle.moka_engine.specs.Causes.{cause_of_replacement}
use Rattle.moka_engine.specs.Records.{Notice, record_of_key, when_listening}
use Rattle.moka_engine.specs.State.{State, Settings, Events, new_state}
use Rattle.moka_engine.specs.Surroundings.{Heard}
use Rattle.moka_engine.proofs.Lookup.{record_of_key_empty}
use Rattle.moka_uses.proofs.Found.{one_record}
use Rattle.moka_uses.proofs.Sent.{Sends, sends}

-- one notice was heard
pub record IsOne {K V : Type 0} (notices : List (Notice K V)) : Type 0 where
  pub notice : Notice K V
  pub all : notices ≡ notice ∷ []

module _ {K V L : Type 0} (next : L → L) (tells : L → K → V → RemovalCause → L → Type 0) (steps : (b : L) (k : K) (v : V) (c : RemovalCause) (a : L) → tells b k v c a → a ≡ next b) where
  -- nothing was heard
  pub heard_nothing : (before : L) (notices : List (Notice K V)) (after : Option L) → notices ≡ [] → Heard tells (Some before) notices after → after ≡ Some before
  heard_nothing before notices (Some after) none h = ap Some (rw none at h)
  heard_nothing before notices None none h = absurd h

  -- one notice was heard
  pub heard_once : (before : L) (notices : List (Notice K V)) (after : Option L) → IsOne notices → Heard tells (Some before) notices after → after ≡ Some (next before)
  heard_once before notices (Some after) one h =
      let led = rw one.all at h in
      ap Some (led.2 ∙ steps before one.notice.0 one.notice.1 one.notice.2 led.0 led.1)
  heard_once before notices None one h = absurd h

  -- of two inserts with their sends, the second is heard of
  pub heard_of_the_second : (b : L) (l m n o p : Option L) (one other : List (Notice K V)) → l ≡ Some b → Heard tells l one m → Heard tells m [] n → Heard tells n other o → Heard tells o [] p → one ≡ [] → IsOne other → p ≡ Some (next b)
  heard_of_the_second b l m n o p one other start first quiet second silent none once =
      let at_m = heard_nothing b one m none (subst (λ x. Heard tells x one m) start first) in
      let at_n = heard_nothing b [] n refl (subst (λ x. Heard tells x [] n) at_m quiet) in
      let at_o = heard_once b other o once (subst (λ x. Heard tells x other o) at_n second) in
      heard_nothing (next b) [] p refl (subst (λ x. Heard tells x [] p) at_o silent)

module _ {K V X P W : Type 0} (eq : K → K → Bool) (created : X → K → V → ℕ → Option ℕ) (updated : X → K → V → ℕ → Option ℕ → Option ℕ) (weighs : W → K → V → ℕ → Type 0) where
  -- the first value under a key is told to nobody, and leaves at the second, which is told once
  pub told_of_the_first : IsEquivalence eq → (settings : Settings X W) (capacity : Option ℕ) (first_ticket : ℕ) (old : State K V X P W) → old ≡ new_state settings capacity 0 first_ticket → settings.listening ≡ true
      → (key : K) (hash : ℕ) (value : V) (now : Instant) (a : Ticket × Instant) (e : Events K V) (s : State K V X P W) → InsertStep created updated weighs eq old key hash value now (Ok a) e s
      → (ticket : ℕ) (u : Unit {0}) (t : State K V X P W) → SendStep s ticket (Ok u) t
      → (other_hash : ℕ) (other : V) (later : Instant) (b : Ticket × Instant) (f : Events K V) (v : State K V X P W) → InsertStep created updated weighs eq t key other_hash other later (Ok b) f v
      → (e.notices ≡ []) × IsOne f.notices
  told_of_the_first laws settings capacity first_ticket old is listening key hash value now a e s put ticket u t sent other_hash other later b f v again = (
    ap (λ x. x.notices) step.6,
    record {
      notice = (key, r.value, cause_of_replacement t.settings t.invalid_before r later.0);
      all = ap (λ x. x.notices) replaced.6 ∙ ap (λ b. when_listening b ((key, r.value, cause_of_replacement t.settings t.invalid_before r later.0) ∷ [])) (ap (λ x. x.listening) (send.alike.settings ∙ ap (λ x. x.settings) step.5) ∙ listening);
    },
  )
    where
      new : State K V X P W
      new = new_state settings capacity 0 first_ticket

      step : InsertsAt created updated weighs new None key hash value now (Ok a) e s
      step = subst (λ o. InsertsAt created updated weighs new o key hash value now (Ok a) e s) (record_of_key_empty eq key) (subst (λ x. InsertStep created updated weighs eq x key hash value now (Ok a) e s) is put)

      send : Sends s ticket t
      send = sends s ticket u t sent

      r : Record K V
      r = new_record created updated new key hash value now step.0

      there : record_of_key eq t.records key ≡ Some r
      there = ap (λ m. record_of_key eq m key) (send.records ∙ ap (λ x. x.records) step.5) ∙ one_record eq laws key 1 r (laws.refl key)

      replaced : InsertsAt created updated weighs t (Some r) key other_hash other later (Ok b) f v
      replaced = subst (λ o. InsertsAt created updated weighs t o key other_hash other later (Ok b) f v) there again
