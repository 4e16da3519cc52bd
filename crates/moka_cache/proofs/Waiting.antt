-- Which operations wait, and what sends, inserts and removals make of them.
use Rattle.std.proofs.Common.{◌≡◌, refl, ℕ, ◌+◌, ◌<◌, ◌≤◌, Bool, true, false, [], length, Option, Some, None, is_some, Result, Ok, Err, ap, sym, ◌∙◌, inl, inr, true≢false, arith}
use Rattle.std.specs.FinMap.{get, insert, remove, empty, contains_key, get-empty}
use Rattle.std.specs.Ordering.{nat_cmp}
use Rattle.std.proofs.lemmas.Option.{same_Some}
use Rattle.moka_records.specs.declared.instant.Instant.{Instant}
use Rattle.moka_records.specs.declared.records.Record.{Record}
use Rattle.moka_records.specs.declared.records.Operation.{Operation}
use Rattle.moka_records.specs.declared.records.Operation.TheVariants.{Upsert, Removal}
use Rattle.moka_types.specs.declared.calls.Ticket.{Ticket}
use Rattle.moka_types.specs.declared.calls.KvEntry.{KvEntry}
use Rattle.moka_types.specs.declared.error.InsertRefused.{InsertRefused}
use Rattle.moka_types.specs.declared.error.SendError.{SendError}
use Rattle.moka_types.specs.declared.error.SendError.TheVariants.{UnknownTicket, QueueFull}
use Rattle.moka_records.specs.Records.{record_of_key}
use Rattle.moka_parts.specs.State.{State, Events, is_disabled}
use Rattle.moka_parts.specs.Calls.{Unchanged, SendsAt, SendStep, InsertsAt, InsertStep, RemovesAt, RemoveStep, entry_of, queue_length}
use Rattle.moka_parts.specs.Settling.{IsWellNumbered}
use Rattle.moka_records.proofs.Maps.{same_or_apart, get_inserted, get_past_insert, get_removed, get_past_remove}
use Rattle.moka_records.proofs.Lookup.{record_of_key_empty}
use Rattle.moka_records.proofs.Values.{empty_map}

-- ---- one operation alone

-- without it none is left
pub none_left : (ticket : ℕ) (o : Operation) → remove (insert (empty {X = Operation} {R = nat_cmp}) ticket o) ticket ≡ empty
none_left ticket o = empty_map (remove (insert empty ticket o) ticket) (λ n. elim (same_or_apart n ticket) [
  | inl e ↦ ap (get (remove (insert empty ticket o) ticket)) e ∙ get_removed (insert empty ticket o) ticket
  | inr apart ↦ get_past_remove (insert empty ticket o) ticket n apart ∙ get_past_insert empty ticket o n apart ∙ get-empty nat_cmp n
])

-- it is the oldest
pub oldest_alone : (ticket : ℕ) (o : Operation) (n : ℕ) → contains_key (insert (empty {X = Operation} {R = nat_cmp}) ticket o) n ≡ true → ticket ≤ n
oldest_alone ticket o n there = elim (same_or_apart n ticket) [
  | inl e ↦ omega arith
  | inr apart ↦ absurd (true≢false (sym there ∙ ap is_some (get_past_insert empty ticket o n apart ∙ get-empty nat_cmp n)))
]

module _ {K V X P W : Type 0} where
  -- sends of the only operation that waits are in order
  pub alone_in_order : (s : State K V X P W) (ticket : Ticket) (o : Operation) → s.outstanding ≡ insert empty ticket.0 o → contains_key s.outstanding ticket.0 ≡ true → length s.writes < queue_length → (n : ℕ) → contains_key s.outstanding n ≡ true → ticket.0 ≤ n
  alone_in_order s ticket o alone there room n also = oldest_alone ticket.0 o n (ap (λ m. contains_key m n) (sym alone) ∙ also)

  -- ---- inserts and removals

  -- no key has a record in a disabled map
  pub none_of_key : (eq : K → K → Bool) (key : K) (s : State K V X P W) → IsWellNumbered eq s → is_disabled s.capacity ≡ true → record_of_key eq s.records key ≡ None
  none_of_key eq key s well off = ap (λ records. record_of_key eq records key) (well.disabled off).no_records ∙ record_of_key_empty eq key

  -- one more operation waits under the ticket, and the capacity is the same
  pub record HandsOut (s : State K V X P W) (ticket : Ticket) (t : State K V X P W) : Type 0 where
    pub operation : Operation
    pub outstanding : t.outstanding ≡ insert s.outstanding ticket.0 operation
    pub capacity : t.capacity ≡ s.capacity

  -- an insert hands out, at its moment, and asks for no identifiers
  pub insert_hands_out : (created : X → K → V → ℕ → Option ℕ) (updated : X → K → V → ℕ → Option ℕ → Option ℕ) (weighs : W → K → V → ℕ → Type 0) (eq : K → K → Bool) (s : State K V X P W) (key : K) (hash : ℕ) (value : V) (now : Instant) (a : Ticket × Instant) (e : Events K V) (t : State K V X P W)
      → InsertStep created updated weighs eq s key hash value now (Ok a) e t → HandsOut s a.0 t × (a.1 ≡ now) × (e.ids ≡ []) × (e.readings ≡ [])
  insert_hands_out created updated weighs eq s key hash value now a e t step = go (record_of_key eq s.records key) step
    where
      go : (o : Option (Record K V)) → InsertsAt created updated weighs s o key hash value now (Ok a) e t → HandsOut s a.0 t × (a.1 ≡ now) × (e.ids ≡ []) × (e.readings ≡ [])
      go None h = (record { operation = Upsert s.next_number 1 h.0 hash; outstanding = ap (λ (x : State K V X P W). x.outstanding) h.5 ∙ ap (λ n. insert s.outstanding n (Upsert s.next_number 1 h.0 hash)) (sym h.3); capacity = ap (λ (x : State K V X P W). x.capacity) h.5 }, h.4, ap (λ (x : Events K V). x.ids) h.6, ap (λ (x : Events K V). x.readings) h.6)
      go (Some r) h = (record { operation = Upsert r.number (r.generation + 1) h.0 hash; outstanding = ap (λ (x : State K V X P W). x.outstanding) h.5 ∙ ap (λ n. insert s.outstanding n (Upsert r.number (r.generation + 1) h.0 hash)) (sym h.3); capacity = ap (λ (x : State K V X P W). x.capacity) h.5 }, h.4, ap (λ (x : Events K V). x.ids) h.6, ap (λ (x : Events K V). x.readings) h.6)

  -- a refused one changes nothing, and hands key and value back
  pub record IsHandedBack (s : State K V X P W) (key : K) (value : V) (refused : InsertRefused K V) (e : Events K V) (t : State K V X P W) : Type 0 where
    pub key_back : refused.key ≡ key
    pub value_back : refused.value ≡ value
    pub unchanged : Unchanged s e t

  pub insert_hands_back : (created : X → K → V → ℕ → Option ℕ) (updated : X → K → V → ℕ → Option ℕ → Option ℕ) (weighs : W → K → V → ℕ → Type 0) (eq : K → K → Bool) (s : State K V X P W) (key : K) (hash : ℕ) (value : V) (now : Instant) (refused : InsertRefused K V) (e : Events K V) (t : State K V X P W)
      → InsertStep created updated weighs eq s key hash value now (Err refused) e t → IsHandedBack s key value refused e t
  insert_hands_back created updated weighs eq s key hash value now refused e t step = go (record_of_key eq s.records key) step
    where
      go : (o : Option (Record K V)) → InsertsAt created updated weighs s o key hash value now (Err refused) e t → IsHandedBack s key value refused e t
      go None h = record { key_back = h.0.0; value_back = h.0.1; unchanged = h.1 }
      go (Some r) h = record { key_back = h.0.0; value_back = h.0.1; unchanged = h.1 }

  -- a removal that finds its key hands out, from a map that is not disabled
  pub remove_hands_out : (eq : K → K → Bool) (s : State K V X P W) (key : K) (a : KvEntry K V × Ticket) (t : State K V X P W) → IsWellNumbered eq s → RemoveStep eq s key (Some a) t → HandsOut s a.1 t × (is_disabled s.capacity ≡ false)
  remove_hands_out eq s key a t well step = go (record_of_key eq s.records key) refl step
    where
      enabled : (r : Record K V) → record_of_key eq s.records key ≡ Some r → (b : Bool) → is_disabled s.capacity ≡ b → b ≡ false
      enabled r found false off = refl
      enabled r found true off = (let impossible : None ≡ Some r = sym (none_of_key eq key s well off) ∙ found in absurd (cc))

      go : (o : Option (Record K V)) → record_of_key eq s.records key ≡ o → RemovesAt s o (Some a) t → HandsOut s a.1 t × (is_disabled s.capacity ≡ false)
      go None found h = (let impossible : Some a ≡ None = h.0 in absurd (cc))
      go (Some r) found h =
          let ticket : a.1.0 ≡ s.next_ticket = ap (λ (x : KvEntry K V × Ticket). x.1.0) (same_Some a (entry_of r, record { 0 = s.next_ticket }) h.0) in
          (record { operation = Removal r.number (r.generation + 1); outstanding = ap (λ (x : State K V X P W). x.outstanding) h.1 ∙ ap (λ n. insert s.outstanding n (Removal r.number (r.generation + 1))) (sym ticket); capacity = ap (λ (x : State K V X P W). x.capacity) h.1 }, enabled r found (is_disabled s.capacity) refl)

  -- ---- sends

  -- a send that is not refused
  pub sent_alone : (s : State K V X P W) (ticket : ℕ) (o : Operation) → s.outstanding ≡ insert empty ticket o → (u : Unit {0}) (t : State K V X P W) → SendStep s ticket (Ok u) t → t.outstanding ≡ empty
  sent_alone s ticket o alone u t step = go (get s.outstanding ticket) step
    where
      go : (p : Option Operation) → SendsAt s ticket p (Ok u) t → t.outstanding ≡ empty
      go (Some p) h = ap (λ (x : State K V X P W). x.outstanding) h.1 ∙ ap (λ m. remove m ticket) alone ∙ none_left ticket o
      go None h = absurd h

  -- a send of the only operation is refused only where the queue is full, and then nothing changes
  pub refused_alone : (s : State K V X P W) (ticket : ℕ) (o : Operation) → s.outstanding ≡ insert empty ticket o → (error : SendError) (t : State K V X P W) → SendStep s ticket (Err error) t → (error ≡ QueueFull) × (queue_length ≤ length s.writes) × (t ≡ s)
  refused_alone s ticket o alone error t step = go (get s.outstanding ticket) (ap (λ m. get m ticket) alone ∙ get_inserted empty ticket o) error step
    where
      go : (p : Option Operation) → p ≡ Some o → (error : SendError) → SendsAt s ticket p (Err error) t → (error ≡ QueueFull) × (queue_length ≤ length s.writes) × (t ≡ s)
      go (Some p) there QueueFull h = (refl, h.0, h.1)
      go (Some p) there UnknownTicket h = absurd h
      go None there error h = (let impossible : None ≡ Some o = there in absurd (cc))

  -- where the queue is empty it is not refused
  pub sent_when_empty : (s : State K V X P W) (ticket : ℕ) (o : Operation) → s.outstanding ≡ insert empty ticket o → s.writes ≡ [] → (a : Result (Unit {0}) SendError) (t : State K V X P W) → SendStep s ticket a t → a ≡ Ok tt
  sent_when_empty s ticket o alone none (Ok u) t step = refl
  sent_when_empty s ticket o alone none (Err error) t step = (let full = (refused_alone s ticket o alone error t step).1 in let zero : length s.writes ≡ 0 = ap length none in absurd (omega arith))
