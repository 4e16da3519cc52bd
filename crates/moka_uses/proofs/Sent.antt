-- What inserts and sends do to the operations that wait, and what they keep.
use Rattle.std.proofs.Math.Nat.{min-le_left}
use Rattle.std.proofs.Common.{◌≡◌, refl, ℕ, Bool, false, ◌≤◌, List, Option, Some, None, Ok, ap, sym, subst, ◌∙◌, inl, inr, ◌&&◌, arith}
use Rattle.std.specs.Cmp.{nat_cmp_total}
use Rattle.std.specs.FinMap.{get, insert, remove, empty, get-empty, same_map, nat_cmp-IsAntisymmetric}
use Rattle.std.specs.Ordering.{nat_cmp}
use Rattle.std.proofs.Math.Bool.{and-false}
use Rattle.moka_engine.specs.parts.Ticket.{Ticket}
use Rattle.moka_engine.specs.parts.Instant.{Instant}
use Rattle.moka_engine.specs.parts.Operation.{Operation}
use Rattle.moka_engine.specs.parts.Record.{Record}
use Rattle.moka_engine.specs.Calls.{InsertsAt, InsertStep, SendsAt, SendStep, RunStep}
use Rattle.moka_engine.specs.Listed.{ListedRun}
use Rattle.moka_engine.specs.Exact.{IsWithin}
use Rattle.moka_engine.specs.Maintenance.{Terms, after_run, at_end, is_late}
use Rattle.moka_engine.specs.Settling.{IsWhole}
use Rattle.moka_engine.specs.Records.{Operations, record_of_key, total_weight}
use Rattle.moka_engine.specs.State.{State, Events, is_disabled}
use Rattle.moka_engine.specs.Time.{greatest}
use Rattle.moka_engine.proofs.Maps.{get_removed, get_past_insert, get_past_remove, same_or_apart}
use Rattle.moka_engine.proofs.Values.{empty_map}

-- what is put under a new ticket and taken out again
pub back_again : (m : Operations) (ticket : ℕ) (o : Operation) → get m ticket ≡ None → remove (insert m ticket o) ticket ≡ m
back_again m ticket o absent = same_map nat_cmp_total nat_cmp-IsAntisymmetric (remove (insert m ticket o) ticket) m (λ n. elim (same_or_apart n ticket) [
  | inl e ↦ ap (get (remove (insert m ticket o) ticket)) e ∙ get_removed (insert m ticket o) ticket ∙ sym absent ∙ sym (ap (get m) e)
  | inr apart ↦ get_past_remove (insert m ticket o) ticket n apart ∙ get_past_insert m ticket o n apart
])

-- the operations without two, of which the first goes last
pub nothing_left_of_two : (m : Operations) → m ≡ empty → (a b : ℕ) (o p : Operation) → remove (remove (insert (insert m a o) b p) b) a ≡ empty
nothing_left_of_two m none a b o p = empty_map (remove (remove (insert (insert m a o) b p) b) a) (λ n. elim (same_or_apart n a) [
  | inl e ↦ ap (get (remove (remove (insert (insert m a o) b p) b) a)) e ∙ get_removed (remove (insert (insert m a o) b p) b) a
  | inr apart ↦ get_past_remove (remove (insert (insert m a o) b p) b) a n apart ∙ elim (same_or_apart n b) [
    | inl e ↦ ap (get (remove (insert (insert m a o) b p) b)) e ∙ get_removed (insert (insert m a o) b p) b
    | inr other ↦ get_past_remove (insert (insert m a o) b p) b n other ∙ get_past_insert (insert m a o) b p n other ∙ get_past_insert m a o n apart ∙ ap (λ m. get m n) none ∙ get-empty nat_cmp n
  ]
])

module _ {K V X P W : Type 0} where
  -- what stays in inserts and sends
  pub record IsAlike (s t : State K V X P W) : Type 0 where
    pub predicates : t.predicates ≡ s.predicates
    pub bound : t.invalid_before ≡ s.invalid_before
    pub capacity : t.capacity ≡ s.capacity
    pub settings : t.settings ≡ s.settings

  -- one more operation waits under the next ticket
  pub record HandsOut (s : State K V X P W) (ticket : ℕ) (t : State K V X P W) : Type 0 where
    pub alike : IsAlike s t
    pub next : ticket ≡ s.next_ticket
    pub operation : Operation
    pub outstanding : t.outstanding ≡ insert s.outstanding ticket operation

  -- the operation of the ticket waits no more
  pub record Sends (s : State K V X P W) (ticket : ℕ) (t : State K V X P W) : Type 0 where
    pub alike : IsAlike s t
    pub records : t.records ≡ s.records
    pub next_number : t.next_number ≡ s.next_number
    pub access : t.access ≡ s.access
    pub outstanding : t.outstanding ≡ remove s.outstanding ticket

  -- a send
  pub sends : (s : State K V X P W) (ticket : ℕ) (u : Unit {0}) (t : State K V X P W) → SendStep s ticket (Ok u) t → Sends s ticket t
  sends s ticket u t step = go (get s.outstanding ticket) step
    where
      go : (o : Option Operation) → SendsAt s ticket o (Ok u) t → Sends s ticket t
      go (Some o) h = subst (Sends s ticket) (sym h.1) (record { alike = record { predicates = refl; bound = refl; capacity = refl; settings = refl }; records = refl; next_number = refl; access = refl; outstanding = refl })
      go None h = absurd h

  -- an insert
  pub hands_out : (created : X → K → V → ℕ → Option ℕ) (updated : X → K → V → ℕ → Option ℕ → Option ℕ) (weighs : W → K → V → ℕ → Type 0) (eq : K → K → Bool) (s : State K V X P W) (key : K) (hash : ℕ) (value : V) (now : Instant) (a : Ticket × Instant) (e : Events K V) (t : State K V X P W) → InsertStep created updated weighs eq s key hash value now (Ok a) e t → HandsOut s a.0.0 t
  hands_out created updated weighs eq s key hash value now a e t step = go (record_of_key eq s.records key) step
    where
      go : (o : Option (Record K V)) → InsertsAt created updated weighs s o key hash value now (Ok a) e t → HandsOut s a.0.0 t
      go None h = subst (λ n. HandsOut s n t) (sym h.3) (subst (HandsOut s s.next_ticket) (sym h.5) (record { alike = record { predicates = refl; bound = refl; capacity = refl; settings = refl }; next = refl; operation = _; outstanding = refl }))
      go (Some r) h = subst (λ n. HandsOut s n t) (sym h.3) (subst (HandsOut s s.next_ticket) (sym h.5) (record { alike = record { predicates = refl; bound = refl; capacity = refl; settings = refl }; next = refl; operation = _; outstanding = refl }))

  -- a whole run with all sent reports a weight within the capacity
  pub weight_within : (says : P → K → V → Bool → Type 0) (read : X → K → V → ℕ → Option ℕ → ℕ → Option ℕ) (before after : List ℕ) (s : State K V X P W) (terms : Terms) (answer : Bool) (e : Events K V) (t : State K V X P W) → RunStep (ListedRun says read before after) s terms answer e t
      → (capacity : ℕ) → s.capacity ≡ Some capacity → is_disabled s.capacity ≡ false → terms.limit ≡ None → 1 ≤ terms.batch → s.outstanding ≡ empty → t.weight ≤ capacity
  weight_within says read before after s terms answer e t run capacity bounded enabled unlimited batch sent =
      let course = run.0 in
      let ran = rw enabled at (run.1.0) in
      let is : t ≡ after_run s ran.0 = ran.1.1 in
      let c = at_end s ran.0 in
      let whole : IsWhole s terms course = (ap (λ limit. s.settings.listening && is_late limit course.readings) unlimited ∙ and-false s.settings.listening, batch) in
      let within = subst (λ o. IsWithin o c.access) bounded (subst (λ x. IsWithin x.capacity x.access) is (run.1.1.0.1.within whole sent)) in
      rw (ap (λ x. x.weight) is) (omega (arith, within, min-le_left (total_weight c.access) greatest))

  -- an insert whose operation is sent at once leaves no more waiting
  pub put_and_sent : (s t v : State K V X P W) (ticket : ℕ) → HandsOut s ticket t → Sends t ticket v → s.outstanding ≡ empty → v.outstanding ≡ empty
  put_and_sent s t v ticket put sent none = sent.outstanding ∙ ap (λ m. remove m ticket) put.outstanding ∙ back_again s.outstanding ticket put.operation (ap (λ m. get m ticket) none ∙ get-empty nat_cmp ticket) ∙ none

  -- two inserts whose operations are sent in the other order leave no more waiting
  pub sent_in_other_order : (s t v x y : State K V X P W) (a b : ℕ) → HandsOut s a t → HandsOut t b v → Sends v b x → Sends x a y → s.outstanding ≡ empty → y.outstanding ≡ empty
  sent_in_other_order s t v x y a b one other late early none =
      early.outstanding ∙ (ap (λ m. remove m a) (late.outstanding ∙ ap (λ m. remove m b) (other.outstanding ∙ ap (λ m. insert m b other.operation) one.outstanding)) ∙ nothing_left_of_two s.outstanding none a b one.operation other.operation)

  -- states that are alike, one after the other
  pub alike_then : (s t v : State K V X P W) → IsAlike s t → IsAlike t v → IsAlike s v
  alike_then s t v one other = record {
    predicates = other.predicates ∙ one.predicates;
    bound = other.bound ∙ one.bound;
    capacity = other.capacity ∙ one.capacity;
    settings = other.settings ∙ one.settings;
  }
