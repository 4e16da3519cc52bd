-- There is room for two entries that were put into a new cache and sent, where together they weigh no more than its
-- capacity.
use Rattle.std.proofs.Common.{◌≡◌, refl, ℕ, ◌+◌, ◌≤◌, ◌==◌, false, [], ◌∷◌, ◌++◌, Option, Some, None, Ok, ap, sym, subst, ◌∙◌, inl, inr, arith}
use Rattle.std.specs.Prelude.{Contains}
use Rattle.std.specs.List.{IsDistinct}
use Rattle.std.specs.FinMap.{get, insert, empty}
use Rattle.std.proofs.lemmas.List.Elements.{Contains-push_cases}
use Rattle.std.proofs.lemmas.Option.{none-some, same_Some}
use Rattle.moka_engine.specs.parts.Instant.{Instant}
use Rattle.moka_engine.specs.parts.Operation.{Operation}
use Rattle.moka_engine.specs.parts.Operation.TheVariants.{Upsert, Removal}
use Rattle.moka_engine.specs.parts.Record.{Record}
use Rattle.moka_engine.specs.parts.Ticket.{Ticket}
use Rattle.moka_engine.specs.parts.Ticketed.{Ticketed}
use Rattle.moka_engine.specs.Calls.{InsertsAt, SendsAt, SendStep}
use Rattle.moka_engine.specs.Records.{counted_of, numbers_of}
use Rattle.moka_engine.specs.Settling.{IsWaiting, number_of}
use Rattle.moka_engine.specs.State.{State, Events, is_disabled}
use Rattle.moka_engine.proofs.Maps.{get_inserted, nothing_at}
use Rattle.moka_cache.specs.Saves.{AreAsWeighed, HasRoomFor}
use Rattle.moka_uses.proofs.Both.{AreBoth, weight_of_both}

-- no number stands twice in an empty list
once_none : IsDistinct (◌==◌) []
unfolding IsDistinct
once_none = tt

-- the weight that an operation carries
abbrev pub weight_in : Operation → ℕ
weight_in (Upsert n g w hash) = w
weight_in (Removal n g) = 0

module _ {K V X P W : Type 0} (created : X → K → V → ℕ → Option ℕ) (updated : X → K → V → ℕ → Option ℕ → Option ℕ) (weighs : W → K → V → ℕ → Type 0) where
  -- a new record's operation goes to the back of the queue when it is sent at once
  pub queued : (s : State K V X P W) (key : K) (hash : ℕ) (value : V) (now : Instant) (a : Ticket × Instant) (e : Events K V) (t : State K V X P W) (put : InsertsAt created updated weighs s None key hash value now (Ok a) e t)
      → (u : Unit {0}) (v : State K V X P W) → SendStep t a.0.0 (Ok u) v → v.writes ≡ s.writes ++ record { ticket = a.0.0; operation = Upsert s.next_number 1 put.0 hash } ∷ []
  queued s key hash value now a e t put u v sent = go (get t.outstanding a.0.0) refl sent
    where
      o : Operation
      o = Upsert s.next_number 1 put.0 hash

      waits : get t.outstanding a.0.0 ≡ Some o
      waits = ap (λ x. get x.outstanding a.0.0) put.5 ∙ ap (get (insert s.outstanding s.next_ticket o)) put.3 ∙ get_inserted s.outstanding s.next_ticket o

      go : (own : Option Operation) → get t.outstanding a.0.0 ≡ own → SendsAt t a.0.0 own (Ok u) v → v.writes ≡ s.writes ++ record { ticket = a.0.0; operation = o } ∷ []
      go (Some own) there h =
          ap (λ x. x.writes) h.1 ∙ ap (λ (o : Operation). t.writes ++ record { ticket = a.0.0; operation = o } ∷ []) (same_Some own o (sym there ∙ waits)) ∙ ap (λ x. x.writes ++ record { ticket = a.0.0; operation = o } ∷ []) put.5
      go None there h = absurd h

module _ {K V X P W : Type 0} (weighs : W → K → V → ℕ → Type 0) (y : State K V X P W) (p q : Record K V) (both : AreBoth y.records 1 2 p q) (first second : Ticketed) (one : number_of first.operation ≡ 1) (two : number_of second.operation ≡ 2) (weight_p : weight_in first.operation ≡ p.weight) (weight_q : weight_in second.operation ≡ q.weight)
    (sent : y.outstanding ≡ empty) (none : y.access ≡ []) (writes : y.writes ≡ ([] ++ first ∷ []) ++ second ∷ []) where
  at_one : (n : ℕ) (r : Record K V) → get y.records n ≡ Some r → n ≡ 1 → r.weight ≡ p.weight
  at_one n r there is = ap (λ (r : Record K V). r.weight) (same_Some r p (sym there ∙ ap (get y.records) is ∙ both.first))

  at_two : (n : ℕ) (r : Record K V) → get y.records n ≡ Some r → n ≡ 2 → r.weight ≡ q.weight
  at_two n r there is = ap (λ (r : Record K V). r.weight) (same_Some r q (sym there ∙ ap (get y.records) is ∙ both.second))

  as_weighed : AreAsWeighed y
  as_weighed = record {
    once = subst (λ ms. IsDistinct (◌==◌) (numbers_of ms)) (sym none) once_none;
    counted = λ n w is. absurd (none-some w (sym (ap (counted_of n) none) ∙ is));
    waiting = λ n g w hash waits r there. go n g w hash waits r there;
  }
    where
      go : (n g w hash : ℕ) → IsWaiting y (Upsert n g w hash) → (r : Record K V) → get y.records n ≡ Some r → r.weight ≡ w
      go n g w hash (inl (ticket, there)) r at = absurd (nothing_at ticket (Upsert n g w hash) (sym (ap (λ m. get m ticket) sent) ∙ there))
      go n g w hash (inr (ticket, inside)) r at = elim (Contains-push_cases ([] ++ first ∷ []) second (record { ticket = ticket; operation = Upsert n g w hash }) (subst (λ hs. Contains hs (record { ticket = ticket; operation = Upsert n g w hash })) writes inside)) [
        | inl before ↦ elim (Contains-push_cases [] first (record { ticket = ticket; operation = Upsert n g w hash }) before) [
          | inl nowhere ↦ absurd (omega (arith, nowhere.1))
          | inr e ↦ at_one n r at (sym (ap (λ (h : Ticketed). number_of h.operation) e) ∙ one) ∙ sym weight_p ∙ ap (λ (h : Ticketed). weight_in h.operation) e
        ]
        | inr e ↦ at_two n r at (sym (ap (λ (h : Ticketed). number_of h.operation) e) ∙ two) ∙ sym weight_q ∙ ap (λ (h : Ticketed). weight_in h.operation) e
      ]

  pub has_room : (capacity : ℕ) → y.capacity ≡ Some capacity → is_disabled (Some capacity) ≡ false → p.weight + q.weight ≤ capacity → HasRoomFor weighs y.capacity [] y
  has_room capacity bounded enabled fits =
      let all = weight_of_both y.records 1 2 p q both in
      subst (λ o. HasRoomFor weighs o [] y) (sym bounded) (enabled, as_weighed, (0, tt, omega (arith, all, fits)))
