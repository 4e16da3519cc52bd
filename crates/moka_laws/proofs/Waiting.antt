-- How the operations that wait change: one is handed out, one is applied, or one only moves.
use Rattle.std.proofs.Common.{◌≡◌, ℕ, ◌<◌, List, [], ◌∷◌, ◌++◌, Some, None, ap, sym, ◌∙◌, ◌⊎◌, inl, inr, arith, Contains, ◌↔◌}
use Rattle.std.proofs.lemmas.List.Elements.{Contains-append_left, Contains-append_right, Contains-append_cases, Contains-push, Contains-push_cases}
use Rattle.std.specs.FinMap.{get, insert, remove}
use Rattle.moka_laws.proofs.Types.{Ticketed, Operation, Operations}
use Rattle.moka_parts.specs.Settling.{IsWaitingIn, WaitsAt}
use Rattle.moka_records.proofs.Maps.{same_or_apart, get_inserted, get_past_insert, get_past_remove, found_inserted, found_removed}
use Rattle.std.proofs.lemmas.Option.{same_Some, none-some}

-- one more operation waits
pub record HandsOut (Before After : Operation → Type 0) (o : Operation) : Type 0 where
  pub there : After o
  pub forth : (x : Operation) → Before x → After x
  pub back : (x : Operation) → After x → Before x ⊎ (x ≡ o)

-- one operation waits no more
pub record TakesIn (Before After : Operation → Type 0) (o : Operation) : Type 0 where
  pub there : Before o
  pub forth : (x : Operation) → Before x → After x ⊎ (x ≡ o)
  pub back : (x : Operation) → After x → Before x

-- the same operations wait
pub record WaitAlike (Before After : Operation → Type 0) : Type 0 where
  pub forth : (x : Operation) → Before x → After x
  pub back : (x : Operation) → After x → Before x

-- an operation handed out under a ticket that is not in use
pub hands_out : (outstanding : Operations) (writes : List Ticketed) (ticket : ℕ) (o : Operation) → get outstanding ticket ≡ None → HandsOut (IsWaitingIn outstanding writes) (IsWaitingIn (insert outstanding ticket o) writes) o
hands_out outstanding writes ticket o fresh = record {
  there = inl (ticket, get_inserted outstanding ticket o);
  forth = λ x h. elim (h) [
    | inl p ↦ elim (same_or_apart p.0 ticket) [
      | inl same ↦ absurd (none-some x (sym fresh ∙ sym (ap (get outstanding) same) ∙ p.1))
      | inr apart ↦ inl (p.0, get_past_insert outstanding ticket o p.0 apart ∙ p.1)
    ]
    | inr q ↦ inr q
  ];
  back = λ x h. elim (h) [
    | inl p ↦ elim (found_inserted outstanding ticket o p.0 x p.1) [ inl (same, one) ↦ inr (sym one) | inr (apart, before) ↦ inl (inl (p.0, before)) ]
    | inr q ↦ inl (inr q)
  ];
}

-- what waits under a ticket waits, and what waits does so under a ticket
pub waits_at : (outstanding : Operations) (writes : List Ticketed) (ticket : ℕ) (o : Operation) → WaitsAt outstanding writes ticket o → IsWaitingIn outstanding writes o
waits_at outstanding writes ticket o (inl there) = inl (ticket, there)
waits_at outstanding writes ticket o (inr queued) = inr (ticket, queued)

ticket_of : (outstanding : Operations) (writes : List Ticketed) (o : Operation) → IsWaitingIn outstanding writes o → (ticket : ℕ) × WaitsAt outstanding writes ticket o
ticket_of outstanding writes o (inl (ticket, there)) = (ticket, inl there)
ticket_of outstanding writes o (inr (ticket, queued)) = (ticket, inr queued)

module _ (outstanding : Operations) (writes : List Ticketed) (ticket : ℕ) (o : Operation) (there : get outstanding ticket ≡ Some o) where
  abbrev last : Ticketed
  last = record { ticket = ticket; operation = o }

  -- where an operation is sent, the same waits under each ticket
  pub sent_at : (t : ℕ) (p : Operation) → WaitsAt outstanding writes t p ↔ WaitsAt (remove outstanding ticket) (writes ++ last ∷ []) t p
  sent_at t p = (forth, back)
    where
      forth : WaitsAt outstanding writes t p → WaitsAt (remove outstanding ticket) (writes ++ last ∷ []) t p
      forth (inr queued) = inr (Contains-append_left writes (last ∷ []) (record { ticket = t; operation = p }) queued)
      forth (inl at) = elim (same_or_apart t ticket) [
        | inl same ↦ (let one : o ≡ p = same_Some o p (sym there ∙ sym (ap (get outstanding) same) ∙ at) in inr (rw (same, ← one) (Contains-push writes last)))
        | inr apart ↦ inl (get_past_remove outstanding ticket t apart ∙ at)
      ]

      back : WaitsAt (remove outstanding ticket) (writes ++ last ∷ []) t p → WaitsAt outstanding writes t p
      back (inl at) = inl (found_removed outstanding ticket t p at).1
      back (inr queued) = elim (Contains-push_cases writes last (record { ticket = t; operation = p }) queued) [
        | inl before ↦ inr before
        | inr e ↦ inl (ap (get outstanding) (sym (ap (λ (q : Ticketed). q.ticket) e)) ∙ there ∙ ap (λ (q : Ticketed). Some q.operation) e)
      ]

  -- and so the same waits
  pub waits_sent : WaitAlike (IsWaitingIn outstanding writes) (IsWaitingIn (remove outstanding ticket) (writes ++ record { ticket = ticket; operation = o } ∷ []))
  waits_sent = record {
    forth = λ x waits. let at = ticket_of outstanding writes x waits in waits_at (remove outstanding ticket) (writes ++ last ∷ []) at.0 x ((sent_at at.0 x).0 at.1);
    back = λ x waits. let at = ticket_of (remove outstanding ticket) (writes ++ last ∷ []) x waits in waits_at outstanding writes at.0 x ((sent_at at.0 x).1 at.1);
  }

only_one : (h x : Ticketed) → Contains (h ∷ []) x → h ≡ x
only_one h x c = elim (Contains-push_cases [] h x c) [ inl none ↦ let none_below : none.0 < 0 = none.1 in absurd (omega arith) | inr e ↦ e ]

-- the operation in front of the queue is taken in
pub takes_front : (outstanding : Operations) (h : Ticketed) (writes : List Ticketed) → TakesIn (IsWaitingIn outstanding (h ∷ writes)) (IsWaitingIn outstanding writes) h.operation
takes_front outstanding h writes = record {
  there = inr (h.ticket, Contains-append_left (h ∷ []) writes h (Contains-push [] h));
  forth = λ x w. elim (w) [
    | inl p ↦ inl (inl p)
    | inr q ↦ elim (Contains-append_cases (h ∷ []) writes (record { ticket = q.0; operation = x }) q.1) [
      | inl only ↦ inr (sym (ap (λ (h : Ticketed). h.operation) (only_one h (record { ticket = q.0; operation = x }) only)))
      | inr behind ↦ inl (inr (q.0, behind))
    ]
  ];
  back = λ x w. elim (w) [
    | inl p ↦ inl p
    | inr q ↦ inr (q.0, Contains-append_right (h ∷ []) writes _ q.1)
  ];
}
