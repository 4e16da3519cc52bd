-- A send that is made once more where the queue is full, after a run that empties it.
use Rattle.std.proofs.Common.{◌≡◌, refl, ℕ, ◌<◌, ◌≤◌, Bool, false, List, [], length, Option, Some, None, Result, Ok, Err, ap, sym, subst, ◌∙◌, arith}
use Rattle.std.specs.Prelude.{IfErr, IfOk, OnErr}
use Rattle.std.specs.FinMap.{get, remove}
use Rattle.std.proofs.lemmas.Option.{none-some}
use Rattle.moka_engine.specs.parts.Operation.{Operation}
use Rattle.moka_engine.specs.parts.SendError.{SendError}
use Rattle.moka_engine.specs.parts.SendError.TheVariants.{UnknownTicket, QueueFull}
use Rattle.moka_engine.specs.Calls.{RunStep, SendsAt, SendStep}
use Rattle.moka_engine.specs.Listed.{ListedRun}
use Rattle.moka_engine.specs.Maintenance.{Terms}
use Rattle.moka_engine.specs.Settling.{IsValid}
use Rattle.moka_engine.specs.State.{State, Events, is_disabled}
use Rattle.moka_engine.proofs.Maps.{get_inserted}
use Rattle.moka_cache.specs.Unsent.{AreOlder, HoldsUnsent, IsHeld}
use Rattle.moka_engine.proofs.Alike.{listed_run_alike}
use Rattle.moka_cache.proofs.Posting.{listed_run_empties, listed_run_holds}
use Rattle.moka_cache.proofs.Stays.{send_holds}
use Rattle.moka_uses.specs.Refused.{IsSent}
use Rattle.moka_uses.proofs.Sent.{HandsOut, back_again}

module _ {K V X P W : Type 0} where
  -- what a send comes to that is not refused for want of room
  pub record ComesTo (s : State K V X P W) (ticket : ℕ) (a : Result (Unit {0}) SendError) (t : State K V X P W) : Type 0 where
    pub refused : IfErr a (λ error. (error ≡ UnknownTicket) × (get s.outstanding ticket ≡ None))
    pub unchanged : OnErr a (t ≡ s)
    pub sent : IfOk a (λ _. IsSent ticket s t)
    pub held : HoldsUnsent s t

  -- after a run
  module _ (says : P → K → V → Bool → Type 0) (read : X → K → V → ℕ → Option ℕ → ℕ → Option ℕ) (before after : List ℕ) where
    pub after_run : (s full : State K V X P W) (ticket : ℕ) → is_disabled s.capacity ≡ false → SendStep s ticket (Err QueueFull) full → (terms : Terms) (more : Bool) (e : Events K V) (emptied : State K V X P W) → RunStep (ListedRun says read before after) full terms more e emptied
        → (a : Result (Unit {0}) SendError) (t : State K V X P W) → SendStep emptied ticket a t → ComesTo s ticket a t
    after_run s full ticket on refused terms more e emptied run a t again = go (get s.outstanding ticket) refl refused
      where
        go : (o : Option Operation) → get s.outstanding ticket ≡ o → SendsAt s ticket o (Err QueueFull) full → ComesTo s ticket a t
        go None there h = absurd h
        go (Some o) there (long, same) = sent a (subst (λ o. SendsAt emptied ticket o a t) waits again)
          where
            alike : emptied.outstanding ≡ s.outstanding
            alike = (listed_run_alike says read before after full terms run.0 e.notices emptied run.1).outstanding ∙ ap (λ x. x.outstanding) same

            waits : get emptied.outstanding ticket ≡ Some o
            waits = ap (λ m. get m ticket) alike ∙ there

            room : emptied.writes ≡ []
            room = listed_run_empties says read before after full terms run.0 e.notices emptied (ap (λ x. is_disabled x.capacity) same ∙ on) run.1

            keeps : HoldsUnsent s t
            keeps n r older held =
                subst (IsHeld n r) (sym (send_holds emptied ticket a t again)) (listed_run_holds says read before after full terms run.0 e.notices emptied run.1 n r (subst (λ x. AreOlder n r x.writes) (sym same) older) (subst (λ x. IsHeld n r x.records) (sym same) held))

            sent : (a : Result (Unit {0}) SendError) → SendsAt emptied ticket (Some o) a t → ComesTo s ticket a t
            sent (Ok u) h = record { refused = tt; unchanged = tt; sent = (o, there, ap (λ x. x.outstanding) h.1 ∙ ap (λ m. remove m ticket) alike); held = keeps }
            sent (Err QueueFull) h = (let none : length emptied.writes ≡ 0 = ap length room in let full : 384 ≤ length emptied.writes = h.0 in absurd (omega (arith, none, full)))
            sent (Err UnknownTicket) h = absurd h

  -- an insert hands out a new ticket
  pub new_ticket : (eq : K → K → Bool) (s t : State K V X P W) (ticket : ℕ) → IsValid eq s → HandsOut s ticket t → get s.outstanding ticket ≡ None
  new_ticket eq s t ticket valid put = none (get s.outstanding ticket) refl
    where
      none : (o : Option Operation) → get s.outstanding ticket ≡ o → o ≡ None
      none None there = refl
      none (Some o) there = (let below : ticket < s.next_ticket = valid.numbered.ticketed.handed ticket o there in let next = put.next in absurd (omega (arith, below, next)))

  -- whose operation is sent then
  pub sent_then : (s t u : State K V X P W) (ticket : ℕ) → HandsOut s ticket t → get s.outstanding ticket ≡ None → (a : Result (Unit {0}) SendError) → IfErr a (λ error. (error ≡ UnknownTicket) × (get t.outstanding ticket ≡ None)) → IfOk a (λ _. IsSent ticket t u) → (a ≡ Ok tt) × (u.outstanding ≡ s.outstanding)
  sent_then s t u ticket put absent (Ok done) refused sent = (refl, sent.2 ∙ ap (λ m. remove m ticket) put.outstanding ∙ back_again s.outstanding ticket put.operation absent)
  sent_then s t u ticket put absent (Err e) refused sent = absurd (none-some put.operation (sym refused.1 ∙ ap (λ m. get m ticket) put.outstanding ∙ get_inserted s.outstanding ticket put.operation))
