-- A send keeps what always holds of a cache, and tells nobody.
use Rattle.std.proofs.Common.{◌≡◌, ◌↔◌, ℕ, ◌<◌, ◌≤◌, Bool, [], ◌∷◌, ◌++◌, length, Option, Some, None, Result, Ok, Err, OnOk, OnErr, refl, ap, sym, subst, ◌∙◌}
use Rattle.std.specs.FinMap.{get, remove}
use Rattle.moka_types.specs.declared.error.SendError.{SendError}
use Rattle.moka_types.specs.declared.error.SendError.TheVariants.{UnknownTicket, QueueFull}
use Rattle.moka_records.specs.declared.records.Operation.{Operation}
use Rattle.moka_parts.specs.declared.notification.RemovalCause.{RemovalCause}
use Rattle.moka_parts.specs.Calls.{no_events, queue_length, SendsAt, SendStep}
use Rattle.moka_parts.specs.Runs.{Engine, Befalls}
use Rattle.moka_parts.specs.State.{State}
use Rattle.moka_laws.proofs.StepsKeep.{sent_valid}
use Rattle.moka_inner.specs.Interior.{Interior}
use Rattle.moka_engine.specs.BaseCache.{IsCache, IsStocked, IsEngine}
use Rattle.moka_engine.proofs.EngineSteps.{with_inner, cache_with, order_and_hasher, befalls-inside, cache-inner}

module _ {K V S : Type 0} (i j : Interior K V S) (ticket : ℕ) where
  -- what a send of the ticket with this answer makes of the inner part
  abbrev Sends : Result (Unit {0}) SendError → Type 0
  Sends a =
      OnOk a ((o : Operation) × (get i.outstanding ticket ≡ Some o) × (j ≡ record i { outstanding = remove i.outstanding ticket; writes = i.writes ++ record { ticket = ticket; operation = o } ∷ []; operation_room = j.operation_room }))
      × OnErr a (j ≡ record i { operation_room = j.operation_room })

  -- the store is as before
  send-keeps : (a : Result (Unit {0}) SendError) → Sends a → j.kept ≡ i.kept
  send-keeps (Ok _) sent = ap (λ (x : Interior K V S). x.kept) sent.0.2
  send-keeps (Err e) sent = ap (λ (x : Interior K V S). x.kept) sent.1

  -- what always holds of the cache
  pub whole-sent : {X L P W : Type 0} {eq : K → K → Bool} {read : X → K → V → ℕ → Option ℕ → ℕ → Option ℕ} {l : Option L} {s : State K V X P W} → IsEngine eq read l i.kept s → with_inner s i ≡ s → (a : Result (Unit {0}) SendError) → Sends a → IsEngine eq read l j.kept (with_inner s j)
  whole-sent {X} {L} {P} {W} {eq} {read} {l} {s} h inside a sent = record { cache = cache a sent; store = subst (IsStocked read s.settings) (sym (send-keeps a sent)) h.store }
    where
      cache : (a : Result (Unit {0}) SendError) → Sends a → IsCache eq l (with_inner s j)
      cache (Ok _) sent =
          let o = sent.0.0 in
          let is = ap (with_inner s) sent.0.2 ∙ ap (λ (t : State K V X P W). record t { outstanding = remove t.outstanding ticket; writes = t.writes ++ record { ticket = ticket; operation = o } ∷ [] }) inside in
          cache-inner h.cache l refl j is (sent_valid eq s ticket o (ap (λ (t : State K V X P W). get t.outstanding ticket) (sym inside) ∙ sent.0.1) h.cache.valid) h.cache.served.unexpiring
      cache (Err e) sent = subst (IsCache eq l) (sym (ap (with_inner s) sent.1 ∙ inside)) h.cache

  -- nobody is told
  pub befalls-sent : {X L P W : Type 0} (tells : L → K → V → RemovalCause → L → Type 0) {old now : Engine K V S X L P W} → old ≡ now → cache_with old i ≡ old → (a : Result (Unit {0}) SendError) → Sends a → Befalls tells no_events now (cache_with old j)
  befalls-sent tells {old} is held a sent = subst (λ c. Befalls tells no_events c (cache_with old j)) is (befalls-inside old i j held (ap order_and_hasher (send-keeps a sent)) tells)

  -- it is the reference cache's step
  step-inside : {X P W : Type 0} (s : State K V X P W) (a : Result (Unit {0}) SendError) → ((a ≡ Err UnknownTicket) ↔ (get i.outstanding ticket ≡ None)) → (a ≡ Err QueueFull → queue_length ≤ length i.writes) → OnOk a (length i.writes < queue_length) → Sends a → SendStep (with_inner s i) ticket a (with_inner s j)
  step-inside s a unknown full room sent = go (get i.outstanding ticket) refl a unknown full room sent
    where
      go : (o : Option Operation) → get i.outstanding ticket ≡ o → (a : Result (Unit {0}) SendError) → ((a ≡ Err UnknownTicket) ↔ (get i.outstanding ticket ≡ None)) → (a ≡ Err QueueFull → queue_length ≤ length i.writes) → OnOk a (length i.writes < queue_length) → Sends a → SendsAt (with_inner s i) ticket o a (with_inner s j)
      go (Some o) e (Ok _) unknown full room sent =
          let there : Some sent.0.0 ≡ Some o = sym sent.0.1 ∙ e in
          let same : sent.0.0 ≡ o = cc in
          (room, ap (with_inner s) sent.0.2 ∙ ap (λ (o : Operation). with_inner s (record i { outstanding = remove i.outstanding ticket; writes = i.writes ++ record { ticket = ticket; operation = o } ∷ [] })) same)
      go (Some o) e (Err QueueFull) unknown full room sent = (full refl, ap (with_inner s) sent.1)
      go (Some o) e (Err UnknownTicket) unknown full room sent = (let none = sym e ∙ unknown.0 refl in cc)
      go None e (Ok _) unknown full room sent = (let some : None ≡ Some sent.0.0 = sym e ∙ sent.0.1 in cc)
      go None e (Err UnknownTicket) unknown full room sent = ap (with_inner s) sent.1
      go None e (Err QueueFull) unknown full room sent = (let same = unknown.1 e in cc)

  pub step-sent : {X L P W : Type 0} {old now : Engine K V S X L P W} → old ≡ now → cache_with old i ≡ old → (a : Result (Unit {0}) SendError) → ((a ≡ Err UnknownTicket) ↔ (get i.outstanding ticket ≡ None)) → (a ≡ Err QueueFull → queue_length ≤ length i.writes) → OnOk a (length i.writes < queue_length) → Sends a → SendStep now.state ticket a (with_inner old.state j)
  step-sent {X} {L} {P} {W} {old} is held a unknown full room sent =
      let first = subst (λ (c : Engine K V S X L P W). SendStep c.state ticket a (with_inner old.state j)) held (step-inside old.state a unknown full room sent) in
      subst (λ (c : Engine K V S X L P W). SendStep c.state ticket a (with_inner old.state j)) is first
