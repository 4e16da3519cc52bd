-- An insert whose operation is sent at once, after a run if the queue is full.
use Rattle.std.specs.Prelude.{◌≡◌, ◌⊎◌, ℕ, Bool, Some, None, Result, Ok, Err}
use Rattle.std.specs.FinMap.{get, remove}
use Rattle.moka_engine.specs.parts.Call.TheVariants as call
use Rattle.moka_engine.specs.parts.InsertRefused.{InsertRefused}
use Rattle.moka_engine.specs.parts.Instant.{Instant}
use Rattle.moka_engine.specs.parts.Operation.{Operation}
use Rattle.moka_engine.specs.parts.Reply.TheVariants as reply
use Rattle.moka_engine.specs.parts.SendError.{SendError}
use Rattle.moka_engine.specs.parts.SendError.TheVariants.{QueueFull}
use Rattle.moka_engine.specs.parts.Ticket.{Ticket}
use Rattle.moka_engine.specs.Runs.{Engine}
use Rattle.moka_engine.specs.State.{Meaning, State}
use Rattle.moka_uses.specs.Made.{IsOneCall}

-- an operation waited under the ticket, and waits no more, and every other waits still
abbrev pub IsSent : {K V X P W : Type 0} → ℕ → State K V X P W → State K V X P W → Type 0
IsSent ticket s t = (o : Operation) × (get s.outstanding ticket ≡ Some o)
    × (t.outstanding ≡ remove s.outstanding ticket)

module _ {K V S X L P W C I : Type 0} (m : Meaning K V X L P W C I) where
  -- a send; if the queue was full a run and another send; no other call
  abbrev pub SendsAfterAll : Ticket → Instant → Engine K V S X L P W → Engine K V S X L P W →
      Result (Unit {0}) SendError → Type 0
  SendsAfterAll ticket now old new result = IsOneCall m old new (call.Send ticket) (reply.Send result)
      ⊎ ((full emptied : Engine K V S X L P W) × (more : Bool)
      × IsOneCall m old full (call.Send ticket) (reply.Send (Err QueueFull))
      × IsOneCall m full emptied (call.Run now None 1 384) (reply.Run more)
      × IsOneCall m emptied new (call.Send ticket) (reply.Send result))

  -- an insert, done or refused, and if it was done such a send; no other call
  abbrev pub InsertsAndSends : K → V → Instant → Engine K V S X L P W → Engine K V S X L P W →
      Result (Unit {0}) (InsertRefused K V) → Type 0
  InsertsAndSends key value now old new (Ok done) = (hash : ℕ) × (mid : Engine K V S X L P W)
      × (given : Ticket × Instant)
      × IsOneCall m old mid (call.Insert key hash value now) (reply.Insert (Ok given))
      × SendsAfterAll given.0 now mid new (Ok tt)
  InsertsAndSends key value now old new (Err refused) = (hash : ℕ)
      × IsOneCall m old new (call.Insert key hash value now) (reply.Insert (Err refused))
