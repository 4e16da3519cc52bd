-- Operations that are sent in another order than that of their calls.
use Rattle.std.specs.Prelude.{◌≡◌, ℕ, Bool, None, Ok}
use Rattle.moka_engine.specs.parts.Call.TheVariants as call
use Rattle.moka_engine.specs.parts.Instant.{Instant}
use Rattle.moka_engine.specs.parts.Reply.TheVariants as reply
use Rattle.moka_engine.specs.parts.Ticket.{Ticket}
use Rattle.moka_engine.specs.Config.{Config, new_engine}
use Rattle.moka_engine.specs.Runs.{Engine}
use Rattle.moka_engine.specs.State.{Meaning}
use Rattle.moka_uses.specs.Made.{IsOneCall}

-- a new cache of this configuration made two inserts, of a key and a value each, a send of the second's operation, one
-- of the first's, and a run; no other call
abbrev pub SendsSecondFirst : {K V S X L P W C I : Type 0} → Meaning K V X L P W C I → Config X L W → Instant →
    (first second : K × V) → Engine K V S X L P W → Type 0
SendsSecondFirst {K} {V} {S} {X} {L} {P} {W} m config now first second new =
    (begun one both late sent : Engine K V S X L P W) × (hash other_hash : ℕ) × (early other : Ticket × Instant)
    × (left : Bool) × (begun ≡ new_engine config begun.hasher now.0 begun.room)
    × IsOneCall m begun one (call.Insert first.0 hash first.1 now) (reply.Insert (Ok early))
    × IsOneCall m one both (call.Insert second.0 other_hash second.1 now) (reply.Insert (Ok other))
    × IsOneCall m both late (call.Send other.0) (reply.Send (Ok tt))
    × IsOneCall m late sent (call.Send early.0) (reply.Send (Ok tt))
    × IsOneCall m sent new (call.Run now None 1 384) (reply.Run left)
