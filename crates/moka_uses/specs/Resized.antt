-- A capacity that is lowered and raised again.
use Rattle.std.specs.Prelude.{ℕ, Bool, Some, None, Ok}
use Rattle.moka_engine.specs.parts.Call.TheVariants as call
use Rattle.moka_engine.specs.parts.Instant.{Instant}
use Rattle.moka_engine.specs.parts.Reply.TheVariants as reply
use Rattle.moka_engine.specs.Runs.{Engine}
use Rattle.moka_engine.specs.State.{Meaning}
use Rattle.moka_uses.specs.Made.{IsOneCall}

-- the capacity was lowered, a run made, and the capacity raised; no other call
abbrev pub ShrinksAndGrows : {K V S X L P W C I : Type 0} → Meaning K V X L P W C I → (fewer more : ℕ) → Instant →
    Engine K V S X L P W → Engine K V S X L P W → Type 0
ShrinksAndGrows {K} {V} {S} {X} {L} {P} {W} m fewer more now old new =
    (low ran : Engine K V S X L P W) × (left : Bool)
    × IsOneCall m old low (call.SetCapacity (Some fewer)) (reply.SetCapacity (Ok tt))
    × IsOneCall m low ran (call.Run now None 1 384) (reply.Run left)
    × IsOneCall m ran new (call.SetCapacity (Some more)) (reply.SetCapacity (Ok tt))
