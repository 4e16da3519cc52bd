-- A get of a key.
use Rattle.std.specs.Prelude.{◌≡◌, ℕ, Bool, false, Option, Ok, is_some}
use Rattle.moka_engine.specs.parts.Call.TheVariants as call
use Rattle.moka_engine.specs.parts.Entry.{Entry}
use Rattle.moka_engine.specs.parts.Instant.{Instant}
use Rattle.moka_engine.specs.parts.Reply.TheVariants as reply
use Rattle.moka_engine.specs.Runs.{Engine}
use Rattle.moka_engine.specs.State.{Meaning}
use Rattle.moka_uses.specs.Made.{IsOneCall}

-- the cache made a get of the key, which found a value or not, and no other call that leaves a trace
abbrev pub Gets : {K V S X L P W C I : Type 0} → Meaning K V X L P W C I → K → Instant → Engine K V S X L P W →
    Engine K V S X L P W → Bool → Type 0
Gets {K} {V} m key now old new is_found = (hash : ℕ) × (found : Option (Entry K V)) × (is_found ≡ is_some found)
    × IsOneCall m old new (call.Get key hash false now) (reply.Get (Ok found))
