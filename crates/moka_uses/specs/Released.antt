-- A removal that keeps what is promised of a list of calls.
use Rattle.std.specs.Prelude.{ℕ, List, Option, Result}
use Rattle.moka_engine.specs.parts.Call.{Call}
use Rattle.moka_engine.specs.parts.Instant.{Instant}
use Rattle.moka_engine.specs.parts.OutOfMemory.{OutOfMemory}
use Rattle.moka_engine.specs.parts.Reply.{Reply}
use Rattle.moka_engine.specs.Drives.{Drives}
use Rattle.moka_engine.specs.Runs.{Engine}
use Rattle.moka_engine.specs.State.{Meaning}
use Rattle.moka_cache.specs.Synchronous.{RemovesEntry}

-- the calls of a removal of the key were made, and no others; they are a run that keeps all that is promised of a list
-- of calls
abbrev pub DrivesRemoval : {K V S X L P W C : Type 0} → Meaning K V X L P W C (Unit {0}) → K → Instant →
    Option (V × Result (Unit {0}) OutOfMemory) → Engine K V S X L P W → C → Engine K V S X L P W → C → Type 0
DrivesRemoval {K} {V} {P = P} m key now taken old clock new clock_after = (hash : ℕ) × (calls : List (Call K V P))
    × (replies : List (Reply K V P)) × RemovesEntry key hash now taken calls replies
    × Drives m calls replies old clock tt new clock_after tt
