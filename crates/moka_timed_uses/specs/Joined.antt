-- Two calls at moments of any kind that keep what is promised of a list of calls.
use Rattle.std.specs.Prelude.{ℕ, List, ◌++◌, Option, Result}
use Rattle.moka_engine.specs.parts.Call.{Call}
use Rattle.moka_engine.specs.parts.InsertRefused.{InsertRefused}
use Rattle.moka_engine.specs.parts.Instant.{Instant}
use Rattle.moka_engine.specs.parts.OutOfMemory.{OutOfMemory}
use Rattle.moka_engine.specs.parts.Reply.{Reply}
use Rattle.moka_engine.specs.Copies.{IsCopiedAnswer}
use Rattle.moka_engine.specs.Drives.{Drives}
use Rattle.moka_engine.specs.Runs.{Engine}
use Rattle.moka_engine.specs.State.{Meaning}
use Rattle.moka_cache.specs.Laws.{anytime}
use Rattle.moka_cache.specs.Synchronous.{GetsValue, InsertsEntry, Made}

-- the clock told a moment, at which the calls of an insert were made, and then one at which those of a get were, and no
-- others; together they are a run that keeps all that is promised of a list of calls, by a clock that may tell any
-- moment
abbrev pub DrivesBoth : {K V S X L P W C : Type 0} → Meaning K V X L P W C (Unit {0}) → (V → V → Type 0) → K → V → K →
    Result (Unit {0}) (InsertRefused K V) → Result (Option V) OutOfMemory → Engine K V S X L P W → C →
    Engine K V S X L P W → C → Type 0
DrivesBoth {K} {V} {S} {X} {L} {P} {W} {C} m is_clone key value sought put found old clock new clock_after =
    (hash again : ℕ) × (first later : Instant) × (read between read_again : C) × (mid : Engine K V S X L P W)
    × m.observes clock first read × m.observes between later read_again
    × (own : Result (Option V) OutOfMemory) × IsCopiedAnswer is_clone own found
    × (inserting getting : List (Call K V P)) × (inserted got : List (Reply K V P))
    × InsertsEntry key hash value first put inserting inserted × Made m inserting inserted old read mid between
    × GetsValue sought again later own getting got × Made m getting got mid read_again new clock_after
    × Drives (anytime m) (inserting ++ getting) (inserted ++ got) old tt tt new tt tt
