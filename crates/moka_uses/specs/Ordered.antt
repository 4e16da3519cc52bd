-- Calls in the order of time.
use Rattle.std.specs.Prelude.{◌≡◌, ℕ, ◌≤◌, Some}
use Rattle.std.specs.FinMap.{get}
use Rattle.moka_engine.specs.parts.Record.{Record}
use Rattle.moka_engine.specs.State.{State}

-- no record was written later
abbrev pub IsLatest : {K V X P W : Type 0} → State K V X P W → ℕ → Type 0
IsLatest s now = (n : ℕ) (r : Record _ _) → get s.records n ≡ Some r → r.written.0 ≤ now
