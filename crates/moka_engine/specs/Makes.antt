-- One relation over every call: what it replies, the cache before and after it, and what its surroundings go through.
use Rattle.std.specs.Prelude.{◌≡◌, ℕ, Bool, Option, List}
use Rattle.moka_types.specs.declared.calls.Call.{Call}
use Rattle.moka_types.specs.declared.calls.Reply.{Reply}
use Rattle.moka_parts.specs.declared.notification.RemovalCause.{RemovalCause}
use Rattle.moka_records.specs.declared.instant.Instant.{Instant}
use Rattle.moka_parts.specs.Calls.{RunStep}
use Rattle.moka_parts.specs.Listed.{ListedRun}
use Rattle.moka_parts.specs.Runs.{Engine, Befalls, CallStep}
use Rattle.moka_parts.specs.Maintenance.{Terms, Course}
use Rattle.moka_parts.specs.Notices.{Notice}
use Rattle.moka_parts.specs.State.{State, Events, Meaning, meaning_of}

module _ {K V X L P W : Type 0} (eq : K → K → Bool) (tells : L → K → V → RemovalCause → L → Type 0)
    (says : P → K → V → Bool → Type 0) (weighs : W → K → V → ℕ → Type 0)
    (created : X → K → V → ℕ → Option ℕ) (read : X → K → V → ℕ → Option ℕ → ℕ → Option ℕ)
    (updated : X → K → V → ℕ → Option ℕ → Option ℕ) where
  -- what the parts of a cache mean; clock and source of identifiers are not the cache's
  abbrev pub meaning : Meaning K V X L P W (Unit {0}) (Unit {0})
  meaning = meaning_of eq tells says weighs (λ _ _ _. ⊥) (λ _ _ _. ⊥) created read updated

module _ {K V S X L P W : Type 0} (says : P → K → V → Bool → Type 0) (read : X → K → V → ℕ → Option ℕ → ℕ → Option ℕ)
    (tells : L → K → V → RemovalCause → L → Type 0) where
  -- the step leads from the first cache to the second, with events of which this holds
  abbrev pub Takes : ((State K V X P W → Terms → Course → List (Notice K V) → State K V X P W → Type 0) →
      State K V X P W → Events K V → State K V X P W → Type 0) → Engine K V S X L P W → Engine K V S X L P W →
      (Events K V → Type 0) → Type 0
  Takes Step old new Sees = (e : Events K V)
      × Step (ListedRun says read old.write_list new.write_list) old.state e new.state × Befalls tells e old new
      × Sees e

  -- a run with this limit and batch may read the clock so, answer so, and lead from the first cache to the second; the
  -- repeats have no effect
  abbrev pub EngineRuns : Engine K V S X L P W → ℕ → Option ℕ → ℕ → ℕ → List Instant → Bool → Engine K V S X L P W →
      Type 0
  EngineRuns old now limit repeats batch readings answer new =
      Takes (λ Runs s. RunStep Runs s (record { now = now; limit = limit; batch = batch }) answer) old new
      (λ e. e.readings ≡ readings)

module _ {K V S X L P W C I : Type 0} (m : Meaning K V X L P W C I) where
  -- the call gives the reply and leads from the first cache to the second, with events of which this holds
  abbrev pub Makes : Call K V P → Reply K V P → Engine K V S X L P W → Engine K V S X L P W → (Events K V → Type 0) →
      Type 0
  Makes call reply old new Sees =
      Takes m.says m.read m.tells (λ Runs s e t. CallStep m Runs s call reply e t) old new Sees
