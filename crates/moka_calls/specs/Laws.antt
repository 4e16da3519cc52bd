-- What is promised of lists of calls that a cache made.
use Rattle.std.specs.Prelude.{◌≡◌, ℕ, true, List, [], ◌∷◌, ◌++◌, Option, Some, None, Result, ⊤}
use Rattle.moka_types.specs.declared.calls.Call.{Call}
use Rattle.moka_types.specs.declared.calls.Call.TheVariants as call
use Rattle.moka_types.specs.declared.calls.Reply.{Reply}
use Rattle.moka_types.specs.declared.calls.Reply.TheVariants as reply
use Rattle.moka_types.specs.declared.error.CapacityError.{CapacityError}
use Rattle.moka_records.specs.declared.instant.Instant.{Instant}
use Rattle.moka_parts.specs.Calls.{CapacityStep, no_events}
use Rattle.moka_parts.specs.State.{State, Meaning, keeps_write_list}
use Rattle.moka_parts.specs.Settling.{IsValid}
use Rattle.moka_parts.specs.Laws.{IsNoEarlier, later_of}
use Rattle.moka_parts.specs.Order.{IsOrderly, IsWriteList}
use Rattle.moka_parts.specs.Runs.{Engine, Step, AreSteps, Befalls, OrderlyRun, IsEmpty}
use Rattle.moka_parts.specs.Drives.{Drives}
use Rattle.moka_parts.specs.Copies.{ClonesAreEqual}
use Rattle.moka_calls.specs.Synchronous.{Made, hears_clones}

-- an insert is no earlier than any write that is there
abbrev pub IsTimely : {K V X P W : Type 0} → State K V X P W → Call K V P → Type 0
IsTimely s (call.Insert key hash value now) = IsOrderly s (call.Insert key hash value now)
IsTimely s c = ⊤

-- the same of each step
abbrev pub AreTimely : {K V X P W : Type 0} → State K V X P W → List (Step K V X P W) → Type 0
AreTimely s [] = Unit {0}
AreTimely s (x ∷ xs) = IsTimely s x.call × AreTimely x.after xs

-- the moment of an insert
abbrev pub inserted_at : {K V P : Type 0} → Call K V P → Option ℕ
inserted_at (call.Insert key hash value now) = Some now.0
inserted_at c = None

-- inserts come in the order of time, from this moment on
abbrev pub InsertsAreInTime : {K V P : Type 0} → ℕ → List (Call K V P) → Type 0
InsertsAreInTime t [] = Unit {0}
InsertsAreInTime t (c ∷ cs) = IsNoEarlier t (inserted_at c) × InsertsAreInTime (later_of t (inserted_at c)) cs

-- the same but for the clock, which may tell any moment: so it may be moved between two calls
abbrev pub anytime : {K V X L P W C I : Type 0} → Meaning K V X L P W C I → Meaning K V X L P W (Unit {0}) I
anytime m = record {
  eq = m.eq;
  tells = m.tells;
  says = m.says;
  weighs = m.weighs;
  observes = λ _ _ _. Unit {0};
  gives = m.gives;
  created = m.created;
  read = m.read;
  updated = m.updated;
}

module _ {K V X L P W C : Type 0} (S : Type 0) (m : Meaning K V X L P W C (Unit {0})) where
  -- what was made after what was made is a run as well
  abbrev pub GoesOn : Type 0
  GoesOn = (calls later : List (Call K V P)) (replies answers : List (Reply K V P)) (old mid new : Engine K V S X L P W)
      (c1 c2 c3 : C) → Made m calls replies old c1 mid c2 → Made m later answers mid c2 new c3
      → Made m (calls ++ later) (replies ++ answers) old c1 new c3

  -- what `invalidate_all` ensures is a chain of one step, whatever the clock is, since it is not read
  abbrev pub InvalidateAllIsMade : Type 0
  InvalidateAllIsMade = (now : Instant) (old new : Engine K V S X L P W) (clock : C) →
      new.state ≡ record old.state { invalid_before = Some now } → Befalls m.tells no_events old new →
      Made m (call.InvalidateAll now ∷ []) (reply.InvalidateAll ∷ []) old clock new clock

  -- and so is what `set_max_capacity` ensures, refused or not
  abbrev pub SetMaxCapacityIsMade : Type 0
  SetMaxCapacityIsMade = (capacity : Option ℕ) (answer : Result (Unit {0}) CapacityError)
      (old new : Engine K V S X L P W) (clock : C) → CapacityStep old.state capacity answer new.state →
      Befalls m.tells no_events old new →
      Made m (call.SetCapacity capacity ∷ []) (reply.SetCapacity answer ∷ []) old clock new clock

  -- what was made from a valid cache keeps all that is promised of a list of calls
  abbrev pub KeepsPromises : Type 0
  KeepsPromises = (calls : List (Call K V P)) (replies : List (Reply K V P)) (old new : Engine K V S X L P W)
      (clock clock_after : C) → IsValid m.eq old.state →
      (keeps_write_list old.state.settings ≡ true → IsWriteList old.state old.write_list) →
      Made m calls replies old clock new clock_after →
      Drives m calls replies old clock tt new clock_after tt

  -- from an empty cache, if no insert is earlier than a write that is there, each run that is not cut also removes
  -- what is past its time
  abbrev pub MadeRunsAgeOut : Type 0
  MadeRunsAgeOut = (calls : List (Call K V P)) (replies : List (Reply K V P)) (old new : Engine K V S X L P W)
      (clock clock_after : C) → IsValid m.eq old.state → IsEmpty old.state →
      (keeps_write_list old.state.settings ≡ true → IsWriteList old.state old.write_list) →
      (made : Made m calls replies old clock new clock_after) → AreTimely old.state made.steps →
      AreSteps m (OrderlyRun m.says m.read) old.state made.steps

  -- the same, if inserts come in the order of time
  abbrev pub RunsAgeOutInTime : Type 0
  RunsAgeOutInTime = (calls : List (Call K V P)) (replies : List (Reply K V P)) (old new : Engine K V S X L P W)
      (clock clock_after : C) → IsValid m.eq old.state → IsEmpty old.state →
      (keeps_write_list old.state.settings ≡ true → IsWriteList old.state old.write_list) → InsertsAreInTime 0 calls →
      (made : Made m calls replies old clock new clock_after) →
      AreSteps m (OrderlyRun m.says m.read) old.state made.steps

  -- a listener that hears hears of clones
  abbrev pub HearsClones : (K → K → Type 0) → (V → V → Type 0) → Type 0
  HearsClones is_key_clone is_value_clone = (calls : List (Call K V P)) (replies : List (Reply K V P))
      (old new : Engine K V S X L P W) (clock clock_after : C) → Made m calls replies old clock new clock_after
      → Made (record m { tells = hears_clones is_key_clone is_value_clone m.tells }) calls
      replies old clock new clock_after

  -- and if clones equal what was cloned, of keys and values themselves
  abbrev pub HearsThemselves : (K → K → Type 0) → (V → V → Type 0) → Type 0
  HearsThemselves is_key_clone is_value_clone = ClonesAreEqual is_key_clone → ClonesAreEqual is_value_clone →
      (calls : List (Call K V P)) (replies : List (Reply K V P))
      (old new : Engine K V S X L P W) (clock clock_after : C) →
      Made (record m { tells = hears_clones is_key_clone is_value_clone m.tells }) calls replies old clock new
      clock_after → Made m calls replies old clock new clock_after

-- calls on a clock that moves between them are one run as well, at moments of any kind
pub record MadeAnytime {K V X L P W C : Type 0} (S : Type 0) (m : Meaning K V X L P W C (Unit {0})) : Type 0 where
  -- what was made was made at some moments
  pub made : (calls : List (Call K V P)) (replies : List (Reply K V P)) (old new : Engine K V S X L P W)
      (clock clock_after : C) → Made m calls replies old clock new clock_after →
      Made (anytime m) calls replies old tt new tt
  pub goes_on : GoesOn S (anytime m)
  pub keeps_promises : KeepsPromises S (anytime m)
  pub ages_out : MadeRunsAgeOut S (anytime m)
  pub ages_out_in_time : RunsAgeOutInTime S (anytime m)
