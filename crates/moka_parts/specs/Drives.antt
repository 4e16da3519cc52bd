-- What is promised of a list of calls.
use Rattle.std.specs.Prelude.{◌≡◌, true, ◌⊎◌, List}
use Rattle.moka_types.specs.declared.calls.Call.{Call}
use Rattle.moka_types.specs.declared.calls.Reply.{Reply}
use Rattle.moka_parts.specs.State.{Meaning, keeps_write_list}
use Rattle.moka_parts.specs.Order.{IsInOrder}
use Rattle.moka_parts.specs.Runs.{Engine, Step, AreSteps, AreOrderly, MakesCalls, PromisedRun, OrderlyRun, IsEmpty}
use Rattle.moka_parts.specs.Listed.{AreListedSteps}
use Rattle.moka_parts.specs.Laws.{AllConserveValues}

-- what `drive` promises: a run of the reference cache in which each run of maintenance keeps its promises
pub record Drives {K V S X L P W C I : Type 0} (m : Meaning K V X L P W C I) (calls : List (Call K V P))
    (replies : List (Reply K V P)) (old : Engine K V S X L P W) (clock : C) (ids : I) (new : Engine K V S X L P W)
    (clock_after : C) (ids_after : I) : Type 0 where
  pub steps : List (Step K V X P W)
  pub is_run : MakesCalls m (PromisedRun m.says m.read) calls replies steps old clock ids new clock_after ids_after
  -- each call leads from one write list to the next
  pub listed : AreListedSteps m old.state old.write_list steps new.write_list
  -- from an empty cache or one in order, in the order of time, each whole run with all sent also removes what is past
  -- its time
  pub orderly : IsEmpty old.state ⊎ (keeps_write_list old.state.settings ≡ true →
      IsInOrder old.state old.write_list) → AreOrderly old.state steps →
      AreSteps m (OrderlyRun m.says m.read) old.state steps
  -- if a listener is set, it is notified of each value that leaves the map once
  pub told_once : old.state.settings.listening ≡ true → AllConserveValues old.state steps
