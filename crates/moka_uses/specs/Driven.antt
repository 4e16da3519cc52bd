-- What follows from the laws for a list of calls.
use Rattle.std.specs.Prelude.{◌≡◌, true, List, ◌∷◌, ◌++◌, Contains, is_some}
use Rattle.moka_engine.specs.parts.Call.{Call}
use Rattle.moka_engine.specs.parts.Registered.{Registered}
use Rattle.moka_engine.specs.parts.Reply.{Reply}
use Rattle.moka_engine.specs.Drives.{Drives}
use Rattle.moka_engine.specs.Laws.{CoversNothingIn}
use Rattle.moka_engine.specs.Order.{IsInOrder}
use Rattle.moka_engine.specs.Runs.{Engine, Step, CallStep, AreOrderly, last_state}
use Rattle.moka_engine.specs.State.{Meaning, keeps_write_list}

-- the calls were made, with these replies, as `drive` promises, and what follows of their steps
pub record Follows {K V S X L P W C I : Type 0} (m : Meaning K V X L P W C I) (calls : List (Call K V P))
    (replies : List (Reply K V P)) (old : Engine K V S X L P W) (clock : C) (ids : I) (new : Engine K V S X L P W)
    (clock_after : C) (ids_after : I) : Type 0 where
  pub driven : Drives m calls replies old clock ids new clock_after ids_after
  -- in the order of time they keep the order of writing
  pub in_order : keeps_write_list old.state.settings ≡ true → AreOrderly old.state driven.steps →
      IsInOrder old.state old.write_list → IsInOrder new.state new.write_list
  -- a predicate that is gone left in a run at some moment of which it covered nothing
  pub left_idle : (p : Registered P) → Contains old.state.predicates p → (Contains new.state.predicates p → ⊥) →
      (done later : List (Step K V X P W)) × (x : Step K V X P W) × (driven.steps ≡ done ++ x ∷ later)
      × (is_some x.events.passes ≡ true)
      × CallStep m (CoversNothingIn m.says p) (last_state old.state done) x.call x.reply x.events x.after
