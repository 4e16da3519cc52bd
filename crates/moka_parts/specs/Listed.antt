-- Runs of maintenance and calls, with the write list before and after them.
use Rattle.std.specs.Prelude.{◌≡◌, ℕ, Bool, true, List, [], ◌∷◌, ◌++◌, length, Option, None}
use Rattle.moka_parts.specs.Notices.{Notice}
use Rattle.moka_parts.specs.State.{State, Meaning, is_disabled, keeps_write_list}
use Rattle.moka_parts.specs.Maintenance.{Choice, Freedom, Terms, Course, RunsWith, after_choices, before_steps, tests_of}
use Rattle.moka_parts.specs.Bounds.{IsBounded, EndsSweep}
use Rattle.moka_parts.specs.Order.{IsAtRestByWrite, write_list_at_end, write_list_before_steps, written_after_choices}
use Rattle.moka_parts.specs.Runs.{EndsWell, CallStep, Step}

-- what a run by these choices makes of the write list, if it is kept
pub record LeavesList {K V X P W : Type 0} (before after : List ℕ) (s : State K V X P W) (terms : Terms) (ch : Freedom)
    (course : Course) : Type 0 where
  pub list : keeps_write_list s.settings ≡ true → after ≡ write_list_at_end s before ch
  -- where the last sweep by the write list ended, after some of the choices
  pub swept : keeps_write_list s.settings ≡ true → (first second : List Choice) × (ch.steps ≡ first ++ second)
      × EndsSweep s terms course (λ c. IsAtRestByWrite (tests_of s terms.now) c.records
      (written_after_choices (write_list_before_steps s before ch) first)) (after_choices (before_steps s ch) first)
      (length first)

module _ {K V X P W : Type 0} (says : P → K → V → Bool → Type 0) (read : X → K → V → ℕ → Option ℕ → ℕ → Option ℕ)
    (before after : List ℕ) where
  -- a run of maintenance with all that is promised of it, from one write list to the other; a disabled map keeps its
  -- list
  abbrev pub ListedRun : State K V X P W → Terms → Course → List (Notice K V) → State K V X P W → Type 0
  ListedRun s terms course notices t =
      RunsWith says (λ s terms course t. EndsWell says read s terms course t
      × (is_disabled s.capacity ≡ true → after ≡ before))
      (λ s terms ch course. IsBounded says read before s terms ch course
      × LeavesList before after s terms ch course) s terms course notices t

module _ {K V X L P W C I : Type 0} (m : Meaning K V X L P W C I) where
  -- one call from one write list to the other; without a run of maintenance the list stays
  abbrev pub ListedStep : State K V X P W → List ℕ → Step K V X P W → List ℕ → Type 0
  ListedStep s before x after = CallStep m (ListedRun m.says m.read before after) s x.call x.reply x.events x.after
      × (x.events.passes ≡ None → after ≡ before)

  -- a list of calls from one write list to the other
  abbrev pub AreListedSteps : State K V X P W → List ℕ → List (Step K V X P W) → List ℕ → Type 0
  AreListedSteps s before [] last = last ≡ before
  AreListedSteps s before (x ∷ xs) last = (after : List ℕ) × ListedStep s before x after
      × AreListedSteps x.after after xs last
