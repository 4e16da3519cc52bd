-- Whatever moves were made, each segment is a run of the reference cache.
use Rattle.std.proofs.Common.{◌≡◌, ℕ, ◌==◌, ◌<◌, Bool, true, false, cond, List, [], ◌∷◌, ◌++◌, refl, sym, subst, ◌∙◌, MatchBool}
use Rattle.std.proofs.lemmas.Bool.{eqb-true, eqb-false}
use Rattle.std.proofs.lemmas.List.{get_or-set_same, get_or-set_other, length-set}
use Rattle.moka_records.specs.declared.instant.Instant.{Instant}
use Rattle.moka_parts.specs.Runs.{readings_of}
use Rattle.moka_parts.specs.State.{Meaning}
use Rattle.moka_parts.specs.Surroundings.{Leads}
use Rattle.moka_calls.specs.Synchronous.{Synchronous, Made}
use Rattle.moka_calls.specs.Laws.{anytime}
use Rattle.moka_calls.proofs.Anytime.{made_anytime}
use Rattle.moka_calls.proofs.Made.{made_nothing, made_then}
use Rattle.moka_segments.specs.Laws.{EachMovesAlone, EachRuns, Move, MovesAlone, calls_in, replies_in}
use Rattle.moka_segments.specs.Segmented.{IsAt, StepsAt}

module _ {A : Type 0} where
  -- there is one element at an index
  pub one_at : (xs : List A) (index : ℕ) (x y : A) → IsAt xs index x → IsAt xs index y → x ≡ y
  one_at xs index x y here there = sym (here.is x) ∙ there.is x

  -- after a step, at the index
  pub there_after : (index : ℕ) (Step : A → A → Type 0) (xs ys : List A) (step : StepsAt index Step xs ys) → IsAt ys index step.after
  there_after index Step xs ys step = subst (λ zs. IsAt zs index step.after) (sym step.others) (record {
    within = subst (λ n. index < n) (sym (length-set xs index step.after)) step.there.within;
    is = λ d. get_or-set_same xs index step.after d step.there.within;
  })

  -- after a step, elsewhere
  pub elsewhere_after : (index : ℕ) (Step : A → A → Type 0) (xs ys : List A) (step : StepsAt index Step xs ys) (other : ℕ) (x : A) → (other ≡ index → ⊥) → IsAt xs other x → IsAt ys other x
  elsewhere_after index Step xs ys step other x apart at_x = subst (λ zs. IsAt zs other x) (sym step.others) (record {
    within = subst (λ n. other < n) (sym (length-set xs index step.after)) at_x.within;
    is = λ d. get_or-set_other xs index other step.after d apart ∙ at_x.is d;
  })

module _ {K V S X L P W C : Type 0} (m : Meaning K V X L P W C (Unit {0})) where
  -- each segment makes its own moves, and no other
  pub each_moves_alone : EachMovesAlone S m
  each_moves_alone [] old new clock clock_after moved index x y at_x at_y = (one_at old.segments index y x (subst (λ s. IsAt s.segments index y) moved.1 at_y) at_x, moved.0)
  each_moves_alone (v ∷ vs) old new clock clock_after (between, meanwhile, move, rest) index x y at_x at_y =
      let (z, step, at_z) = go (v.index == index) refl in
      (z, meanwhile, step, each_moves_alone vs between new meanwhile clock_after rest index z y at_z at_y)
    where
      go : (b : Bool) → (v.index == index) ≡ b → (z : Synchronous K V S X L P W) × MatchBool b (Made m v.calls v.replies x.engine clock z.engine meanwhile) ((z ≡ x) × ((moments : List Instant) × Leads m.observes clock moments meanwhile)) × IsAt between.segments index z
      go true same =
          let is : v.index ≡ index = eqb-true v.index index same in
          let x_is : move.one.before ≡ x = one_at old.segments index move.one.before x (subst (λ i. IsAt old.segments i move.one.before) is move.one.there) at_x in (
            move.one.after,
            subst (λ (z : Synchronous K V S X L P W). Made m v.calls v.replies z.engine clock move.one.after.engine meanwhile) x_is move.one.step,
            subst (λ i. IsAt between.segments i move.one.after) is (there_after v.index _ old.segments between.segments move.one),
          )
      go false apart = (
        x,
        (refl, (readings_of move.one.step.steps, move.one.step.is_run.read)),
        elsewhere_after v.index _ old.segments between.segments move.one index x (λ same. eqb-false v.index index apart (sym same)) at_x,
      )

  run_of : (index : ℕ) (moves : List (Move K V P)) (x y : Synchronous K V S X L P W) (clock clock_after : C) → MovesAlone m index moves x clock y clock_after → Made (anytime m) (calls_in index moves) (replies_in index moves) x.engine tt y.engine tt
  run_of index [] x y clock clock_after (same, still) = subst (λ (z : Synchronous K V S X L P W). Made (anytime m) [] [] x.engine tt z.engine tt) (sym same) (made_nothing (anytime m) x.engine tt)
  run_of index (v ∷ vs) x y clock clock_after (z, meanwhile, step, rest) = go (v.index == index) step (run_of index vs z y meanwhile clock_after rest)
    where
      go : (b : Bool) → MatchBool b (Made m v.calls v.replies x.engine clock z.engine meanwhile) ((z ≡ x) × ((moments : List Instant) × Leads m.observes clock moments meanwhile)) → Made (anytime m) (calls_in index vs) (replies_in index vs) z.engine tt y.engine tt
          → Made (anytime m) (cond b (v.calls ++ calls_in index vs) (calls_in index vs)) (cond b (v.replies ++ replies_in index vs) (replies_in index vs)) x.engine tt y.engine tt
      go true made later = made_then (anytime m) v.calls (calls_in index vs) v.replies (replies_in index vs) x.engine z.engine y.engine tt tt tt (made_anytime m v.calls v.replies x.engine z.engine clock meanwhile made) later
      go false (same, told) later = subst (λ (w : Synchronous K V S X L P W). Made (anytime m) (calls_in index vs) (replies_in index vs) w.engine tt y.engine tt) same later

  pub each_runs : EachRuns S m
  each_runs moves old new clock clock_after moved index x y at_x at_y = run_of index moves x y clock clock_after (each_moves_alone moves old new clock clock_after moved index x y at_x at_y)
