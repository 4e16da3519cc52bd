-- Laws of the runs and calls that contracts promise, each with its write list before and after it.
use Rattle.std.proofs.Common.{◌≡◌, refl, ℕ, ◌<◌, true, ◌∷◌, length, Option, Some, None, is_some, Result, Ok, Err, ap, sym, ◌∙◌, subst, true≢false, arith, Bool, []}
use Rattle.std.specs.FinMap.{get}
use Rattle.std.specs.Cmp.{IsEquivalence}
use Rattle.moka_laws.proofs.Types.{Operation, SendError, UnknownTicket, QueueFull, State, Meaning}
use Rattle.moka_parts.specs.State.{keeps_write_list}
use Rattle.moka_parts.specs.Calls.{SendsAt, queue_length}
use Rattle.moka_parts.specs.Order.{IsInOrder}
use Rattle.moka_parts.specs.Laws.{RunsAreOfReference, RunsAgeOut, SendsAfterRun, StepsAreOfReference, ListsAreOfReference, CallsKeepOrder, ListsKeepOrder}
use Rattle.moka_parts.proofs.RunsGoOn.{promised_is_run}
use Rattle.moka_laws.proofs.StepsKeep.{call_keeps}
use Rattle.moka_laws.proofs.OrderedRuns.{listed_is_promised, listed_run_ages_out}
use Rattle.moka_laws.proofs.OrderedDrive.{listed_call_made, listed_call_ends}
use Rattle.moka_laws.proofs.Kept.{run_cases}

module _ {K V X P : Type 0} (W : Type 0) (says : P → K → V → Bool → Type 0) (read : X → K → V → ℕ → Option ℕ → ℕ → Option ℕ) where
  -- such a run is one of the reference cache
  pub runs_are_of_reference : RunsAreOfReference W says read
  runs_are_of_reference before after s terms course notices t run = promised_is_run says read s terms course notices t (listed_is_promised says read before after s terms course notices t run)

  -- from a state in order it leaves nothing that is past its time
  pub runs_age_out : (eq : K → K → Bool) → RunsAgeOut W says read eq
  runs_age_out eq before after s terms course notices t valid run = listed_run_ages_out says read before after s terms course notices t run eq valid

  -- after it the queue of writes is empty, so what waits can be sent
  pub sends_after_run : SendsAfterRun W says read
  sends_after_run before after s terms course notices t run on ticket a u waits step =
      run_cases (a ≡ Ok tt) s t _ says terms course notices (λ off nothing. absurd (true≢false (sym off ∙ on)))
      (λ ch enabled by done. sends (subst (λ (x : State K V X P W). length x.writes < queue_length) (sym by.1) (omega arith)) (get t.outstanding ticket) a waits step)
      (runs_are_of_reference before after s terms course notices t run).0
    where
      sends : length t.writes < queue_length → (o : Option Operation) (a : Result (Unit {0}) SendError) → is_some o ≡ true → SendsAt t ticket o a u → a ≡ Ok tt
      sends few (Some o) (Ok x) there step = refl
      sends few (Some o) (Err QueueFull) there step = absurd (omega (arith, few, step.0))
      sends few (Some o) (Err UnknownTicket) there step = absurd step
      sends few None a there step = absurd (true≢false (sym there))

module _ {K V X L P W C I : Type 0} (m : Meaning K V X L P W C I) where
  -- such a call is one of the reference cache
  pub steps_are_of_reference : StepsAreOfReference m
  steps_are_of_reference s before x after step = listed_call_made m s before after x step

  -- and so is a list of them
  pub lists_are_of_reference : ListsAreOfReference m
  lists_are_of_reference s before [] last done = tt
  lists_are_of_reference s before (x ∷ xs) last (after, step, rest) = (listed_call_made m s before after x step, lists_are_of_reference x.after after xs last rest)

  -- in the order of time it keeps a state in order
  pub calls_keep_order : CallsKeepOrder m
  calls_keep_order s before x after valid step kept orderly order = (listed_call_ends m s before after x step valid orderly (λ _. order)).1 kept

  -- and so does a list of them
  pub lists_keep_order : IsEquivalence m.eq → ListsKeepOrder m
  lists_keep_order laws s before [] last valid done kept orderly order = subst (IsInOrder s) (sym done) order
  lists_keep_order laws s before (x ∷ xs) last valid (after, step, rest) kept orderly order =
      let ends = listed_call_ends m s before after x step valid orderly.0 (λ _. order) in
      lists_keep_order laws x.after after xs last (call_keeps m laws s x.after x.call x.reply x.events valid (listed_call_made m s before after x step)) rest (ap keeps_write_list ends.0 ∙ kept) orderly.1 (ends.1 kept)
