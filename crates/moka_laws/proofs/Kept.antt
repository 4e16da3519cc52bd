-- What holds of a state, and after each run or send that may be made from it, holds afterwards.
use Rattle.std.proofs.Common.{◌≡◌, refl, ℕ, ◌<◌, Bool, true, false, List, [], ◌∷◌, ◌++◌, length, Option, Some, None, Result, Ok, Err, sym, subst, MatchBool}
use Rattle.std.specs.FinMap.{get, remove}
use Rattle.moka_laws.proofs.Types.{Operation, SendError, UnknownTicket, QueueFull, Housekeeping, Freedom, Terms, Course, Notice, State, Events}
use Rattle.moka_parts.specs.Calls.{queue_length, keeper_terms, KeeperRun, RunsIfDue, Unchanged, SendsAt, SendStep}
use Rattle.moka_parts.specs.Housekeeping.{is_due, after_run_due}
use Rattle.moka_parts.specs.Maintenance.{AreFree, DoesNothing, RunsBy, after_run}
use Rattle.moka_parts.specs.State.{is_disabled}

-- a run of maintenance makes free choices, or does nothing where the map is disabled
pub run_cases : {K V X P W : Type 0} (A : Type 0) (s t : State K V X P W) (More : Freedom → Type 0) (says : P → K → V → Bool → Type 0) (terms : Terms) (course : Course) (notices : List (Notice K V)) →
    (is_disabled s.capacity ≡ true → DoesNothing s course notices t → A) → ((ch : Freedom) → is_disabled s.capacity ≡ false → RunsBy says s terms ch course notices t → More ch → A) →
    MatchBool (is_disabled s.capacity) (DoesNothing s course notices t) ((ch : Freedom) × RunsBy says s terms ch course notices t × More ch) → A
run_cases A s t More says terms course notices off by run = go (is_disabled s.capacity) refl run
  where
    go : (b : Bool) → is_disabled s.capacity ≡ b → MatchBool b (DoesNothing s course notices t) ((ch : Freedom) × RunsBy says s terms ch course notices t × More ch) → A
    go true disabled nothing = off disabled nothing
    go false enabled (ch, runs, more) = by ch enabled runs more

module _ {K V X P W : Type 0} (Holds : State K V X P W → Type 0) (s t : State K V X P W) (left : Holds s) where
  -- a run by free choices, or none
  pub kept_by_run : (More : Freedom → Type 0) (says : P → K → V → Bool → Type 0) (terms : Terms) (course : Course) (notices : List (Notice K V)) → ((ch : Freedom) → is_disabled s.capacity ≡ false → AreFree says s terms.now ch → Holds (after_run s ch)) →
      MatchBool (is_disabled s.capacity) (DoesNothing s course notices t) ((ch : Freedom) × RunsBy says s terms ch course notices t × More ch) → Holds t
  kept_by_run More says terms course notices ran = run_cases (Holds t) s t More says terms course notices (λ off nothing. subst Holds (sym nothing.0) left) (λ ch on by more. subst Holds (sym by.1) (ran ch on by.0))

  -- the housekeeper's run, if one is due
  pub kept_by_due : (Runs : State K V X P W → Terms → Course → List (Notice K V) → State K V X P W → Type 0) (queued now : ℕ) (e : Events K V) →
      ((course : Course) (mid : State K V X P W) (housekeeping : Housekeeping) → Runs s (keeper_terms s.settings now) course e.notices mid → Holds (record mid { housekeeping = housekeeping })) → RunsIfDue Runs s queued now e t → Holds t
  kept_by_due Runs queued now e ran step = go (is_due s.housekeeping queued now) step
    where
      go : (b : Bool) → MatchBool b (KeeperRun Runs s now e t) (Unchanged s e t) → Holds t
      go true (answer, mid, (course, run, is, told), same) = subst Holds (sym same) (ran course mid (after_run_due s.housekeeping s.settings.listening now answer) run)
      go false same = subst Holds (sym same.0) left

  -- a send, refused or not
  pub kept_by_send : (ticket : ℕ) (a : Result (Unit {0}) SendError) →
      ((o : Operation) → get s.outstanding ticket ≡ Some o → length s.writes < queue_length → Holds (record s { outstanding = remove s.outstanding ticket; writes = s.writes ++ record { ticket = ticket; operation = o } ∷ [] })) → SendStep s ticket a t → Holds t
  kept_by_send ticket a sent step = go (get s.outstanding ticket) a refl step
    where
      go : (o : Option Operation) (a : Result (Unit {0}) SendError) → get s.outstanding ticket ≡ o → SendsAt s ticket o a t → Holds t
      go (Some o) (Ok x) there (room, same) = subst Holds (sym same) (sent o there room)
      go (Some o) (Err QueueFull) there (full, same) = subst Holds (sym same) left
      go None (Err UnknownTicket) there same = subst Holds (sym same) left
      go o a there step = absurd step
