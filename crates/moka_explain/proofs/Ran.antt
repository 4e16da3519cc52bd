-- Why what was visible left in the runs that a script asks for.
use Rattle.std.proofs.Common.{◌≡◌, ℕ, Bool, true, false, List, [], ◌∷◌, Some, None, option_map, ap, sym, ◌∙◌, subst, unwrap_or, slice_get, MatchBool}
use Rattle.std.specs.Duration.{as_nanos}
use Rattle.std.specs.FinMap.{get}
use Rattle.moka_types.specs.declared.calls.Reply.{Reply}
use Rattle.moka_records.specs.declared.records.Record.{Record}
use Rattle.moka_types.specs.declared.calls.Call.TheVariants as call
use Rattle.moka_types.specs.declared.calls.Reply.TheVariants as reply
use Rattle.moka_parts.specs.Calls.{KeeperRun, Unchanged, keeper_terms}
use Rattle.moka_parts.specs.Drives.{Drives}
use Rattle.moka_parts.specs.Housekeeping.{is_due}
use Rattle.moka_parts.specs.Maintenance.{Freedom, Terms, Course, DoesNothing, RunsBy, at_end}
use Rattle.moka_parts.specs.Runs.{Engine, CallStep, PromisedRun, AreSteps, calls_of, last_state}
use Rattle.moka_records.specs.Records.{Records}
use Rattle.moka_parts.specs.Notices.{Notice}
use Rattle.moka_parts.specs.Settling.{IsValid}
use Rattle.moka_parts.specs.State.{State, Events, is_disabled}
use Rattle.moka_parts.specs.Visibility.{IsVisible}
use Rattle.moka_laws.proofs.Kept.{run_cases}
use Rattle.moka_play.specs.Played.{ScriptState, ScriptStep, script_meaning}
use Rattle.moka_script.specs.declared.key_range.KeyRange.{KeyRange}
use Rattle.moka_script.specs.declared.rules.Rule.{Rule}
use Rattle.moka_script.specs.declared.sources.CountedIds.{CountedIds}
use Rattle.moka_script.specs.declared.weigher.NumberWeigher.{NumberWeigher}
use Rattle.moka_script.specs.Notices.{Kept}
use Rattle.moka_script.specs.Calls.{CallText}
use Rattle.moka_explain.specs.Explained.{LeavesForRoom, MakesRoom, IsMadeRoomFor}
use Rattle.moka_explain.proofs.Grounds.{leaves_on_ground}

module _ {K V X P W : Type 0} (says : P → K → V → Bool → Type 0) (eq : K → K → Bool) (s t : State K V X P W) (valid : IsValid eq s) where
  -- so it is in each run
  pub room_in_run : (More : Freedom → Type 0) (terms : Terms) (course : Course) (notices : List (Notice K V)) (n : ℕ) (r : Record K V) → get s.records n ≡ Some r → IsVisible says s r terms.now → get t.records n ≡ None →
      MatchBool (is_disabled s.capacity) (DoesNothing s course notices t) ((ch : Freedom) × RunsBy says s terms ch course notices t × More ch) → LeavesForRoom says s t terms.now r
  room_in_run More terms course notices n r there visible gone = run_cases (LeavesForRoom says s t terms.now r) s t More says terms course notices
      (λ off nothing. let both : None ≡ Some r = sym gone ∙ ap (λ (x : State K V X P W). get x.records n) nothing.0 ∙ there in cc)
      (λ ch on by more.
      let out : get (at_end s ch).records n ≡ None = sym (ap (λ (x : State K V X P W). get x.records n) by.1) ∙ gone in
      let left = leaves_on_ground says eq s terms.now valid ch by.0 n r there visible out in
      (ch, by.0, ap (λ (x : State K V X P W). x.records) by.1, left.0, left.1))

module _ {K V X P W : Type 0} (s t : State K V X P W) where
  -- what is still there has not left
  not_left : (n : ℕ) (r : Record K V) (A : Type 0) → t.records ≡ s.records → get s.records n ≡ Some r → get t.records n ≡ None → A
  not_left n r A same there gone = let both : None ≡ Some r = sym gone ∙ ap (λ (m : Records K V). get m n) same ∙ there in cc

-- ---- of the calls of a script

by_call : (s : ScriptState) (c : CallText) (a : Reply ℕ (List ℕ) KeyRange) (e : Events ℕ (List ℕ)) (t : ScriptState) → IsValid script_meaning.eq s → CallStep script_meaning (PromisedRun script_meaning.says script_meaning.read) s c a e t → IsMadeRoomFor c s t
by_call s (call.Run now limit repeats batch) (reply.Run more) e t valid step = λ n r there visible gone.
    room_in_run script_meaning.says script_meaning.eq s t valid _ (record { now = now.0; limit = option_map as_nanos limit; batch = batch }) step.0 e.notices n r there visible gone step.1.0
by_call s (call.RunIfDue now) reply.RunIfDue e t valid step = go (is_due s.housekeeping _ now.0) step
  where
    go : (b : Bool) → MatchBool b (KeeperRun (PromisedRun script_meaning.says script_meaning.read) s now.0 e t) (Unchanged s e t) → MakesRoom now.0 s t
    go true (answer, mid, (course, run, is, told), same) = λ n r there visible gone.
        let records : t.records ≡ mid.records = ap (λ (x : ScriptState). x.records) same in
        let left = room_in_run script_meaning.says script_meaning.eq s mid valid _ (keeper_terms s.settings now.0) course e.notices n r there visible (sym (ap (λ (m : Records ℕ (List ℕ)). get m n) records) ∙ gone) run.0 in
        (left.0, left.1, records ∙ left.2, left.3, left.4)
    go false same = λ n r there visible gone. not_left s t n r (LeavesForRoom script_meaning.says s t now.0 r) (ap (λ (x : ScriptState). x.records) same.0) there gone
by_call s (call.Run now limit repeats batch) a e t valid step = absurd step
by_call s (call.RunIfDue now) a e t valid step = absurd step
by_call s c a e t valid step = tt

module _ {S : Type 0} (c : CallText) (a : Reply ℕ (List ℕ) KeyRange) (old new : Engine ℕ (List ℕ) S (List Rule) Kept KeyRange NumberWeigher) where
  by_steps_of : (steps : List ScriptStep) → IsValid script_meaning.eq old.state → calls_of steps ≡ c ∷ [] → AreSteps script_meaning (PromisedRun script_meaning.says script_meaning.read) old.state steps → new.state ≡ last_state old.state steps → IsMadeRoomFor c old.state new.state
  by_steps_of [] valid made are ends = cc
  by_steps_of (x ∷ []) valid made are ends =
      let same : x.call ≡ c = ap (λ (cs : List CallText). unwrap_or (slice_get cs 0) c) made in
      subst (λ (k : CallText). IsMadeRoomFor k old.state new.state) same
      (subst (λ (t : ScriptState). IsMadeRoomFor x.call old.state t) (sym ends) (by_call old.state x.call x.reply x.events x.after valid are.0))
  by_steps_of (x ∷ y ∷ zs) valid made are ends = cc

  -- one call that a script makes
  pub call_makes_room : (clock clock_after : List ℕ) (ids ids_after : CountedIds) → IsValid script_meaning.eq old.state → Drives script_meaning (c ∷ []) (a ∷ []) old clock ids new clock_after ids_after → IsMadeRoomFor c old.state new.state
  call_makes_room clock clock_after ids ids_after valid d = by_steps_of d.steps valid d.is_run.calls_made d.is_run.are_steps (ap (λ (e : Engine ℕ (List ℕ) S (List Rule) Kept KeyRange NumberWeigher). e.state) d.is_run.ends)
