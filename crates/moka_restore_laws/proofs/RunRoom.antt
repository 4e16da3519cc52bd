-- A run that a cache asks for leaves room for all that it holds.
use Rattle.std.proofs.Common.{◌≡◌, refl, ℕ, Bool, true, false, ◌&&◌, List, [], ◌∷◌, Option, Some, None, option_map, ap, sym, subst, ◌∙◌, arith}
use Rattle.std.specs.FinMap.{get, empty}
use Rattle.std.proofs.lemmas.Option.{none-some, same_Some}
use Rattle.moka_types.specs.declared.calls.Reply.TheVariants as reply
use Rattle.moka_records.specs.declared.instant.Instant.{Instant}
use Rattle.moka_records.specs.declared.records.Operation.TheVariants.{Upsert}
use Rattle.moka_records.specs.declared.records.Record.{Record}
use Rattle.moka_parts.specs.Calls.{RunStep}
use Rattle.moka_parts.specs.Exact.{IsExact, IsWithin}
use Rattle.moka_parts.specs.Listed.{AreListedSteps, ListedRun}
use Rattle.moka_parts.specs.Maintenance.{Terms}
use Rattle.moka_parts.specs.Runs.{CallStep, Step, calls_of, last_state, replies_of}
use Rattle.moka_parts.specs.State.{State, Meaning, Events, is_disabled}
use Rattle.moka_parts.proofs.Counting.{exact_weight}
use Rattle.moka_laws.proofs.Alike.{listed_run_alike}
use Rattle.moka_calls.specs.Synchronous.{own_run}
use Rattle.moka_cache.specs.Saves.{AreAsWeighed, HasRoomFor, IsRoomyFor}
use Rattle.moka_cache.proofs.Membership.{none_waits}
use Rattle.moka_cache.proofs.Posting.{listed_run_empties}
use Rattle.moka_restore_laws.specs.Looks.{RunLeavesRoom}

-- the terms of such a run
abbrev own_terms : Instant → Terms
own_terms now = record { now = now.0; limit = None; batch = 384 }

never : (b : Bool) → (b && false) ≡ false
never true = refl
never false = refl

module _ {K V X P W : Type 0} (weighs : W → K → V → ℕ → Type 0) (s : State K V X P W) (exact : IsExact s) (none : s.outstanding ≡ empty) (sent : s.writes ≡ []) where
  counted : (n w : ℕ) (o : Option (Record K V)) → get s.records n ≡ o → option_map (λ (r : Record K V). r.weight) o ≡ Some w → (r : Record K V) × (get s.records n ≡ Some r) × (r.weight ≡ w)
  counted n w None there is = absurd (none-some w is)
  counted n w (Some r) there is = (r, there, same_Some r.weight w is)

  weighed : AreAsWeighed s
  weighed = record {
    once = exact.exact.once;
    counted = λ n w is. counted n w (get s.records n) refl (sym (exact.exact.members n) ∙ is);
    waiting = λ n g w hash waits. absurd (none_waits s none sent (Upsert n g w hash) waits);
  }

  -- what holds exactly its members within the capacity has room for them
  exact_roomy : IsWithin s.capacity s.access → is_disabled s.capacity ≡ false → s.invalid_before ≡ None → s.predicates ≡ [] → IsRoomyFor weighs [] s
  exact_roomy within on bound predicates = record { room = go s.capacity on within; bound = bound; predicates = predicates }
    where
      go : (o : Option ℕ) → is_disabled o ≡ false → IsWithin o s.access → HasRoomFor weighs o [] s
      go None on within = tt
      go (Some capacity) on within = (let all = exact_weight s.records s.access exact.exact in (on, weighed, (0, tt, omega (arith, within, all))))

module _ {K V X L P W C : Type 0} (m : Meaning K V X L P W C (Unit {0})) where
  ran_roomy : (s t : State K V X P W) (before after : List ℕ) (now : Instant) (more : Bool) (e : Events K V) → s.outstanding ≡ empty → is_disabled t.capacity ≡ false → RunStep (ListedRun m.says m.read before after) s (own_terms now) more e t → t.invalid_before ≡ None → t.predicates ≡ [] → IsRoomyFor m.weighs [] t
  ran_roomy s t before after now more e none on (course, run, is, told) bound predicates =
      let alike = listed_run_alike m.says m.read before after s (own_terms now) course e.notices t run in
      let settles = run.1.0.1 in
      exact_roomy m.weighs t (settles.exact none) (alike.outstanding ∙ none) (listed_run_empties m.says m.read before after s (own_terms now) course e.notices t (ap is_disabled (sym alike.capacity) ∙ on) run)
      (settles.within (never s.settings.listening, omega arith) none) on bound predicates

  -- the step of the one call
  one_run : (now : Instant) (more : Bool) (s : State K V X P W) (before last : List ℕ) (xs : List (Step K V X P W)) → calls_of xs ≡ own_run now ∷ [] → replies_of xs ≡ reply.Run more ∷ [] → AreListedSteps m s before xs last →
      (e : Events K V) × RunStep (ListedRun m.says m.read before last) s (own_terms now) more e (last_state s xs)
  one_run now more s before last [] called replied steps = absurd (cc)
  one_run now more s before last (x ∷ []) called replied (after, step, same) =
      let call_is : x.call ≡ own_run now = cc in
      let reply_is : x.reply ≡ reply.Run more = cc in
      let ran : CallStep m (ListedRun m.says m.read before after) s (own_run now) (reply.Run more) x.events x.after = subst (λ r. CallStep m (ListedRun m.says m.read before after) s (own_run now) r x.events x.after) reply_is (subst (λ c. CallStep m (ListedRun m.says m.read before after) s c x.reply x.events x.after) call_is step.0) in
      (x.events, subst (λ ns. RunStep (ListedRun m.says m.read before ns) s (own_terms now) more x.events x.after) (sym same) ran)
  one_run now more s before last (x ∷ y ∷ xs) called replied steps = absurd (cc)

  pub run_leaves_room : (S : Type 0) → RunLeavesRoom S m
  run_leaves_room S now more old new clock clock_after none on (calls, replies, (called, replied), made) bound predicates =
      let ends = ap (λ c. c.state) made.is_run.ends in
      let (e, ran) = one_run now more old.state old.write_list new.write_list made.steps (made.is_run.calls_made ∙ called) (made.is_run.replies_given ∙ replied) made.listed in
      subst (IsRoomyFor m.weighs []) (sym ends) (ran_roomy old.state (last_state old.state made.steps) old.write_list new.write_list now more e none (ap (λ (t : State K V X P W). is_disabled t.capacity) (sym ends) ∙ on) ran (ap (λ (t : State K V X P W). t.invalid_before) (sym ends) ∙ bound) (ap (λ (t : State K V X P W). t.predicates) (sym ends) ∙ predicates))
