-- A list of calls whose runs promise more is also one whose runs promise less; so what keeps all promises is a run of
-- the reference cache.
use Rattle.std.proofs.Common.{◌≡◌, ℕ, List, [], ◌∷◌, Some, inl, inr}
use Rattle.moka_laws.proofs.Types.{Record, Call, Reply, Notice, State, Meaning, Events, Terms, Course, Step, Engine}
use Rattle.moka_records.specs.Records.{record_of_key}
use Rattle.moka_parts.specs.Maintenance.{MaintenanceRun}
use Rattle.moka_parts.specs.Calls.{after_hit}
use Rattle.moka_parts.specs.Runs.{CallStep, AreSteps, MakesCalls, PromisedRun}
use Rattle.moka_parts.specs.Laws.{IsOfReference}
use Rattle.moka_laws.proofs.EachCall.{IsKept, each_call}
use Rattle.moka_parts.proofs.RunsGoOn.{promised_is_run}

module _ {K V X L P W C I : Type 0} (m : Meaning K V X L P W C I) (More Less : State K V X P W → Terms → Course → List (Notice K V) → State K V X P W → Type 0)
    (Good : State K V X P W → Type 0) (weaker : (s : State K V X P W) (terms : Terms) (course : Course) (notices : List (Notice K V)) (t : State K V X P W) → Good s → More s terms course notices t → Less s terms course notices t)
    (good_hit : (s : State K V X P W) (key : K) (r : Record K V) (now : ℕ) → record_of_key m.eq s.records key ≡ Some r → Good s → Good (after_hit m.read s r now)) where
  -- one call
  pub weaker_call : (s t : State K V X P W) (c : Call K V P) (r : Reply K V P) (e : Events K V) → Good s → CallStep m More s c r e t → CallStep m Less s c r e t
  weaker_call s t c r e good step = elim (each_call m More Less Good (λ _. Unit {0}) s t c r e any step) [
    | inl x ↦ x.again (weaker x.from x.terms x.course e.notices x.mid x.begins x.run)
    | inr (none, any, again) ↦ again
  ]
    where
      any : IsKept m Good (λ _. Unit {0}) s c
      any = record {
        begins = good;
        left = tt;
        inserted = λ key hash value now w is on absent. tt;
        replaced = λ r key hash value now w is found. tt;
        removed = λ key hash now r is found. tt;
        sent = λ ticket o is there room. tt;
        hit = λ key r now moment found visible. (good_hit s key r now found good, tt);
        hidden = λ now is. tt;
        registered = λ p. tt;
        resized = λ capacity is on. tt;
        aside = λ t reads housekeeping h. tt;
      }

module _ {K V X L P W C I : Type 0} (m : Meaning K V X L P W C I) (More Less : State K V X P W → Terms → Course → List (Notice K V) → State K V X P W → Type 0)
    (weaker : (s : State K V X P W) (terms : Terms) (course : Course) (notices : List (Notice K V)) (t : State K V X P W) → More s terms course notices t → Less s terms course notices t) where
  -- a list of calls
  pub weaker_steps : (s : State K V X P W) (steps : List (Step K V X P W)) → AreSteps m More s steps → AreSteps m Less s steps
  weaker_steps s [] done = done
  weaker_steps s (x ∷ xs) (step, rest) = (weaker_call m More Less (λ _. Unit {0}) (λ s terms course notices t _. weaker s terms course notices t) (λ _ _ _ _ _ good. good) s x.after x.call x.reply x.events tt step, weaker_steps x.after xs rest)

-- a run of a list of calls
pub weaker_is_run : {K V S X L P W C I : Type 0} (m : Meaning K V X L P W C I) (More Less : State K V X P W → Terms → Course → List (Notice K V) → State K V X P W → Type 0)
    (weaker : (s : State K V X P W) (terms : Terms) (course : Course) (notices : List (Notice K V)) (t : State K V X P W) → More s terms course notices t → Less s terms course notices t)
    (calls : List (Call K V P)) (replies : List (Reply K V P)) (steps : List (Step K V X P W)) (old new : Engine K V S X L P W) (clock clock_after : C) (ids ids_after : I) →
    MakesCalls m More calls replies steps old clock ids new clock_after ids_after → MakesCalls m Less calls replies steps old clock ids new clock_after ids_after
weaker_is_run m More Less weaker calls replies steps old new clock clock_after ids ids_after h = record {
  calls_made = h.calls_made;
  replies_given = h.replies_given;
  are_steps = weaker_steps m More Less weaker old.state steps h.are_steps;
  ends = h.ends;
  heard = h.heard;
  read = h.read;
  given = h.given;
}

-- where the runs of maintenance keep their promises, that is a run of the reference cache
pub is_of_reference : {K V X L P W C I : Type 0} (S : Type 0) (m : Meaning K V X L P W C I) → IsOfReference S m
is_of_reference S m calls replies steps old new clock clock_after ids ids_after h =
    weaker_is_run m (PromisedRun m.says m.read) (MaintenanceRun m.says) (promised_is_run m.says m.read) calls replies steps old new clock clock_after ids ids_after h
