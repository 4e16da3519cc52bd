-- A predicate that leaves in a call does so in a run at some moment of which it covers no record.
use Rattle.std.proofs.Common.{◌≡◌, refl, true, List, [], ◌∷◌, is_some, ap, sym, subst, ◌⊎◌, inl, inr, Contains}
use Rattle.std.proofs.lemmas.List.Elements.{Contains-append_left}
use Rattle.moka_laws.proofs.Types.{Registered, Call, Reply, Notice, State, Meaning, Events, Terms, Course}
use Rattle.moka_parts.specs.Maintenance.{MaintenanceRun, before_steps}
use Rattle.moka_parts.specs.Runs.{CallStep}
use Rattle.moka_parts.specs.Laws.{CoversNothingIn, PredicatesLeaveIdle}
use Rattle.moka_laws.proofs.EachCall.{IsKept, each_call}
use Rattle.moka_laws.proofs.Dropped.{kept_or_idle}
use Rattle.moka_laws.proofs.Kept.{run_cases}

module _ {K V X L P W C I : Type 0} (m : Meaning K V X L P W C I) (p : Registered P) where
  -- the predicate is registered
  abbrev IsThere : State K V X P W → Type 0
  IsThere s = Contains s.predicates p

  run_leaves : (s t : State K V X P W) (terms : Terms) (course : Course) (notices : List (Notice K V)) → IsThere s → MaintenanceRun m.says s terms course notices t → IsThere t ⊎ CoversNothingIn m.says p s terms course notices t
  run_leaves s t terms course notices here run = run_cases _ s t _ m.says terms course notices
      (λ off nothing. inl (subst IsThere (sym nothing.0) here))
      (λ ch on by done. elim (kept_or_idle m.says s terms.now (before_steps s ch) s.predicates ch.steps p by.0.1 here) [
        | inl stays ↦ inl (subst IsThere (sym by.1) stays)
        | inr (first, rest, same, idle) ↦ inr (ch, by, first, rest, same, idle)
      ]) run.0

  stays_there : (s : State K V X P W) (c : Call K V P) → IsThere s → IsKept m IsThere IsThere s c
  stays_there s c here = record {
    begins = here;
    left = here;
    inserted = λ key hash value now w is on absent. here;
    replaced = λ r key hash value now w is found. here;
    removed = λ key hash now r is found. here;
    sent = λ ticket o is there room. here;
    hit = λ key r now moment found visible. (here, here);
    hidden = λ now is. here;
    registered = λ other. Contains-append_left s.predicates (other ∷ []) p here;
    resized = λ capacity is on. here;
    aside = λ t reads housekeeping here. here;
  }

  -- it is kept, or a run was made that covered nothing
  call_leaves : (s t : State K V X P W) (c : Call K V P) (r : Reply K V P) (e : Events K V) → IsThere s → CallStep m (MaintenanceRun m.says) s c r e t → IsThere t ⊎ ((is_some e.passes ≡ true) × CallStep m (CoversNothingIn m.says p) s c r e t)
  call_leaves s t c r e here step = elim (each_call m (MaintenanceRun m.says) (CoversNothingIn m.says p) IsThere IsThere s t c r e (stays_there s c here) step) [
    | inl x ↦ elim (run_leaves x.from x.mid x.terms x.course e.notices x.begins x.run) [
      | inl stays ↦ inl (subst IsThere (sym x.ends) stays)
      | inr idle ↦ inr (ap (λ (f : Events K V). is_some f.passes) x.events, x.again idle)
    ]
    | inr (none, stays, again) ↦ inl stays
  ]

-- a predicate that leaves does so in a run at some moment of which it covers nothing
pub predicates_leave_idle : {K V X L P W C I : Type 0} (m : Meaning K V X L P W C I) → PredicatesLeaveIdle m
predicates_leave_idle m s [] p done here gone = absurd (gone here)
predicates_leave_idle m s (x ∷ xs) p (step, rest) here gone = elim (call_leaves m p s x.after x.call x.reply x.events here step) [
  | inl stays ↦
      let later = predicates_leave_idle m x.after xs p rest stays gone in
      (x ∷ later.0, later.1, later.2, ap (λ ys. x ∷ ys) later.3, later.4, later.5)
  | inr (some, idle) ↦ ([], xs, x, refl, some, idle)
]
