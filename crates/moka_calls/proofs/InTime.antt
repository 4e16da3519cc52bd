-- Inserts in the order of time are no earlier than any write that is there.
use Rattle.std.proofs.Common.{◌≡◌, ℕ, ◌≤◌, Bool, List, [], ◌∷◌, Option, Some, None, ap, sym, subst, ◌∙◌, inl, inr, arith}
use Rattle.std.specs.Cmp.{IsEquivalence}
use Rattle.std.specs.FinMap.{get, insert, get-empty}
use Rattle.std.specs.Ordering.{nat_cmp}
use Rattle.moka_types.specs.declared.calls.Call.{Call}
use Rattle.moka_types.specs.declared.calls.Call.TheVariants as call
use Rattle.moka_types.specs.declared.calls.Reply.{Reply}
use Rattle.moka_records.specs.declared.records.Record.{Record}
use Rattle.moka_records.proofs.Maps.{found_inserted, found_removed}
use Rattle.moka_parts.specs.Calls.{new_record, updated_record, hit_record}
use Rattle.moka_parts.specs.Laws.{IsNoEarlier, later_of}
use Rattle.moka_parts.specs.Maintenance.{Freedom, Terms, Course, MaintenanceRun, after_run}
use Rattle.moka_parts.specs.Notices.{Notice}
use Rattle.moka_parts.specs.Runs.{Step, CallStep, AreSteps, IsEmpty, calls_of}
use Rattle.moka_parts.specs.Settling.{IsWellNumbered, IsValid}
use Rattle.moka_parts.specs.State.{State, Meaning, Events}
use Rattle.moka_laws.proofs.CallsKeep.{record_at_its_number}
use Rattle.moka_laws.proofs.EachCall.{IsKept, kept_by_call}
use Rattle.moka_laws.proofs.Kept.{kept_by_run}
use Rattle.moka_laws.proofs.RunKeeps.{run_keeps}
use Rattle.moka_laws.proofs.StepsKeep.{call_keeps}
use Rattle.moka_calls.specs.Laws.{IsTimely, AreTimely, inserted_at, InsertsAreInTime}

module _ {K V X P W : Type 0} where
  -- nothing was written later
  abbrev WrittenBy : State K V X P W → ℕ → Type 0
  WrittenBy s t = (n : ℕ) (r : Record K V) → get s.records n ≡ Some r → r.written.0 ≤ t

  written_by_later : (s : State K V X P W) (t u : ℕ) → t ≤ u → WrittenBy s t → WrittenBy s u
  written_by_later s t u le h n r there = (let was = h n r there in omega arith)

  -- in an empty map nothing was
  pub none_written : (s : State K V X P W) → IsEmpty s → WrittenBy s 0
  none_written s empty n r there = (let impossible : None ≡ Some r = sym (get-empty nat_cmp n) ∙ sym (ap (λ records. get records n) empty.records) ∙ there in absurd (cc))

  put_written : (s : State K V X P W) (n : ℕ) (q : Record K V) (t : ℕ) → q.written.0 ≤ t → WrittenBy s t → (m : ℕ) (r : Record K V) → get (insert s.records n q) m ≡ Some r → r.written.0 ≤ t
  put_written s n q t le h m r there = elim (found_inserted s.records n q m r there) [
    | inl (at, one) ↦ subst (λ (x : Record K V). x.written.0 ≤ t) one le
    | inr (apart, before) ↦ h m r before
  ]

  -- a run writes nothing
  run_written : (says : P → K → V → Bool → Type 0) (s t : State K V X P W) (terms : Terms) (course : Course) (notices : List (Notice K V)) (u : ℕ) → WrittenBy s u → MaintenanceRun says s terms course notices t → WrittenBy t u
  run_written says s t terms course notices u h run = kept_by_run (λ x. WrittenBy x u) s t h _ says terms course notices (λ ch on free. by_choices ch) run.0
    where
      by_choices : (ch : Freedom) → WrittenBy (after_run s ch) u
      by_choices ch n q there = (let old = run_keeps s ch n q there in subst (λ (x : Record K V). x.written.0 ≤ u) (sym old.2.1) (h n old.0 old.1))

  timely : (s : State K V X P W) (c : Call K V P) (t : ℕ) → IsNoEarlier t (inserted_at c) → WrittenBy s t → IsTimely s c
  timely s (call.Insert key hash value now) t le h = λ n r there. (let was = h n r there in omega arith)
  timely s c t le h = tt

module _ {K V X L P W C I : Type 0} (m : Meaning K V X L P W C I) where
  written_kept : (s : State K V X P W) (c : Call K V P) (u : ℕ) → ((now : ℕ) → inserted_at c ≡ Some now → now ≤ u) → IsWellNumbered m.eq s → WrittenBy s u → IsKept m (λ x. WrittenBy x u) (λ x. WrittenBy x u) s c
  written_kept s c u le numbered h = record {
    begins = h;
    left = h;
    inserted = λ key hash value now w is on absent. put_written s s.next_number (new_record m.created m.updated s key hash value now w) u (le now.0 (ap inserted_at is)) h;
    replaced = λ r key hash value now w is found. put_written s r.number (updated_record m.created m.updated s r key value now w) u (le now.0 (ap inserted_at is)) h;
    removed = λ key hash now r is found n q there. h n q (found_removed s.records r.number n q there).1;
    sent = λ ticket o is there room. h;
    hit = λ key r now moment found visible. (let after = put_written s r.number (hit_record m.read s r now) u (h r.number r (record_at_its_number m.eq s key r numbered found)) h in (after, after));
    hidden = λ now is. h;
    registered = λ p. h;
    resized = λ capacity is on. h;
    aside = λ t reads housekeeping h. h;
  }

  call_written : (s t : State K V X P W) (c : Call K V P) (r : Reply K V P) (e : Events K V) (now : ℕ) → IsWellNumbered m.eq s → IsNoEarlier now (inserted_at c) → WrittenBy s now → CallStep m (MaintenanceRun m.says) s c r e t → WrittenBy t (later_of now (inserted_at c))
  call_written s t c r e now numbered le h step =
      let u : ℕ = later_of now (inserted_at c) in
      kept_by_call m (MaintenanceRun m.says) (λ x. WrittenBy x u) (λ x. WrittenBy x u) (λ s terms course notices t h run. run_written m.says s t terms course notices u h run) s t c r e
      (written_kept s c u (λ at is. subst (λ o. at ≤ later_of now o) (sym is) (omega arith)) numbered (written_by_later s now u (no_earlier (inserted_at c) le) h)) step
    where
      no_earlier : (o : Option ℕ) → IsNoEarlier now o → now ≤ later_of now o
      no_earlier None h = omega arith
      no_earlier (Some u) h = h

  -- inserts in the order of time are timely
  pub are_timely : IsEquivalence m.eq → (s : State K V X P W) (xs : List (Step K V X P W)) (now : ℕ) → IsValid m.eq s → AreSteps m (MaintenanceRun m.says) s xs → InsertsAreInTime now (calls_of xs) → WrittenBy s now → AreTimely s xs
  are_timely laws s [] now valid done rise h = tt
  are_timely laws s (x ∷ xs) now valid (step, rest) (le, rise) h = (
    timely s x.call now le h,
    are_timely laws x.after xs (later_of now (inserted_at x.call)) (call_keeps m laws s x.after x.call x.reply x.events valid step) rest rise (call_written s x.after x.call x.reply x.events now valid.numbered le h step),
  )
