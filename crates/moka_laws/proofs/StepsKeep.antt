-- Every call step, and so every list of calls, keeps what holds of a state at every moment.
use Rattle.std.proofs.Common.{◌≡◌, refl, ℕ, ◌<◌, Bool, false, List, [], ◌∷◌, ◌++◌, Option, Some, ap, sym, ◌∙◌, inl, inr, arith, true≢false}
use Rattle.std.proofs.lemmas.Bool.{or_parts}
use Rattle.std.specs.Cmp.{IsEquivalence}
use Rattle.std.specs.FinMap.{get, remove}
use Rattle.moka_laws.proofs.Types.{Instant, Record, Registered, ReadOperation, Ticketed, Operation, Call, Reply, Step, Housekeeping, Operations, Notice, State, Meaning, Events, Terms, Course, Freedom}
use Rattle.moka_parts.specs.Runs.{CallStep, AreSteps, last_state}
use Rattle.moka_records.specs.Records.{record_of_key, with_record}
use Rattle.moka_parts.specs.State.{is_disabled}
use Rattle.moka_parts.specs.Maintenance.{MaintenanceRun, after_run, at_end}
use Rattle.moka_parts.specs.Settling.{IsWaiting, IsWaitingIn, AreTicketed, IsValid, IsWellNumbered}
use Rattle.moka_parts.specs.Laws.{StaysValid}
use Rattle.moka_parts.specs.Calls.{hit_record, after_hit}
use Rattle.moka_laws.proofs.Waiting.{WaitAlike, waits_sent, sent_at}
use Rattle.moka_laws.proofs.Consistent.{renew_kept, waiting_alike}
use Rattle.moka_laws.proofs.Rising.{rising_sent, rising_applied, waits_below}
use Rattle.moka_laws.proofs.RunKeeps.{run_keeps}
use Rattle.moka_laws.proofs.RunKeepsSound.{run_kept}
use Rattle.moka_laws.proofs.Kept.{kept_by_run}
use Rattle.moka_laws.proofs.EachCall.{IsKept, kept_by_call}
use Rattle.moka_laws.proofs.CallsKeep.{removal_valid, inserted_valid, replaced_valid, record_at_its_number, found_enabled, with_records_numbered, replaced_from}

-- one is sent
pub ticketed_sent : (outstanding : Operations) (writes : List Ticketed) (next ticket : ℕ) (o : Operation) → get outstanding ticket ≡ Some o → AreTicketed outstanding writes next → AreTicketed (remove outstanding ticket) (writes ++ record { ticket = ticket; operation = o } ∷ []) next
ticketed_sent outstanding writes next ticket o there h = record {
  handed = λ n p at. waits_below outstanding writes next n p h ((sent_at outstanding writes ticket o there n p).1 (inl at));
  sent = λ q at. waits_below outstanding writes next q.ticket q.operation h ((sent_at outstanding writes ticket o there q.ticket q.operation).1 (inr at));
}

module _ {K V X P W : Type 0} (eq : K → K → Bool) where
  -- what the facts do not speak of may change
  pub valid_with : (s : State K V X P W) (reads : List ReadOperation) (bound : Option Instant) (predicates : List (Registered P)) (housekeeping : Housekeeping) → IsValid eq s → IsValid eq (record s { reads = reads; invalid_before = bound; predicates = predicates; housekeeping = housekeeping })
  valid_with s reads bound predicates housekeeping h = record {
    consistent = h.consistent;
    numbered = record { numbered = h.numbered.numbered; ticketed = h.numbered.ticketed; disabled = h.numbered.disabled };
    rising = h.rising;
  }

  -- another capacity, where neither is 0
  pub valid_with_capacity : (s : State K V X P W) (capacity : Option ℕ) → is_disabled capacity ≡ false → IsValid eq s → IsValid eq (record s { capacity = capacity })
  valid_with_capacity s capacity on h = record {
    consistent = h.consistent;
    numbered = record { numbered = h.numbered.numbered; ticketed = h.numbered.ticketed; disabled = λ off. absurd (true≢false (sym off ∙ on)) };
    rising = h.rising;
  }

  -- a send
  pub sent_valid : (s : State K V X P W) (ticket : ℕ) (o : Operation) → get s.outstanding ticket ≡ Some o → IsValid eq s → IsValid eq (record s { outstanding = remove s.outstanding ticket; writes = s.writes ++ record { ticket = ticket; operation = o } ∷ [] })
  sent_valid s ticket o there h = record {
    consistent = waiting_alike (IsWaiting s) (IsWaitingIn (remove s.outstanding ticket) (s.writes ++ record { ticket = ticket; operation = o } ∷ [])) s.records s.access h.consistent same;
    numbered = record {
      numbered = record { numbered = h.numbered.numbered.numbered; known = λ x waits. h.numbered.numbered.known x (same.back x waits); one_each = h.numbered.numbered.one_each };
      ticketed = ticketed_sent s.outstanding s.writes s.next_ticket ticket o there h.numbered.ticketed;
      disabled = h.numbered.disabled;
    };
    rising = rising_sent s.outstanding s.writes ticket o there h.rising;
  }
    where
      same : WaitAlike (IsWaiting s) (IsWaitingIn (remove s.outstanding ticket) (s.writes ++ record { ticket = ticket; operation = o } ∷ []))
      same = waits_sent s.outstanding s.writes ticket o there

  -- a run, by whatever choices
  pub run_valid : (s : State K V X P W) (ch : Freedom) → is_disabled s.capacity ≡ false → IsValid eq s → IsValid eq (after_run s ch)
  run_valid s ch on h =
      let alike : IsWellNumbered eq (record s { records = (at_end s ch).records }) = with_records_numbered eq s (at_end s ch).records on h.numbered
      (λ n r there. let old = run_keeps s ch n r there in (old.0, old.1, (ap (λ (x : Record K V). x.key) old.2.1, ap (λ (x : Record K V). x.number) old.2.1))) in
      record {
        consistent = run_kept s ch h.consistent;
        numbered = record {
          numbered = record { numbered = alike.numbered.numbered; known = λ x waits. h.numbered.numbered.known x (elim waits [ inl p ↦ inl p | inr q ↦ let below : q.1.0 < 0 = q.1.1 in absurd (omega arith) ]); one_each = alike.numbered.one_each };
          ticketed = record { handed = h.numbered.ticketed.handed; sent = λ q at. let below : at.0 < 0 = at.1 in absurd (omega arith) };
          disabled = λ off. absurd (true≢false (sym off ∙ on));
        };
        rising = rising_applied s.outstanding s.writes h.rising;
      }

  module _ (says : P → K → V → Bool → Type 0) where
    -- a run of the reference cache
    pub run_step_keeps : (s t : State K V X P W) (terms : Terms) (course : Course) (notices : List (Notice K V)) → IsValid eq s → MaintenanceRun says s terms course notices t → IsValid eq t
    run_step_keeps s t terms course notices h run = kept_by_run (IsValid eq) s t h _ says terms course notices (λ ch on free. run_valid s ch on h) run.0

    module _ (read : X → K → V → ℕ → Option ℕ → ℕ → Option ℕ) where
      -- a hit
      pub hit_valid : (s : State K V X P W) (key : K) (r : Record K V) (now : ℕ) → record_of_key eq s.records key ≡ Some r → IsValid eq s → IsValid eq (after_hit read s r now)
      hit_valid s key r now found h =
          let there : get s.records r.number ≡ Some r = record_at_its_number eq s key r h.numbered found in
          record {
            consistent = renew_kept (IsWaiting s) s.records s.access h.consistent r.number r (hit_record read s r now) there refl refl refl;
            numbered = with_records_numbered eq s (with_record s.records (hit_record read s r now)) (found_enabled eq s key r h.numbered found) h.numbered (replaced_from eq s r (hit_record read s r now) there refl refl);
            rising = h.rising;
          }

-- ---- lists of calls

module _ {K V X L P W C I : Type 0} (m : Meaning K V X L P W C I) (laws : IsEquivalence m.eq) where
  stays_kept : (s : State K V X P W) (c : Call K V P) → IsValid m.eq s → IsKept m (IsValid m.eq) (IsValid m.eq) s c
  stays_kept s c h = record {
    begins = h;
    left = h;
    inserted = λ key hash value now w is on absent. inserted_valid m.eq m.created m.updated s key hash value now w laws on absent h;
    replaced = λ r key hash value now w is found. replaced_valid m.eq m.created m.updated s r key hash value now w found h;
    removed = λ key hash now r is found. removal_valid m.eq s key r found h;
    sent = λ ticket o is there room. sent_valid m.eq s ticket.0 o there h;
    hit = λ key r now moment found visible. let after = hit_valid m.eq m.says m.read s key r now found h in (after, after);
    hidden = λ now is. valid_with m.eq s s.reads (Some now) s.predicates s.housekeeping h;
    registered = λ p. valid_with m.eq s s.reads s.invalid_before (s.predicates ++ p ∷ []) s.housekeeping h;
    resized = λ capacity is on. valid_with_capacity m.eq s capacity (or_parts (is_disabled s.capacity) (is_disabled capacity) on).1 h;
    aside = λ t reads housekeeping h. valid_with m.eq t reads t.invalid_before t.predicates housekeeping h;
  }

  -- one call
  pub call_keeps : (s t : State K V X P W) (c : Call K V P) (r : Reply K V P) (e : Events K V) → IsValid m.eq s → CallStep m (MaintenanceRun m.says) s c r e t → IsValid m.eq t
  call_keeps s t c r e h step =
      kept_by_call m (MaintenanceRun m.says) (IsValid m.eq) (IsValid m.eq) (λ s terms course notices t h run. run_step_keeps m.eq m.says s t terms course notices h run) s t c r e (stays_kept s c h) step

  -- a list of calls
  pub calls_keep : (s : State K V X P W) (steps : List (Step K V X P W)) → IsValid m.eq s → AreSteps m (MaintenanceRun m.says) s steps → IsValid m.eq (last_state s steps)
  calls_keep s [] h done = h
  calls_keep s (x ∷ xs) h (step, rest) = calls_keep x.after xs (call_keeps s x.after x.call x.reply x.events h step) rest

-- the same as a law
pub stays_valid : {K V X L P W C I : Type 0} (m : Meaning K V X L P W C I) → IsEquivalence m.eq → StaysValid m
stays_valid m laws s steps h are = calls_keep m laws s steps h are
