-- What runs and sends leave of the records: each that is there was there before, but for the applied generation; and
-- what gets do, but for the moment of the read and the expiry too.
use Rattle.std.proofs.Common.{◌≡◌, refl, ℕ, Bool, true, false, List, length, Option, Some, None, Result, Ok, Err, inl, inr, ap, sym, subst, ◌∙◌, MatchBool}
use Rattle.std.specs.Cmp.{IsEquivalence}
use Rattle.std.specs.FinMap.{get, insert}
use Rattle.std.proofs.lemmas.Option.{same_Some}
use Rattle.moka_types.specs.declared.calls.Entry.{Entry}
use Rattle.moka_records.specs.declared.records.ReadOperation.{ReadOperation}
use Rattle.moka_records.specs.declared.records.Record.{Record}
use Rattle.moka_types.specs.declared.error.OutOfMemory.{OutOfMemory}
use Rattle.moka_types.specs.declared.error.SendError.{SendError}
use Rattle.moka_parts.specs.Calls.{GetsAt, GetStep, RecordsRead, after_hit, hit_record, RunsIfDue, Unchanged, SendStep}
use Rattle.moka_parts.specs.Listed.{ListedRun}
use Rattle.moka_parts.specs.Maintenance.{Terms, Course}
use Rattle.moka_parts.specs.Notices.{Notice}
use Rattle.moka_records.specs.Records.{Records, record_of_key}
use Rattle.moka_parts.specs.Settling.{IsValid}
use Rattle.moka_parts.specs.State.{State, Events, is_disabled}
use Rattle.moka_laws.proofs.CallsKeep.{record_at_its_number}
use Rattle.moka_records.proofs.Lookup.{record_of_key_found, present_key}
use Rattle.moka_records.proofs.Maps.{get_inserted, get_past_insert, same_or_apart}
use Rattle.moka_laws.proofs.RunKeeps.{Keeps, keeps_itself, run_keeps}
use Rattle.moka_laws.proofs.Kept.{kept_by_run, kept_by_due, kept_by_send}
use Rattle.moka_cache.specs.Saves.{KeepsRecords}

-- one after the other
pub keeps_then : {K V : Type 0} (a b c : Records K V) → Keeps a b → Keeps b c → Keeps a c
keeps_then a b c first second n q there =
    let mid = second n q there in
    let old = first n mid.0 mid.1 in
    (old.0, old.1, (mid.2.0, mid.2.1 ∙ ap (λ (r : Record _ _). record r { applied = mid.2.0 }) old.2.1))

module _ {K V X P W : Type 0} where
  module _ (says : P → K → V → Bool → Type 0) (read : X → K → V → ℕ → Option ℕ → ℕ → Option ℕ) (before after : List ℕ) where
    -- a run
    pub listed_run_keeps : (s : State K V X P W) (terms : Terms) (course : Course) (notices : List (Notice K V)) (t : State K V X P W) → ListedRun says read before after s terms course notices t → KeepsRecords s t
    listed_run_keeps s terms course notices t run = kept_by_run (KeepsRecords s) s t (keeps_itself s.records) _ says terms course notices (λ ch enabled free. run_keeps s ch) run.0

    -- the housekeeper's run, if one is due
    pub due_keeps : (s : State K V X P W) (queued now : ℕ) (e : Events K V) (t : State K V X P W) → RunsIfDue (ListedRun says read before after) s queued now e t → KeepsRecords s t
    due_keeps s queued now e t step = kept_by_due (KeepsRecords s) s t (keeps_itself s.records) (ListedRun says read before after) queued now e (λ course mid housekeeping run. listed_run_keeps s _ course e.notices mid run) step

  -- a send
  pub send_keeps : (s : State K V X P W) (ticket : ℕ) (a : Result (Unit {0}) SendError) (t : State K V X P W) → SendStep s ticket a t → KeepsRecords s t
  send_keeps s ticket a t step = kept_by_send (KeepsRecords s) s t (keeps_itself s.records) ticket a (λ o there room. keeps_itself s.records) step

-- ---- a get

-- each record of the second was in the first, with this key and value
abbrev ComeFrom : {K V : Type 0} → Records K V → Records K V → Type 0
ComeFrom {K} {V} old new = (n : ℕ) (q : Record K V) → get new n ≡ Some q → (r : Record K V) × (get old n ≡ Some r) × (q.key ≡ r.key) × (q.value ≡ r.value)

module _ {K V X P W : Type 0} (eq : K → K → Bool) (says : P → K → V → Bool → Type 0) (read : X → K → V → ℕ → Option ℕ → ℕ → Option ℕ) (before after : List ℕ) (s t : State K V X P W) (valid : IsValid eq s) (key : K) (hash now : ℕ) (e : Events K V) where
  come_got : (a : Result (Option (Entry K V)) OutOfMemory) → GetStep says read (ListedRun says read before after) eq s key hash false false now a e t → ComeFrom s.records t.records
  come_got a step = at (is_disabled s.capacity) (record_of_key eq s.records key) refl a step
    where
      alike : t ≡ s → ComeFrom s.records t.records
      alike same n q there = (q, subst (λ (x : State K V X P W). get x.records n ≡ Some q) same there, refl, refl)

      recorded : (u : State K V X P W) (moment : ℕ) (r : ReadOperation) → ComeFrom s.records u.records → RecordsRead (ListedRun says read before after) u moment r e t → ComeFrom s.records t.records
      recorded u moment r come (mid, due, queued) n q there =
          let was = due_keeps says read before after u (length u.reads) moment e mid due n q (subst (λ (x : State K V X P W). get x.records n ≡ Some q) queued there) in
          let first = come n was.0 was.1 in
          (first.0, first.1, ap (λ (x : Record K V). x.key) was.2.1 ∙ first.2, ap (λ (x : Record K V). x.value) was.2.1 ∙ first.3)

      itself : ComeFrom s.records s.records
      itself n q there = (q, there, refl, refl)

      hit : (r : Record K V) → record_of_key eq s.records key ≡ Some r → ComeFrom s.records (after_hit read s r now).records
      hit r here n q there = elim (same_or_apart n r.number) [
        | inl same ↦
            let is : hit_record read s r now ≡ q = same_Some _ _ (sym (get_inserted s.records r.number (hit_record read s r now)) ∙ sym (ap (get (insert s.records r.number (hit_record read s r now))) same) ∙ there) in
            (r, ap (get s.records) same ∙ record_at_its_number eq s key r valid.numbered here, sym (ap (λ (x : Record K V). x.key) is), sym (ap (λ (x : Record K V). x.value) is))
        | inr apart ↦ (q, sym (get_past_insert s.records r.number (hit_record read s r now) n apart) ∙ there, refl, refl)
      ]

      at : (b : Bool) (o : Option (Record K V)) → record_of_key eq s.records key ≡ o → (a : Result (Option (Entry K V)) OutOfMemory)
          → MatchBool b ((a ≡ Ok None) × Unchanged s e t) (GetsAt says read (ListedRun says read before after) s o hash false false now a e t) → ComeFrom s.records t.records
      at true o here a h = alike h.1.0
      at false None here a h = recorded s now _ itself h.1
      at false (Some r) here (Ok None) h = recorded s now _ itself h.1
      at false (Some r) here (Ok (Some entry)) h = recorded (after_hit read s r now) _ _ (hit r here) h.3
      at false (Some r) here (Err refused) h = alike h.1.0

  -- the value that the key has after a get it had before
  pub value_stays : IsEquivalence eq → (a : Result (Option (Entry K V)) OutOfMemory) → GetStep says read (ListedRun says read before after) eq s key hash false false now a e t
      → (p : Record K V) → record_of_key eq t.records key ≡ Some p → (r : Record K V) × (record_of_key eq s.records key ≡ Some r) × (p.value ≡ r.value)
  value_stays laws a step p found =
      let at = record_of_key_found eq t.records key p found in
      let was = come_got a step at.0 p at.1 in
      (was.0, present_key eq s.records key laws valid.numbered.numbered.one_each at.0 was.0 was.1 (subst (λ k. eq key k ≡ true) was.2 at.2), was.3)
