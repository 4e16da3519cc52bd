-- Runs and gets change neither the operations that wait nor the capacity.
use Rattle.std.proofs.Common.{◌≡◌, refl, ℕ, Bool, true, false, List, [], length, Option, Some, None, Result, Ok, Err, ap, sym, subst, ◌∙◌, MatchBool}
use Rattle.moka_types.specs.declared.calls.Entry.{Entry}
use Rattle.moka_types.specs.declared.error.OutOfMemory.{OutOfMemory}
use Rattle.moka_records.specs.declared.records.Record.{Record}
use Rattle.moka_records.specs.declared.records.ReadOperation.{ReadOperation}
use Rattle.moka_records.specs.declared.records.ReadOperation.TheVariants.{Miss}
use Rattle.moka_parts.specs.Notices.{Notice}
use Rattle.moka_records.specs.Records.{record_of_key}
use Rattle.moka_parts.specs.State.{State, Events, is_disabled}
use Rattle.moka_parts.specs.Housekeeping.{is_due}
use Rattle.moka_parts.specs.Maintenance.{Terms, Course}
use Rattle.moka_parts.specs.Calls.{KeeperRun, RunsIfDue, RecordsRead, Unchanged, GetsAt, GetStep, after_hit, hit_at, hit_operation}
use Rattle.moka_parts.specs.Listed.{ListedRun}
use Rattle.moka_laws.proofs.Kept.{kept_by_run}

module _ {K V X P W : Type 0} where
  -- operations and capacity are the same
  pub record IsAlike (s t : State K V X P W) : Type 0 where
    pub outstanding : t.outstanding ≡ s.outstanding
    pub capacity : t.capacity ≡ s.capacity

  pub alike_itself : (s : State K V X P W) → IsAlike s s
  alike_itself s = record { outstanding = refl; capacity = refl }

  -- ---- runs

  module _ (Runs : State K V X P W → Terms → Course → List (Notice K V) → State K V X P W → Type 0) (alike : (s : State K V X P W) (terms : Terms) (course : Course) (notices : List (Notice K V)) (t : State K V X P W) → Runs s terms course notices t → IsAlike s t) where
    pub due_alike : (s : State K V X P W) (queued now : ℕ) (e : Events K V) (t : State K V X P W) → RunsIfDue Runs s queued now e t → IsAlike s t × (e.ids ≡ [])
    due_alike s queued now e t step = go (is_due s.housekeeping queued now) step
      where
        go : (b : Bool) → MatchBool b (KeeperRun Runs s now e t) (Unchanged s e t) → IsAlike s t × (e.ids ≡ [])
        go true (answer, mid, (course, ran, same, told), changed) =
            let h = alike s _ course e.notices mid ran in
            (record { outstanding = ap (λ (x : State K V X P W). x.outstanding) changed ∙ h.outstanding; capacity = ap (λ (x : State K V X P W). x.capacity) changed ∙ h.capacity }, ap (λ (x : Events K V). x.ids) told)
        go false (same, none) = (subst (IsAlike s) (sym same) (alike_itself s), ap (λ (x : Events K V). x.ids) none)

    recorded_alike : (s : State K V X P W) (now : ℕ) (r : ReadOperation) (e : Events K V) (t : State K V X P W) → RecordsRead Runs s now r e t → IsAlike s t × (e.ids ≡ [])
    recorded_alike s now r e t (mid, run, queued) =
        let h = due_alike s (length s.reads) now e mid run in
        (record { outstanding = ap (λ (x : State K V X P W). x.outstanding) queued ∙ h.0.outstanding; capacity = ap (λ (x : State K V X P W). x.capacity) queued ∙ h.0.capacity }, h.1)

    -- a get, where the key has that record or none
    pub gets_alike : (says : P → K → V → Bool → Type 0) (read : X → K → V → ℕ → Option ℕ → ℕ → Option ℕ) (s : State K V X P W) (o : Option (Record K V)) (hash : ℕ) (need_key ignored : Bool) (now : ℕ) (a : Result (Option (Entry K V)) OutOfMemory) (e : Events K V) (t : State K V X P W)
        → MatchBool (is_disabled s.capacity) ((a ≡ Ok None) × Unchanged s e t) (GetsAt says read Runs s o hash need_key ignored now a e t) → IsAlike s t × (e.ids ≡ [])
    gets_alike says read s o hash need_key ignored now a e t step = go (is_disabled s.capacity) step
      where
        at : (o : Option (Record K V)) (a : Result (Option (Entry K V)) OutOfMemory) → GetsAt says read Runs s o hash need_key ignored now a e t → IsAlike s t × (e.ids ≡ [])
        at None a h = recorded_alike s now (Miss hash) e t h.1
        at (Some r) (Ok None) h = recorded_alike s now (Miss hash) e t h.1
        at (Some r) (Ok (Some entry)) h = let k = recorded_alike (after_hit read s r now) (hit_at read s r now) (hit_operation read s r now) e t h.3 in (record { outstanding = k.0.outstanding; capacity = k.0.capacity }, k.1)
        at (Some r) (Err _) h = (subst (IsAlike s) (sym h.1.0) (alike_itself s), ap (λ (x : Events K V). x.ids) h.1.1)

        go : (b : Bool) → MatchBool b ((a ≡ Ok None) × Unchanged s e t) (GetsAt says read Runs s o hash need_key ignored now a e t) → IsAlike s t × (e.ids ≡ [])
        go true h = (subst (IsAlike s) (sym h.1.0) (alike_itself s), ap (λ (x : Events K V). x.ids) h.1.1)
        go false h = at o a h

    -- a get of a key
    pub get_alike : (says : P → K → V → Bool → Type 0) (read : X → K → V → ℕ → Option ℕ → ℕ → Option ℕ) (eq : K → K → Bool) (s : State K V X P W) (key : K) (hash : ℕ) (need_key ignored : Bool) (now : ℕ) (a : Result (Option (Entry K V)) OutOfMemory) (e : Events K V) (t : State K V X P W)
        → GetStep says read Runs eq s key hash need_key ignored now a e t → IsAlike s t × (e.ids ≡ [])
    get_alike says read eq s key hash need_key ignored now a e t step = gets_alike says read s (record_of_key eq s.records key) hash need_key ignored now a e t step

module _ {K V X P W : Type 0} (says : P → K → V → Bool → Type 0) (read : X → K → V → ℕ → Option ℕ → ℕ → Option ℕ) (before after : List ℕ)
    (s : State K V X P W) (terms : Terms) (course : Course) (notices : List (Notice K V)) (t : State K V X P W) where
  -- a run from one write list to the other changes neither the operations that wait nor the capacity
  pub listed_run_alike : ListedRun says read before after s terms course notices t → IsAlike s t
  listed_run_alike run = kept_by_run (IsAlike s) s t (alike_itself s) _ says terms course notices (λ ch enabled free. record { outstanding = refl; capacity = refl }) run.0
