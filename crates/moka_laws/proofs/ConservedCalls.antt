-- Where a listener is set, every call tells each value that leaves the map in it, once.
use Rattle.std.proofs.Common.{◌≡◌, refl, ℕ, Bool, true, List, [], ◌∷◌, ◌++◌, Option, Some, None, Result, Ok, Err, ap, sym, ◌∙◌, subst, append-nil, inl, inr, IsPermutation}
use Rattle.std.specs.Cmp.{IsEquivalence}
use Rattle.std.proofs.lemmas.List.Sorted.{IsPermutation-refl, IsPermutation-sym, IsPermutation-trans, IsPermutation-map, IsPermutation-to_front}
use Rattle.std.specs.FinMap.{insert, remove, values}
use Rattle.moka_laws.proofs.Types.{Instant, Record, Ticket, KvEntry, OutOfMemory, InsertRefused, Call, Reply, Notice, State, Settings, Meaning, Events, Terms, Course}
use Rattle.moka_types.specs.declared.calls.Call.TheVariants as call
use Rattle.moka_types.specs.declared.calls.Reply.TheVariants as reply
use Rattle.moka_parts.specs.Notices.{when_listening}
use Rattle.moka_records.specs.Records.{record_of_key}
use Rattle.moka_parts.specs.Maintenance.{MaintenanceRun, left_in_run}
use Rattle.moka_parts.specs.Settling.{IsWellNumbered}
use Rattle.moka_parts.specs.Calls.{no_events, Unchanged, new_record, updated_record, InsertsAt, InsertStep, RemovesAt, RemoveStep, hit_record, after_hit}
use Rattle.moka_parts.specs.Runs.{CallStep}
use Rattle.moka_parts.specs.Laws.{values_of, values_put, values_handed, values_told, ConservesValues, TellsEachOnce}
use Rattle.moka_records.proofs.Values.{values_inserted, values_replaced, values_removed}
use Rattle.moka_laws.proofs.Conserved.{told, Splits, splits_itself, splits_on, splits_updated, tells_what_leaves}
use Rattle.moka_laws.proofs.EachCall.{IsNoWrite, IsKept, each_call}
use Rattle.moka_laws.proofs.CallsKeep.{next_number_free, record_at_its_number}
use Rattle.moka_laws.proofs.StepsKeep.{call_keeps}
use Rattle.moka_laws.proofs.Kept.{run_cases}

-- the state after splits what was before, and the settings stay
pub record Follows {K V X P W : Type 0} (s : State K V X P W) (notices : List (Notice K V)) (t : State K V X P W) : Type 0 where
  pub splits : Splits s.records notices t.records
  pub settings : t.settings ≡ s.settings

module _ {K V X P W : Type 0} where
  follows_itself : (s t : State K V X P W) (e : Events K V) → Unchanged s e t → Follows s e.notices t
  follows_itself s t e (same, none) = record {
    splits = rw (same, none) (splits_itself s.records);
    settings = ap (λ (x : State K V X P W). x.settings) same;
  }

  run_follows : (says : P → K → V → Bool → Type 0) (s t : State K V X P W) (terms : Terms) (course : Course) (notices : List (Notice K V)) → s.settings.listening ≡ true → MaintenanceRun says s terms course notices t → Follows s notices t
  run_follows says s t terms course notices on run = run_cases (Follows s notices t) s t _ says terms course notices
      (λ off nothing. record { splits = rw (nothing.0, nothing.1) (splits_itself s.records); settings = ap (λ (x : State K V X P W). x.settings) nothing.0 })
      (λ ch enabled by done. let tells : notices ≡ left_in_run s ch = by.2 ∙ ap (λ b. when_listening b (left_in_run s ch)) on in record {
        splits = rw tells (subst (λ (x : State K V X P W). Splits s.records (left_in_run s ch) x.records) (sym by.1) (tells_what_leaves s ch));
        settings = ap (λ (x : State K V X P W). x.settings) by.1;
      }) run.0

-- ---- calls that are no insert and no removal

module _ {K V X L P W C I : Type 0} (m : Meaning K V X L P W C I) where
  stays_followed : (s : State K V X P W) (c : Call K V P) → IsWellNumbered m.eq s → IsNoWrite c → IsKept m (Follows s []) (Follows s []) s c
  stays_followed s c h plain = record {
    begins = itself;
    left = itself;
    inserted = λ key hash value now w is on absent. absurd (subst IsNoWrite is plain);
    replaced = λ r key hash value now w is found. absurd (subst IsNoWrite is plain);
    removed = λ key hash now r is found. absurd (subst IsNoWrite is plain);
    sent = λ ticket o is there room. record { splits = itself.splits; settings = refl };
    hit = λ key r now moment found visible.
        let after : Follows s [] (after_hit m.read s r now) = record { splits = splits_updated s.records r.number r (hit_record m.read s r now) (record_at_its_number m.eq s key r h found) refl; settings = refl } in
        (after, after);
    hidden = λ now is. record { splits = itself.splits; settings = refl };
    registered = λ p. record { splits = itself.splits; settings = refl };
    resized = λ capacity is on. record { splits = itself.splits; settings = refl };
    aside = λ t reads housekeeping f. record { splits = f.splits; settings = f.settings };
  }
    where
      itself : Follows s [] s
      itself = follows_itself s s no_events (refl, refl)

  plain_follows : (s t : State K V X P W) (c : Call K V P) (r : Reply K V P) (e : Events K V) → IsNoWrite c → s.settings.listening ≡ true → IsWellNumbered m.eq s → CallStep m (MaintenanceRun m.says) s c r e t → Follows s e.notices t
  plain_follows s t c r e plain on h step = elim (each_call m (MaintenanceRun m.says) (MaintenanceRun m.says) (Follows s []) (Follows s []) s t c r e (stays_followed s c h plain) step) [
    | inl x ↦
        let f = run_follows m.says x.from x.mid x.terms x.course e.notices (ap (λ (y : Settings X W). y.listening) x.begins.settings ∙ on) x.run in
        record {
          splits = splits_on s.records x.from.records t.records [] e.notices x.begins.splits (subst (λ (y : State K V X P W). Splits x.from.records e.notices y.records) (sym x.ends) f.splits);
          settings = ap (λ (y : State K V X P W). y.settings) x.ends ∙ f.settings ∙ x.begins.settings;
        }
    | inr (none, after, again) ↦ record { splits = rw (none.notices plain) after.splits; settings = after.settings }
  ]

-- ---- inserts and removals

module _ {K V X L P W C I : Type 0} (m : Meaning K V X L P W C I) where
  -- a step that conserves the values and keeps the settings
  pub record Conserves (s : State K V X P W) (c : Call K V P) (r : Reply K V P) (e : Events K V) (t : State K V X P W) : Type 0 where
    pub values : ConservesValues s (record { call = c; reply = r; events = e; after = t })
    pub settings : t.settings ≡ s.settings

  -- a call that neither puts in nor hands back
  of_follows : (s t : State K V X P W) (c : Call K V P) (r : Reply K V P) (e : Events K V) → values_put c r ≡ [] → values_handed r ≡ [] → values_told c e.notices ≡ told e.notices → Follows s e.notices t → Conserves s c r e t
  of_follows s t c r e put handed tells f = record {
    values = rw (put, handed, tells, append-nil (values_of s.records)) f.splits;
    settings = f.settings;
  }

  insert_conserves : (s t : State K V X P W) (key : K) (hash : ℕ) (value : V) (now : Instant) (a : Result (Ticket × Instant) (InsertRefused K V)) (e : Events K V) → s.settings.listening ≡ true → IsWellNumbered m.eq s → InsertStep m.created m.updated m.weighs m.eq s key hash value now a e t → Conserves s (call.Insert key hash value now) (reply.Insert a) e t
  insert_conserves s t key hash value now a e on h step = go (record_of_key m.eq s.records key) a refl step
    where
      go : (o : Option (Record K V)) (a : Result (Ticket × Instant) (InsertRefused K V)) → record_of_key m.eq s.records key ≡ o → InsertsAt m.created m.updated m.weighs s o key hash value now a e t → Conserves s (call.Insert key hash value now) (reply.Insert a) e t
      go None (Ok a) found (w, weighs, free, ticket, moment, same, none) =
          let new : Record K V = new_record m.created m.updated s key hash value now w in
          let more : IsPermutation (value ∷ values_of s.records) (values_of (insert s.records s.next_number new)) = IsPermutation-map (λ (r : Record K V). r.value) (new ∷ values s.records) (values (insert s.records s.next_number new)) (values_inserted s.records s.next_number new (next_number_free m.eq s h)) in
          record {
            values = rw (none) (subst (λ (x : State K V X P W). IsPermutation (values_of s.records ++ value ∷ []) (values_of x.records)) (sym same) (IsPermutation-trans (values_of s.records ++ value ∷ []) (value ∷ values_of s.records) (values_of (insert s.records s.next_number new)) (IsPermutation-to_front (values_of s.records) value) more));
            settings = ap (λ (x : State K V X P W). x.settings) same;
          }
      go (Some r) (Ok a) found (w, weighs, free, ticket, moment, same, tells) =
          let q : Record K V = updated_record m.created m.updated s r key value now w in
          let swapped : IsPermutation (value ∷ values_of s.records) (r.value ∷ values_of (insert s.records r.number q)) = IsPermutation-map (λ (r : Record K V). r.value) (q ∷ values s.records) (r ∷ values (insert s.records r.number q)) (values_replaced s.records r.number r q (record_at_its_number m.eq s key r h found)) in
          record {
            values = rw (tells, on) (subst (λ (x : State K V X P W). IsPermutation (values_of s.records ++ value ∷ []) (r.value ∷ values_of x.records)) (sym same) (IsPermutation-trans (values_of s.records ++ value ∷ []) (value ∷ values_of s.records) (r.value ∷ values_of (insert s.records r.number q)) (IsPermutation-to_front (values_of s.records) value) swapped));
            settings = ap (λ (x : State K V X P W). x.settings) same;
          }
      go None (Err refused) found step = of_follows s t (call.Insert key hash value now) (reply.Insert (Err refused)) e refl refl refl (follows_itself s t e step.1)
      go (Some r) (Err refused) found step = of_follows s t (call.Insert key hash value now) (reply.Insert (Err refused)) e refl refl refl (follows_itself s t e step.1)

  remove_conserves : (s t : State K V X P W) (key : K) (hash : ℕ) (now : Option Instant) (removed : Option (KvEntry K V × Ticket)) (tells : Option (Result (Unit {0}) OutOfMemory)) (e : Events K V) → IsWellNumbered m.eq s → RemoveStep m.eq s key removed t → Conserves s (call.Remove key hash now) (reply.Remove removed tells) e t
  remove_conserves s t key hash now removed tells e h step = go (record_of_key m.eq s.records key) refl step
    where
      go : (o : Option (Record K V)) → record_of_key m.eq s.records key ≡ o → RemovesAt s o removed t → Conserves s (call.Remove key hash now) (reply.Remove removed tells) e t
      go None found (none, same) = record {
        values = rw (none, append-nil (values_of s.records)) (subst (λ (x : State K V X P W). IsPermutation (values_of s.records) (values_of x.records)) (sym same) (IsPermutation-refl (values_of s.records)));
        settings = ap (λ (x : State K V X P W). x.settings) same;
      }
      go (Some r) found (some, same) = record {
        values = rw (some, append-nil (values_of s.records)) (subst (λ (x : State K V X P W). IsPermutation (values_of s.records) (r.value ∷ values_of x.records)) (sym same)
            (IsPermutation-sym (r.value ∷ values_of (remove s.records r.number)) (values_of s.records) (IsPermutation-map (λ (r : Record K V). r.value) (r ∷ values (remove s.records r.number)) (values s.records) (values_removed s.records r.number r (record_at_its_number m.eq s key r h found)))));
        settings = ap (λ (x : State K V X P W). x.settings) same;
      }

  -- ---- every call

  -- each call of the reference cache
  pub call_conserves : (s t : State K V X P W) (c : Call K V P) (r : Reply K V P) (e : Events K V) → s.settings.listening ≡ true → IsWellNumbered m.eq s → CallStep m (MaintenanceRun m.says) s c r e t → Conserves s c r e t
  call_conserves s t (call.Insert key hash value now) (reply.Insert a) e on h step = insert_conserves s t key hash value now a e on h step.1
  call_conserves s t (call.Insert key hash value now) (reply.Disabled k v) e on h step = of_follows s t _ _ e refl refl refl (follows_itself s t e step.3)
  call_conserves s t (call.Remove key hash now) (reply.Remove removed tells) e on h step = remove_conserves s t key hash now removed tells e h step.0
  call_conserves s t (call.Insert key hash value now) r e on h step = absurd step
  call_conserves s t (call.Remove key hash now) r e on h step = absurd step
  call_conserves s t c (reply.Remove removed tells) e on h step = absurd step
  call_conserves s t c r e on h step = of_follows s t c r e refl refl refl (plain_follows m s t c r e tt on h step)

  -- every list of calls
  pub tells_each_once : IsEquivalence m.eq → TellsEachOnce m
  tells_each_once laws s [] h on done = tt
  tells_each_once laws s (x ∷ xs) h on (step, rest) =
      let c = call_conserves s x.after x.call x.reply x.events on h.numbered step in
      (c.values, tells_each_once laws x.after xs (call_keeps m laws s x.after x.call x.reply x.events h step) (ap (λ (y : _). y.listening) c.settings ∙ on) rest)
