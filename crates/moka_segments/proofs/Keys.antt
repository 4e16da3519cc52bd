-- What calls leave of the keys of a segment: those that it held, and those that were inserted.
use Rattle.std.proofs.Common.{◌≡◌, ℕ, Bool, List, [], ◌∷◌, Option, Some, ap, sym, subst, ◌∙◌, inl, inr}
use Rattle.std.specs.FinMap.{get, insert, remove}
use Rattle.std.proofs.lemmas.Option.{same_Some}
use Rattle.moka_records.specs.declared.records.Record.{Record}
use Rattle.moka_types.specs.declared.calls.Call.{Call}
use Rattle.moka_types.specs.declared.calls.Reply.{Reply}
use Rattle.moka_parts.specs.Listed.{ListedRun, AreListedSteps}
use Rattle.moka_parts.specs.Maintenance.{Terms, Course}
use Rattle.moka_parts.specs.Notices.{Notice}
use Rattle.moka_records.specs.Records.{Records, record_of_key}
use Rattle.moka_parts.specs.Runs.{Engine, CallStep, Step, calls_of, last_state}
use Rattle.moka_parts.specs.State.{State, Meaning, Events}
use Rattle.moka_records.proofs.Lookup.{record_of_key_found}
use Rattle.moka_records.proofs.Maps.{same_or_apart, get_inserted, get_past_insert, nothing_at}
use Rattle.moka_laws.proofs.RunKeeps.{Keeps, keeps_remove}
use Rattle.moka_laws.proofs.EachCall.{IsKept, kept_by_call}
use Rattle.moka_calls.specs.Synchronous.{Made}
use Rattle.moka_cache.proofs.Keeping.{listed_run_keeps}
use Rattle.moka_engine.specs.Config.{Config}
use Rattle.moka_segments.specs.Built.{IsNew}
use Rattle.moka_segments.specs.Keys.{EachKey, HoldNone, InsertsOne, InsertsOnly, KeysBelong}
use Rattle.moka_router.specs.Routing.{Routing}
use Rattle.moka_segments.specs.Segmented.{Segmented}

module _ {K V : Type 0} (Is : K → Type 0) (records : Records K V) (held : EachKey Is records) where
  -- no record came
  pub keys_kept : (others : Records K V) → Keeps records others → EachKey Is others
  keys_kept others keeps n q there =
      let (r, at, (g, is)) = keeps n q there in
      subst Is (sym (ap (λ (x : Record K V). x.key) is)) (held n r at)

  -- a record was put
  pub keys_put : (n : ℕ) (r : Record K V) → Is r.key → EachKey Is (insert records n r)
  keys_put n r here k q there = elim (same_or_apart k n) [
    | inl e ↦ subst (λ (x : Record K V). Is x.key) (same_Some r q (sym (ap (get (insert records n r)) e ∙ get_inserted records n r) ∙ there)) here
    | inr apart ↦ held k q (sym (get_past_insert records n r k apart) ∙ there)
  ]

  -- the record that a look-up finds
  pub key_found : (eq : K → K → Bool) (key : K) (r : Record K V) → record_of_key eq records key ≡ Some r → Is r.key
  key_found eq key r found =
      let (n, at, same) = record_of_key_found eq records key r found in
      held n r at

module _ {K V X L P W C I : Type 0} (m : Meaning K V X L P W C I) (Runs : State K V X P W → Terms → Course → List (Notice K V) → State K V X P W → Type 0)
    (runs : (s : State K V X P W) (terms : Terms) (course : Course) (notices : List (Notice K V)) (t : State K V X P W) → Runs s terms course notices t → Keeps s.records t.records)
    (Is : K → Type 0) where
  -- each key is one of these
  abbrev AreThese : State K V X P W → Type 0
  AreThese s = EachKey Is s.records

  keys_stay : (s : State K V X P W) (c : Call K V P) → InsertsOne Is c → AreThese s → IsKept m AreThese AreThese s c
  keys_stay s c here held = record {
    begins = held;
    left = held;
    inserted = λ key hash value now w is enabled absent. keys_put Is s.records held s.next_number _ (subst (InsertsOne Is) is here);
    replaced = λ r key hash value now w is found. keys_put Is s.records held r.number _ (key_found Is s.records held m.eq key r found);
    removed = λ key hash now r is found. keys_kept Is s.records held (remove s.records r.number) (keeps_remove s.records r.number);
    sent = λ ticket o is there room. held;
    hit = λ key r now moment found visible. let after = keys_put Is s.records held r.number _ (key_found Is s.records held m.eq key r found) in (after, after);
    hidden = λ now is. held;
    registered = λ p. held;
    resized = λ capacity is enabled. held;
    aside = λ t reads housekeeping held. held;
  }

  -- a call, of which each key that it inserts is one of these
  pub keys_of_call : (s t : State K V X P W) (c : Call K V P) (r : Reply K V P) (e : Events K V) → InsertsOne Is c → EachKey Is s.records → CallStep m Runs s c r e t → EachKey Is t.records
  keys_of_call s t c r e here held step =
      kept_by_call m Runs AreThese AreThese (λ from terms course notices mid held run. keys_kept Is from.records held mid.records (runs from terms course notices mid run)) s t c r e (keys_stay s c here held) step

module _ {K V X L P W C : Type 0} (m : Meaning K V X L P W C (Unit {0})) (Is : K → Type 0) where
  keys_of_steps : (s : State K V X P W) (before last : List ℕ) (xs : List (Step K V X P W)) → InsertsOnly Is (calls_of xs) → EachKey Is s.records → AreListedSteps m s before xs last → EachKey Is (last_state s xs).records
  keys_of_steps s before last [] only held steps = held
  keys_of_steps s before last (x ∷ xs) only held (after, step, rest) =
      keys_of_steps x.after after last xs only.1 (keys_of_call m (ListedRun m.says m.read before after) (listed_run_keeps m.says m.read before after) Is s x.after x.call x.reply x.events only.0 held step.0) rest

module _ {K V S X L P W C : Type 0} (m : Meaning K V X L P W C (Unit {0})) (Is : K → Type 0) where
  -- whatever calls were made
  pub keys_made : (calls : List (Call K V P)) (replies : List (Reply K V P)) (old new : Engine K V S X L P W) (clock clock_after : C) → Made m calls replies old clock new clock_after → InsertsOnly Is calls → EachKey Is old.state.records → EachKey Is new.state.records
  keys_made calls replies old new clock clock_after made only held =
      subst (λ (c : Engine K V S X L P W). EachKey Is c.state.records) (sym made.is_run.ends)
      (keys_of_steps m Is old.state old.write_list new.write_list made.steps (subst (InsertsOnly Is) (sym made.is_run.calls_made) only) held made.listed)

-- a new cache holds no key
pub new_holds_none : {K V S X L P W : Type 0} (routing : Routing S) (whole : Option ℕ) (is_clone : S → S → Type 0) (now : ℕ) (Made : ℕ → Config X L W → Type 0) (c : Segmented K V S X L P W) → IsNew routing whole is_clone now Made c → HoldNone c
new_holds_none routing whole is_clone now Made c new index x at_x =
    let (config, made, built) = new.built index x at_x.within in
    ap (λ s. s.engine.state.records) (sym (at_x.is x) ∙ built.is)

-- and so each key where it belongs
pub none_belong : {K V S X L P W : Type 0} (hash_of : S → K → ℕ) (c : Segmented K V S X L P W) → HoldNone c → KeysBelong hash_of c
none_belong hash_of c none index x at_x n r there = absurd (nothing_at n r (subst (λ (records : Records _ _). get records n ≡ Some r) (none index x at_x) there))
