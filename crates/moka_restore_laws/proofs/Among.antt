-- Calls with entries put back among them keep what always holds.
use Rattle.std.proofs.Common.{refl, ℕ, List, [], ◌∷◌, ◌++◌, Result, Ok, Err, ap, sym, subst, inl, inr}
use Rattle.std.specs.Cmp.{IsEquivalence}
use Rattle.moka_types.specs.declared.calls.Call.{Call}
use Rattle.moka_types.specs.declared.calls.Reply.{Reply}
use Rattle.moka_records.specs.declared.instant.Instant.{Instant}
use Rattle.moka_parts.specs.Maintenance.{MaintenanceRun}
use Rattle.moka_parts.specs.Runs.{AreSteps, Engine, PromisedRun}
use Rattle.moka_parts.specs.Settling.{IsValid}
use Rattle.moka_parts.specs.State.{Meaning}
use Rattle.moka_parts.proofs.RunsGoOn.{promised_is_run}
use Rattle.moka_laws.proofs.ConservedCalls.{tells_each_once}
use Rattle.moka_laws.proofs.Promises.{weaker_steps}
use Rattle.moka_laws.proofs.StepsKeep.{calls_keep}
use Rattle.moka_engine.specs.parts.Restored.{Restored}
use Rattle.moka_engine.specs.parts.RestoreRefused.{RestoreRefused}
use Rattle.moka_engine.proofs.RestoreSteps.{restored_valid}
use Rattle.moka_calls.specs.Synchronous.{Made}
use Rattle.moka_cache.specs.declared.cache.saves.RestoreManyRefused.{RestoreManyRefused}
use Rattle.moka_cache.specs.Saves.{PutsAllBack, PutsBack, PutsManyBack}
use Rattle.moka_restore_laws.specs.Among.{Part, Calls, Back, PartsKeep, PartsMade, RestoresAmongCalls, put_back}

module _ {K V S X L P W C : Type 0} (m : Meaning K V X L P W C (Unit {0})) (hash_of : S → K → ℕ) where
  all_put_back : (now : Instant) (items : List (Restored K V)) (old new : Engine K V S X L P W) (clock clock_after : C) → PutsAllBack m hash_of now items old clock new clock_after → PartsMade m hash_of (put_back now items) old clock new clock_after
  all_put_back now [] old new clock clock_after same = same
  all_put_back now (item ∷ items) old new clock clock_after (mid, between, first, rest) = (mid, between, first, all_put_back now items mid new between clock_after rest)

  parts_go_on : (parts later : List (Part K V P)) (old mid new : Engine K V S X L P W) (c1 c2 c3 : C) → PartsMade m hash_of parts old c1 mid c2 → PartsMade m hash_of later mid c2 new c3 → PartsMade m hash_of (parts ++ later) old c1 new c3
  parts_go_on [] later old mid new c1 c2 c3 (same, still) more = subst (λ e. PartsMade m hash_of later e c1 new c3) same (subst (λ c. PartsMade m hash_of later mid c new c3) still more)
  parts_go_on (Calls calls replies ∷ parts) later old mid new c1 c2 c3 (next, between, made, rest) more = (next, between, made, parts_go_on parts later next mid new between c2 c3 rest more)
  parts_go_on (Back now item answer ∷ parts) later old mid new c1 c2 c3 (next, between, put, rest) more = (next, between, put, parts_go_on parts later next mid new between c2 c3 rest more)

  refused_last : (now : Instant) (items : List (Restored K V)) (e : RestoreManyRefused K V) (old new : Engine K V S X L P W) (clock clock_after : C) → (put : PutsManyBack m hash_of now items (Err e) old clock new clock_after) → PartsMade m hash_of (put_back now put.0 ++ Back now put.1 (Err e.refused) ∷ []) old clock new clock_after
  refused_last now items e old new clock clock_after (done, item, all, mid, between, before, refused) =
      parts_go_on (put_back now done) (Back now item (Err e.refused) ∷ []) old mid new clock between clock_after (all_put_back now done old mid clock between before) (new, clock_after, refused, (refl, refl))

  module _ (laws : IsEquivalence m.eq) where
    reference_steps : (old new : Engine K V S X L P W) (clock clock_after : C) (calls : List (Call K V P)) (replies : List (Reply K V P)) → (made : Made m calls replies old clock new clock_after) → AreSteps m (MaintenanceRun m.says) old.state made.steps
    reference_steps old new clock clock_after calls replies made =
        weaker_steps m (PromisedRun m.says m.read) (MaintenanceRun m.says) (λ s terms course notices t run. promised_is_run m.says m.read s terms course notices t run) old.state made.steps made.is_run.are_steps

    valid_made : (old new : Engine K V S X L P W) (clock clock_after : C) (calls : List (Call K V P)) (replies : List (Reply K V P)) → IsValid m.eq old.state → Made m calls replies old clock new clock_after → IsValid m.eq new.state
    valid_made old new clock clock_after calls replies valid made =
        subst (IsValid m.eq) (sym (ap (λ (e : Engine K V S X L P W). e.state) made.is_run.ends)) (calls_keep m laws old.state made.steps valid (reference_steps old new clock clock_after calls replies made))

    valid_put : (now : Instant) (item : Restored K V) (answer : Result (Unit {0}) (RestoreRefused K V)) (old new : Engine K V S X L P W) (clock clock_after : C) → IsValid m.eq old.state → PutsBack m hash_of now item answer old clock new clock_after → IsValid m.eq new.state
    valid_put now item (Ok done) old new clock clock_after valid (inl (off, same, still)) = subst (λ (e : Engine K V S X L P W). IsValid m.eq e.state) (sym same) valid
    valid_put now item (Ok done) old new clock clock_after valid (inr (on, mid, ticket, step, befell, (calls, replies, posts, made))) =
        valid_made mid new clock clock_after calls replies (subst (IsValid m.eq) (sym step.6) (restored_valid m.eq old.state item (hash_of old.hasher item.key) step.0 laws on step.2 valid)) made
    valid_put now item (Err refused) old new clock clock_after valid (on, step, befell, still) = subst (IsValid m.eq) (sym step.2) valid

    parts_keep : (parts : List (Part K V P)) (old new : Engine K V S X L P W) (clock clock_after : C) → IsValid m.eq old.state → PartsMade m hash_of parts old clock new clock_after → PartsKeep m hash_of parts old clock new clock_after
    parts_keep [] old new clock clock_after valid same = same
    parts_keep (Calls calls replies ∷ parts) old new clock clock_after valid (mid, between, made, rest) =
        let after = valid_made old mid clock between calls replies valid made in
        (mid, between, (made, λ listening. tells_each_once m laws old.state made.steps valid listening (reference_steps old mid clock between calls replies made)), after, parts_keep parts mid new between clock_after after rest)
    parts_keep (Back now item answer ∷ parts) old new clock clock_after valid (mid, between, put, rest) =
        let after = valid_put now item answer old mid clock between valid put in
        (mid, between, put, after, parts_keep parts mid new between clock_after after rest)

  pub restores_among_calls : IsEquivalence m.eq → RestoresAmongCalls m hash_of
  restores_among_calls laws = record {
    restored = all_put_back;
    refused = refused_last;
    go_on = parts_go_on;
    keep_promises = parts_keep laws;
  }
