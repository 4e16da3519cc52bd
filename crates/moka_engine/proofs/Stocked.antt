-- A store keeps the order of writing and timers as the settings ask, and timers stand at their records' expiries.
use Rattle.std.proofs.Common.{◌≡◌, refl, ℕ, ◌+◌, ◌≤◌, Bool, true, false, true≢false, ◌==◌, Option, Some, None, is_some, inl, inr, ap, sym, ◌∙◌, arith}
use Rattle.std.specs.FinMap.{FinMap, get, insert, remove}
use Rattle.std.specs.Ordering.{nat_cmp}
use Rattle.moka_records.specs.declared.instant.Instant.{Instant}
use Rattle.moka_records.specs.declared.records.Record.{Record}
use Rattle.moka_parts.specs.Expiry.{answer_to_hit, remaining, renewed}
use Rattle.moka_records.specs.Records.{Records, counted_of, is_applied}
use Rattle.moka_parts.specs.Settling.{IsConsistentState, IsTracked, IsWaiting, NeverRenews}
use Rattle.moka_parts.specs.State.{State, Settings, keeps_write_list}
use Rattle.moka_records.specs.Time.{is_same_duration, moment_of}
use Rattle.moka_records.proofs.Maps.{itself_tested, nothing_at}
use Rattle.moka_store.specs.Store.{Kept}
use Rattle.moka_table.specs.Updates.{updated}
use Rattle.moka_table.specs.declared.table.Update.{Update}
use Rattle.moka_store.proofs.Gets.{after_insert, after_remove}
use Rattle.moka_maintenance.specs.Timers.{AreTimed, KeepsTimers}
use Rattle.moka_maintenance.proofs.Timing.{still-timed}
use Rattle.moka_engine.specs.BaseCache.{IsStocked}
use Rattle.moka_inner.specs.Interior.{Interior, nothing_inside}

module _ {K V X W S : Type 0} {read : X → K → V → ℕ → Option ℕ → ℕ → Option ℕ} {settings : Settings X W} {kept : Kept K V S} (h : IsStocked read settings kept) where
  -- where timers are kept up
  pub stocked-on : (after : Kept K V S) → KeepsTimers kept after → IsStocked read settings after
  stocked-on after keeps = record {
    ordered = keeps.ordered ∙ h.ordered;
    timed = keeps.timed ∙ h.timed;
    timers = λ never timed. (let before = sym keeps.timed ∙ timed in still-timed kept after before keeps (h.timers never before));
  }

  -- another room
  pub stocked-roomier : (room : ℕ) → IsStocked read settings (record kept { room = room })
  stocked-roomier room = record { ordered = h.ordered; timed = h.timed; timers = h.timers }

  -- other records, where the timers stand at their expiries
  stocked-with : (records : Records K V) (places : FinMap nat_cmp ℕ) (room : ℕ) → (NeverRenews read settings.expiry → AreTimed kept → AreTimed (record kept { records = records; places = places; room = room })) → IsStocked read settings (record kept { records = records; places = places; room = room })
  stocked-with records places room on = record { ordered = h.ordered; timed = h.timed; timers = λ never timed. on never (h.timers never timed) }

  -- a record that has not seen its newest operation is put in
  pub stocked-inserted : (n : ℕ) (q : Record K V) (places : FinMap nat_cmp ℕ) (room : ℕ) → is_applied q ≡ false → IsStocked read settings (record kept { records = insert kept.records n q; places = places; room = room })
  stocked-inserted n q places room waiting = stocked-with (insert kept.records n q) places room (λ never timers k r there is_in applied. elim (after_insert kept.records n q k r there) [
    | inl new ↦ absurd (true≢false (sym applied ∙ ap is_applied new.1 ∙ waiting))
    | inr old ↦ timers k r old.1 is_in applied
  ])

  -- a record is taken out
  pub stocked-removed : (n : ℕ) (places : FinMap nat_cmp ℕ) (room : ℕ) → IsStocked read settings (record kept { records = remove kept.records n; places = places; room = room })
  stocked-removed n places room = stocked-with (remove kept.records n) places room (λ never timers k r there is_in applied. timers k r (after_remove kept.records n k r there).1 is_in applied)

  -- a record was read
  pub stocked-touched : (n : ℕ) (r : Record K V) (at : Instant) (expires : Option Instant) → get kept.records n ≡ Some r → (NeverRenews read settings.expiry → expires ≡ r.expires) → IsStocked read settings (record kept { records = insert kept.records n (record r { read = at; expires = expires }) })
  stocked-touched n r at expires found same =
      let q : Record K V = record r { read = at; expires = expires } in
      stocked-with (insert kept.records n q) kept.places kept.room (λ never timers k p there is_in applied. elim (after_insert kept.records n q k p there) [
        | inl new ↦
            let before = timers k r (ap (get kept.records) new.0 ∙ found) is_in (sym (ap is_applied new.1) ∙ applied) in
            before ∙ sym (ap (λ (x : Record K V). moment_of x.expires) new.1 ∙ ap moment_of (same never))
        | inr old ↦ timers k p old.1 is_in applied
      ])

-- a record with one more generation has not seen its newest operation
pub update_waits : {K V X P W : Type 0} (s : State K V X P W) → IsConsistentState s → (n : ℕ) (r : Record K V) → get s.records n ≡ Some r → (update : Update V) → is_applied (updated update r) ≡ false
update_waits s h n r there update =
    let tracked : IsTracked (IsWaiting s) n r (counted_of n s.access) = rw there at (h.sound n) in
    let seen = tracked.applied in
    below r.applied r.generation seen
  where
    below : (a b : ℕ) → a ≤ b → (a == b + 1) ≡ false
    below a b le = grind (arith, le)

-- ---- what a hit makes of an expiry that no hit renews

-- a duration, or none, is the same as itself
pub same_duration : (d : Option ℕ) → is_same_duration d d ≡ true
same_duration None = refl
same_duration (Some d) = itself_tested d

module _ {K V X W : Type 0} (read : X → K → V → ℕ → Option ℕ → ℕ → Option ℕ) (settings : Settings X W) (r : Record K V) where
  told_again : (o : Option X) → NeverRenews read o → (at : ℕ) → answer_to_hit read settings o r at ≡ remaining settings r at
  told_again None never at = refl
  told_again (Some x) never at = never x r.key r.value at (remaining settings r at) r.written.0 refl

  pub stays-unrenewed : NeverRenews read settings.expiry → (at : ℕ) → renewed settings r at (answer_to_hit read settings settings.expiry r at) ≡ r.expires
  stays-unrenewed never at = rw (told_again settings.expiry never at, same_duration) refl

-- ---- a new store

pub stocked-new : {K V X W S : Type 0} (read : X → K → V → ℕ → Option ℕ → ℕ → Option ℕ) (settings : Settings X W) (i : Interior K V S) (ordered timed : Bool) (first_ticket : ℕ) → i ≡ nothing_inside ordered timed first_ticket i → ordered ≡ keeps_write_list settings → timed ≡ is_some settings.expiry → IsStocked read settings i.kept
stocked-new read settings i ordered timed first_ticket empty kept wheel = record {
  ordered = ap (λ (x : Interior _ _ _). x.kept.ordered) empty ∙ kept;
  timed = ap (λ (x : Interior _ _ _). x.kept.timed) empty ∙ wheel;
  timers = λ never on n r there is_in applied. absurd (nothing_at n r (sym (ap (λ (x : Interior _ _ _). get x.kept.records n) empty) ∙ there));
}
