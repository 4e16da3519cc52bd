-- A record that was found, before and after a run of the housekeeper, and where its number has its row.
use Rattle.std.proofs.Common.{◌≡◌, refl, ℕ, Bool, true, ◌<◌, List, [], Option, Some, None, option_map, inl, inr, ap, sym, subst, ◌∙◌, arith}
use Rattle.std.specs.Cmp.{IsEquivalence}
use Rattle.std.specs.FinMap.{get}
use Rattle.std.proofs.lemmas.Option.{same_Some}
use Rattle.moka_records.specs.declared.records.Operation.{Operation}
use Rattle.moka_records.specs.declared.records.Operation.TheVariants.{Removal}
use Rattle.moka_records.specs.declared.records.Record.{Record}
use Rattle.moka_parts.specs.Calls.{KeeperRun, keeper_terms}
use Rattle.moka_parts.specs.Listed.{ListedRun}
use Rattle.moka_parts.specs.Maintenance.{Freedom, after_run}
use Rattle.moka_records.specs.Records.{counted_of, record_of_key}
use Rattle.moka_parts.specs.Settling.{IsWaitingIn, IsWaiting, IsTracked, IsValid}
use Rattle.moka_parts.specs.Runs.{Engine}
use Rattle.moka_parts.specs.State.{State, Events}
use Rattle.moka_laws.proofs.CallsKeep.{record_at_its_number}
use Rattle.moka_laws.proofs.Kept.{kept_by_run}
use Rattle.moka_records.proofs.Lookup.{record_of_key_found, present_key}
use Rattle.moka_laws.proofs.RunKeeps.{Keeps, keeps_itself, run_keeps}
use Rattle.moka_store.proofs.Gets.{option-cases}
use Rattle.moka_inner.specs.ReadNumber.{IsReadNumber}
use Rattle.moka_engine.specs.BaseCache.{IsCache}

-- a record with this number
pub number_found : {K V : Type 0} (o : Option (Record K V)) (n : ℕ) → option_map (λ r. r.number) o ≡ Some n → (r : Record K V) × (o ≡ Some r) × (r.number ≡ n)
number_found None n e = cc
number_found (Some r) n e = (r, refl, same_Some r.number n e)

module _ {K V X P W : Type 0} (eq : K → K → Bool) (laws : IsEquivalence eq) where
  -- the number of the key's record in a state, as the inner part asks to know it
  abbrev IsReadNumberIn : State K V X P W → K → ℕ → Type 0
  IsReadNumberIn s key n = IsReadNumber eq s.records s.outstanding s.writes s.next_number key n

  -- a record that is found
  read-number-found : (s : State K V X P W) → IsValid eq s → (key : K) (r : Record K V) → record_of_key eq s.records key ≡ Some r → IsReadNumberIn s key r.number
  read-number-found s h key r found = record {
    given = (h.numbered.numbered.numbered r.number r there).1;
    own = there ∙ sym found;
    alone = λ n q at same. sym (h.numbered.numbered.numbered n q at).0 ∙ ap (λ (x : Record K V). x.number) (same_Some q r (sym same ∙ found));
    stays = λ generation waits. let tracked : IsTracked (IsWaiting s) r.number r (counted_of r.number s.access) = rw there at (h.consistent.sound r.number) in tracked.stays generation waits;
  }
    where
      there : get s.records r.number ≡ Some r
      there = record_at_its_number eq s key r h.numbered found

  -- what a run leaves of the records, of what waits and of the numbers
  record IsLeft (s t : State K V X P W) : Type 0 where
    keeps : Keeps s.records t.records
    fewer : (o : Operation) → IsWaitingIn t.outstanding t.writes o → IsWaitingIn s.outstanding s.writes o
    numbers : t.next_number ≡ s.next_number

  run_leaves : (s : State K V X P W) (ch : Freedom) → IsLeft s (after_run s ch)
  run_leaves s ch = record { keeps = run_keeps s ch; fewer = fewer; numbers = refl }
    where
      fewer : (o : Operation) → IsWaitingIn s.outstanding [] o → IsWaitingIn s.outstanding s.writes o
      fewer o (inl handed) = inl handed
      fewer o (inr queued) = (let below : queued.1.0 < 0 = queued.1.1 in absurd (omega arith))

  keeper_leaves : (says : P → K → V → Bool → Type 0) (read : X → K → V → ℕ → Option ℕ → ℕ → Option ℕ) (before after : List ℕ) (s : State K V X P W) (now : ℕ) (e : Events K V) (t : State K V X P W) → KeeperRun (ListedRun says read before after) s now e t → IsLeft s t
  keeper_leaves says read before after s now e t (answer, mid, (course, run, same, told), changed) =
      let itself : IsLeft s s = record { keeps = keeps_itself s.records; fewer = λ o waits. waits; numbers = refl } in
      let left = kept_by_run (IsLeft s) s mid itself _ says (keeper_terms s.settings now) course e.notices (λ ch on free. run_leaves s ch) run.0 in
      subst (IsLeft s) (sym changed) (record { keeps = left.keeps; fewer = left.fewer; numbers = left.numbers })

  module _ (s t : State K V X P W) (valid : IsValid eq s) (valid_after : IsValid eq t) (left : IsLeft s t) (key : K) (r : Record K V) (found : record_of_key eq s.records key ≡ Some r) where
    before : IsReadNumberIn s key r.number
    before = read-number-found s valid key r found

    asked : eq key r.key ≡ true
    asked = (record_of_key_found eq s.records key r found).2

    -- what is left of the key is left at the number
    only : (n : ℕ) (q : Record K V) → get t.records n ≡ Some q → eq key q.key ≡ true → n ≡ r.number
    only n q there same =
        let old = left.keeps n q there in
        let also : eq key old.0.key ≡ true = sym (ap (λ (x : Record K V). eq key x.key) old.2.1) ∙ same in
        before.alone n old.0 old.1 (present_key eq s.records key laws valid.numbered.numbered.one_each n old.0 old.1 also)

    own : (o : Option (Record K V)) → get t.records r.number ≡ o → o ≡ record_of_key eq t.records key
    own (Some q) there =
        let old = left.keeps r.number q there in
        let one : old.0 ≡ r = same_Some old.0 r (sym old.1 ∙ before.own ∙ found) in
        let same : eq key q.key ≡ true = ap (λ (x : Record K V). eq key x.key) old.2.1 ∙ ap (λ (x : Record K V). eq key x.key) one ∙ asked in
        sym (present_key eq t.records key laws valid_after.numbered.numbered.one_each r.number q there same)
    own None gone = elim (option-cases (record_of_key eq t.records key)) [
      | inl none ↦ sym none
      | inr some ↦ (let at = record_of_key_found eq t.records key some.0 some.1 in
          let here : get t.records r.number ≡ Some some.0 = ap (get t.records) (sym (only at.0 some.0 at.1 at.2)) ∙ at.1 in
          cc)
    ]

    -- the number of a record that was found, after the run
    read-number-left : IsReadNumberIn t key r.number
    read-number-left = record {
      given = subst (λ n. r.number < n) (sym left.numbers) before.given;
      own = own (get t.records r.number) refl;
      alone = λ n q there same. only n q there (let at = record_of_key_found eq t.records key q same in at.2);
      stays = λ generation waits. before.stays generation (left.fewer (Removal r.number generation) waits);
    }

  -- a run of the housekeeper leaves the number of a record that was found what it was
  pub known_after : {S L : Type 0} (says : P → K → V → Bool → Type 0) (read : X → K → V → ℕ → Option ℕ → ℕ → Option ℕ) (old : Engine K V S X L P W) {at mid : Engine K V S X L P W} → at ≡ mid → {l : Option L} → IsCache eq l at.state → IsValid eq old.state →
      (now : ℕ) (e : Events K V) → KeeperRun (ListedRun says read old.write_list mid.write_list) old.state now e mid.state → (key : K) (n : ℕ) → option_map (λ (r : Record K V). r.number) (record_of_key eq old.state.records key) ≡ Some n → IsReadNumberIn at.state key n
  known_after {S} {L} says read old {at} {mid} is h valid now e ran key n numbered =
      let found = number_found (record_of_key eq old.state.records key) n numbered in
      let left = subst (λ (c : Engine K V S X L P W). IsLeft old.state c.state) (sym is) (keeper_leaves says read old.write_list mid.write_list old.state now e mid.state ran) in
      subst (IsReadNumberIn at.state key) found.2 (read-number-left old.state at.state valid h.valid left key found.0 found.1)
