-- A key that was removed has no record, also after the ticket of its removal was posted.
use Rattle.std.proofs.Common.{◌≡◌, refl, ℕ, Bool, true, true≢false, Option, Some, None, option_map, ap, sym, subst, ◌∙◌, inl, inr}
use Rattle.std.specs.Cmp.{IsEquivalence}
use Rattle.std.specs.FinMap.{get, remove}
use Rattle.moka_types.specs.declared.calls.KvEntry.{KvEntry}
use Rattle.moka_types.specs.declared.calls.Ticket.{Ticket}
use Rattle.moka_records.specs.declared.records.Record.{Record}
use Rattle.moka_parts.specs.Calls.{RemovesAt}
use Rattle.moka_records.specs.Records.{Records, record_of_key}
use Rattle.moka_parts.specs.Settling.{IsValid}
use Rattle.moka_parts.specs.State.{State}
use Rattle.moka_records.proofs.Lookup.{record_of_key_found, absent_key, present_key}
use Rattle.moka_records.proofs.Maps.{same_or_apart, get_removed, get_past_remove}
use Rattle.moka_laws.proofs.RunKeeps.{Keeps}
use Rattle.moka_cache.specs.Saves.{KeepsRecords}

module _ {K V : Type 0} (eq : K → K → Bool) (key : K) where
  -- no record has the key
  abbrev HasNone : Records K V → Type 0
  HasNone records = (n : ℕ) (r : Record K V) → get records n ≡ Some r → eq key r.key ≡ true → ⊥

  none_found : (records : Records K V) → HasNone records → record_of_key eq records key ≡ None
  none_found records none = go (record_of_key eq records key) refl
    where
      go : (o : Option (Record K V)) → record_of_key eq records key ≡ o → o ≡ None
      go None e = refl
      go (Some r) e = let at = record_of_key_found eq records key r e in absurd (none at.0 r at.1 at.2)

  kept_none : (old new : Records K V) → Keeps old new → HasNone old → HasNone new
  kept_none old new keeps none n q there same =
      let was = keeps n q there in
      none n was.0 was.1 (sym (ap (λ (x : Record K V). eq key x.key) was.2.1) ∙ same)

module _ {K V X P W : Type 0} (eq : K → K → Bool) (key : K) where
  none_alike : (s t : State K V X P W) → t ≡ s → HasNone eq key s.records → HasNone eq key t.records
  none_alike s t same none = subst (λ (x : State K V X P W). HasNone eq key x.records) (sym same) none

  removed_none : (s t : State K V X P W) (a : Option (KvEntry K V × Ticket)) → IsEquivalence eq → IsValid eq s → RemovesAt s (record_of_key eq s.records key) a t → HasNone eq key t.records
  removed_none s t a laws valid step = go (record_of_key eq s.records key) refl step
    where
      without : (r : Record K V) → record_of_key eq s.records key ≡ Some r → HasNone eq key (remove s.records r.number)
      without r found n q there same = elim (same_or_apart n r.number) [
        | inl at ↦ let no : None ≡ Some q = sym (get_removed s.records r.number) ∙ sym (ap (get (remove s.records r.number)) at) ∙ there in absurd (cc)
        | inr apart ↦
            let here : get s.records n ≡ Some q = sym (get_past_remove s.records r.number n apart) ∙ there in
            let both : Some r ≡ Some q = sym found ∙ present_key eq s.records key laws valid.numbered.numbered.one_each n q here same in
            let one : r ≡ q = cc in
            let at : n ≡ r.number = sym ((valid.numbered.numbered.numbered n q here).0) ∙ ap (λ (x : Record K V). x.number) (sym one) in
            let no : None ≡ Some q = sym (get_removed s.records r.number) ∙ sym (ap (get (remove s.records r.number)) at) ∙ there in
            absurd (cc)
      ]

      go : (o : Option (Record K V)) → record_of_key eq s.records key ≡ o → RemovesAt s o a t → HasNone eq key t.records
      go None found h = none_alike s t h.1 (λ n r there same. true≢false (sym same ∙ absent_key eq s.records key found n r there))
      go (Some r) found h = subst (λ (x : State K V X P W). HasNone eq key x.records) (sym h.1) (without r found)

  -- after a removal, and after what keeps the records that it left, the key has no record
  pub has_left : (s t u v : State K V X P W) (a : Option (KvEntry K V × Ticket)) → IsEquivalence eq → IsValid eq s → RemovesAt s (record_of_key eq s.records key) a t → u ≡ t → KeepsRecords u v → record_of_key eq v.records key ≡ None
  has_left s t u v a laws valid step same keeps = none_found eq key v.records (kept_none eq key u.records v.records keeps (none_alike t u same (removed_none s t a laws valid step)))

  -- what is taken out is the key's value
  pub value_taken : (s t : State K V X P W) (a : Option (KvEntry K V × Ticket)) → RemovesAt s (record_of_key eq s.records key) a t → option_map (λ x. x.0.value) a ≡ option_map (λ r. r.value) (record_of_key eq s.records key)
  value_taken s t a step = go (record_of_key eq s.records key) step
    where
      go : (o : Option (Record K V)) → RemovesAt s o a t → option_map (λ x. x.0.value) a ≡ option_map (λ r. r.value) o
      go None h = ap (option_map (λ x. x.0.value)) h.0
      go (Some r) h = ap (option_map (λ x. x.0.value)) h.0
