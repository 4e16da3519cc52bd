-- A removal takes the record of its key.
use Rattle.std.proofs.Common.{◌≡◌, refl, ℕ, Bool, false, Option, Some, None, option_map, ap, sym, ◌∙◌, true≢false, inl, inr}
use Rattle.std.specs.FinMap.{get}
use Rattle.moka_records.proofs.Maps.{same_or_apart, get_past_remove}
use Rattle.moka_records.proofs.Lookup.{record_of_key_found}
use Rattle.moka_parts.proofs.Types.{Record, State}
use Rattle.moka_records.specs.Records.{record_of_key}
use Rattle.moka_parts.specs.Calls.{RemovesAt, entry_of}
use Rattle.moka_parts.specs.Laws.{RemovesJustOne}
use Rattle.std.proofs.lemmas.Option.{same_Some}

module _ {K V X P W : Type 0} (eq : K → K → Bool) (s : State K V X P W) where
  -- a removal takes the record of one key
  pub removes_just_one : RemovesJustOne eq s
  removes_just_one key a t well step = go (record_of_key eq s.records key) refl step
    where
      go : (o : Option (Record K V)) → record_of_key eq s.records key ≡ o → RemovesAt s o a t →
          (option_map (λ x. x.0) a ≡ option_map entry_of o) × ((n : ℕ) (r : Record K V) → get s.records n ≡ Some r → eq key r.key ≡ false → get t.records n ≡ Some r)
      go None found (none, same) = (ap (option_map (λ x. x.0)) none, λ n r there other. rw same there)
      go (Some q) found (some, same) = (
        ap (option_map (λ x. x.0)) some,
        λ n r there other. elim (same_or_apart n q.number) [
          | inl at_its ↦
              let at = record_of_key_found eq s.records key q found in
              let both : r ≡ q = same_Some r q (sym there ∙ ap (get s.records) (at_its ∙ (well.numbered.numbered at.0 q at.1).0) ∙ at.1) in
              absurd (true≢false (sym at.2 ∙ ap (λ (x : Record K V). eq key x.key) (sym both) ∙ other))
          | inr apart ↦ rw same (get_past_remove s.records q.number n apart ∙ there)
        ],
      )
