-- What is put back is there when its ticket was posted, and nothing else comes with it.
use Rattle.std.proofs.Common.{◌≡◌, refl, ℕ, Bool, List, [], ◌∷◌, ◌++◌, Some, Ok, ap, sym, subst, ◌∙◌, ◌⊎◌, inl, inr, arith}
use Rattle.std.specs.Cmp.{IsEquivalence}
use Rattle.std.specs.FinMap.{get, insert}
use Rattle.std.proofs.lemmas.List.Elements.{Contains-append_left, Contains-append_right, Contains-push}
use Rattle.moka_types.specs.declared.calls.Ticket.{Ticket}
use Rattle.moka_records.specs.declared.instant.Instant.{Instant}
use Rattle.moka_records.specs.declared.records.Record.{Record}
use Rattle.moka_records.specs.Records.{Records}
use Rattle.moka_parts.specs.Settling.{IsValid}
use Rattle.moka_parts.specs.Runs.{Engine}
use Rattle.moka_parts.specs.State.{State, Meaning}
use Rattle.moka_records.proofs.Lookup.{present_key}
use Rattle.moka_records.proofs.Maps.{same_or_apart, get_inserted, get_past_insert}
use Rattle.moka_engine.specs.parts.Restored.{Restored}
use Rattle.moka_engine.specs.Restores.{RestoreStep, restored, restored_record}
use Rattle.moka_cache.specs.Saves.{AddsOnly, IsOfItem, IsRestored, KeepsRecords, PutsBack, PutsAllBack}
use Rattle.moka_cache.specs.Unsent.{IsHeld, AreOlder, HoldsUnsent}
use Rattle.moka_cache.proofs.Put.{next_is_newest}

-- what stands in the records after an insertion was inserted, or stood there before
after_insert : {K V : Type 0} (records : Records K V) (n : ℕ) (r : Record K V) (k : ℕ) (q : Record K V) → get (insert records n r) k ≡ Some q → (q ≡ r) ⊎ (get records k ≡ Some q)
after_insert records n r k q there = elim (same_or_apart k n) [
  | inl same ↦ (let both : Some r ≡ Some q = sym (get_inserted records n r) ∙ sym (ap (get (insert records n r)) same) ∙ there in inl (cc))
  | inr apart ↦ inr (sym (get_past_insert records n r k apart) ∙ there)
]

-- the applied generation of a record does not matter
pub of_applied : {K V : Type 0} (item : Restored K V) (r : Record K V) (g : ℕ) → IsOfItem item r → IsOfItem item (record r { applied = g })
of_applied item r g of = record { key_is = of.key_is; value_is = of.value_is; written_is = of.written_is; read_is = of.read_is; expires_is = of.expires_is }

module _ {K V X P W : Type 0} (eq : K → K → Bool) (laws : IsEquivalence eq) (weighs : W → K → V → ℕ → Type 0) (s t : State K V X P W) (item : Restored K V) (hash : ℕ) (ticket : Ticket) (step : RestoreStep weighs eq s item hash (Ok ticket) t) where
  -- the record that was put back
  abbrev record_of : Record K V
  record_of = restored_record s item hash step.0

  of_record : IsOfItem item record_of
  of_record = record { key_is = refl; value_is = refl; written_is = refl; read_is = refl; expires_is = refl }

  held : IsHeld s.next_number record_of t.records
  held = subst (λ (u : State K V X P W). IsHeld s.next_number record_of u.records) (sym step.6) (record { applied = 0; there = get_inserted s.records s.next_number record_of; below = omega arith })

  older : IsValid eq s → AreOlder s.next_number record_of t.writes
  older valid = subst (λ (u : State K V X P W). AreOlder s.next_number record_of u.writes) (sym step.6) (next_is_newest eq s valid record_of)

  -- it is there afterwards
  pub restored_there : (u : State K V X P W) → IsValid eq s → IsValid eq u → HoldsUnsent t u → IsRestored eq u item
  restored_there u valid valid_after holds =
      let after = holds s.next_number record_of (older valid) held in
      record {
        kept = record record_of { applied = after.applied };
        found = present_key eq u.records item.key laws valid_after.numbered.numbered.one_each s.next_number (record record_of { applied = after.applied }) after.there (laws.refl item.key);
        of_item = of_applied item record_of after.applied of_record;
      }

  -- and nothing else came
  pub restored_adds : (u : State K V X P W) → KeepsRecords t u → AddsOnly (item ∷ []) s u
  restored_adds u keeps n q there =
      let before = keeps n q there in
      let mid : get (restored s item hash step.0).records n ≡ Some before.0 = ap (λ (v : State K V X P W). get v.records n) (sym step.6) ∙ before.1 in
      elim (after_insert s.records s.next_number record_of n before.0 mid) [
        | inl new ↦ inr (item, Contains-push [] item, subst (IsOfItem item) (sym (before.2.1 ∙ ap (λ (x : Record K V). record x { applied = before.2.0 }) new)) (of_applied item record_of before.2.0 of_record))
        | inr old ↦ inl (before.0, old, before.2)
      ]

module _ {K V X P W : Type 0} where
  -- where nothing was put back nothing came
  pub adds_nothing : (items : List (Restored K V)) (s t : State K V X P W) → t ≡ s → AddsOnly items s t
  adds_nothing items s t same = subst (AddsOnly items s) (sym same) (λ n q there. inl (q, there, (q.applied, refl)))

  -- one after the other
  pub adds_then : (first second : List (Restored K V)) (s t u : State K V X P W) → AddsOnly first s t → AddsOnly second t u → AddsOnly (first ++ second) s u
  adds_then first second s t u before after n q there = elim (after n q there) [
    | inl (r, at, (g, is)) ↦ elim (before n r at) [
      | inl (o, old, (k, same)) ↦ inl (o, old, (g, is ∙ ap (λ (x : Record K V). record x { applied = g }) same))
      | inr (item, is_in, of) ↦ inr (item, Contains-append_left first second item is_in, subst (IsOfItem item) (sym is) (of_applied item r g of))
    ]
    | inr (item, is_in, of) ↦ inr (item, Contains-append_right first second item is_in, of)
  ]

module _ {K V S X L P W C : Type 0} (m : Meaning K V X L P W C (Unit {0})) (hash_of : S → K → ℕ) (now : Instant) where
  -- one more is put back
  pub put_next : (done : List (Restored K V)) (item : Restored K V) (old mid new : Engine K V S X L P W) (c1 c2 c3 : C) → PutsAllBack m hash_of now done old c1 mid c2 → PutsBack m hash_of now item (Ok tt) mid c2 new c3 → PutsAllBack m hash_of now (done ++ item ∷ []) old c1 new c3
  put_next [] item old mid new c1 c2 c3 (same, still) put = (
    new,
    c3,
    subst (λ (c : Engine K V S X L P W). PutsBack m hash_of now item (Ok tt) c c1 new c3) same (subst (λ (c : C). PutsBack m hash_of now item (Ok tt) mid c new c3) still put),
    (refl, refl),
  )
  put_next (x ∷ xs) item old mid new c1 c2 c3 (after, between, first, rest) put = (after, between, first, put_next xs item after mid new between c2 c3 rest put)
