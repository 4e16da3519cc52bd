-- A cache whose inner part changed: its state, what always holds of it, and what nobody was told.
use Rattle.std.proofs.Common.{◌≡◌, refl, ℕ, ◌<◌, Bool, List, inl, inr, Option, Some, None, is_some, ap, sym, subst, ◌∙◌}
use Rattle.std.specs.Cmp.{IsEquivalence}
use Rattle.std.specs.FinMap.{get, insert, remove}
use Rattle.moka_parts.specs.declared.notification.RemovalCause.{RemovalCause}
use Rattle.moka_records.specs.declared.records.Record.{Record}
use Rattle.moka_parts.specs.Calls.{no_events}
use Rattle.moka_parts.specs.Notices.{Notice}
use Rattle.moka_records.specs.Records.{Records, record_of_key}
use Rattle.moka_parts.specs.Runs.{Engine, Befalls}
use Rattle.moka_parts.specs.Settling.{IsValid}
use Rattle.moka_parts.specs.State.{State, Settings}
use Rattle.moka_parts.specs.Surroundings.{Heard}
use Rattle.moka_records.proofs.Lookup.{present_key}
use Rattle.moka_store.specs.Store.{Kept}
use Rattle.moka_store.proofs.Gets.{after_insert, after_remove}
use Rattle.moka_engine.specs.BaseCache.{IsCache, IsStocked, IsEngine}
use Rattle.moka_lookups.specs.Expirations.{NoneExpires}
use Rattle.moka_engine.proofs.Stocked.{stocked-roomier}
use Rattle.moka_inner.specs.Interior.{Interior}
use Rattle.moka_laws.proofs.Quiet.{nothing_heard}

-- the state with this inner part
abbrev pub with_inner : {K V X P W S : Type 0} → State K V X P W → Interior K V S → State K V X P W
with_inner s i = record s { records = i.kept.records; outstanding = i.outstanding; writes = i.writes; reads = i.reads; access = i.kept.access; sketch = i.sketch; next_ticket = i.next_ticket; next_number = i.next_number }

-- the cache with this inner part
abbrev pub cache_with : {K V S X L P W : Type 0} → Engine K V S X L P W → Interior K V S → Engine K V S X L P W
cache_with c i = record c { hasher = i.kept.hasher; state = with_inner c.state i; write_list = i.kept.written; room = i.kept.room }

-- what of a store the cache shows beside its state and the room
abbrev pub order_and_hasher : {K V S : Type 0} → Kept K V S → List ℕ × S
order_and_hasher kept = (kept.written, kept.hasher)

-- the inner part with no room
abbrev pub without_room : {K V S : Type 0} → Interior K V S → Interior K V S
without_room i = record i { kept = record i.kept { room = 0 }; operation_room = 0 }

-- room is nothing that the state has
pub inside-roomier : {K V X P W S : Type 0} (s : State K V X P W) (i j : Interior K V S) → with_inner s i ≡ s → without_room j ≡ without_room i → with_inner s j ≡ s
inside-roomier s i j inside same = ap (with_inner s) same ∙ inside

-- ---- the listener

module _ {K V L : Type 0} (tells : L → K → V → RemovalCause → L → Type 0) where
  -- a listener stays set
  pub still_set : (l m : Option L) (ns : List (Notice K V)) → Heard tells l ns m → is_some m ≡ is_some l
  still_set None None ns h = refl
  still_set (Some l) (Some m) ns h = refl
  still_set None (Some m) ns h = absurd h
  still_set (Some l) None ns h = absurd h

module _ {K V S X L P W : Type 0} (c : Engine K V S X L P W) (i j : Interior K V S) (held : cache_with c i ≡ c) (same : order_and_hasher j.kept ≡ order_and_hasher i.kept) where
  -- a change of the inner part that keeps both changes state and room alone
  pub cache_changed : cache_with c j ≡ record c { state = with_inner c.state j; room = j.kept.room }
  cache_changed =
      ap (λ (p : List ℕ × S). record (cache_with c j) { write_list = p.0; hasher = p.1 }) same
      ∙ ap (λ (x : Engine K V S X L P W). record (cache_with c j) { write_list = x.write_list; hasher = x.hasher }) held

  -- and nobody is told
  pub befalls-inside : (tells : L → K → V → RemovalCause → L → Type 0) → Befalls tells no_events c (cache_with c j)
  befalls-inside tells = subst (Befalls tells no_events c) (sym cache_changed) (record { kept = refl; heard = nothing_heard tells c.listener; passes = refl; listed = λ none. refl })

-- room is nothing that the timers have
pub stocked-room : {K V X W S : Type 0} {read : X → K → V → ℕ → Option ℕ → ℕ → Option ℕ} {settings : Settings X W} (i j : Interior K V S) → without_room j ≡ without_room i → IsStocked read settings i.kept → IsStocked read settings j.kept
stocked-room {read = read} {settings = settings} i j same h =
    stocked-roomier (subst (λ (x : Interior _ _ _). IsStocked read settings x.kept) (sym same) (stocked-roomier h 0)) j.kept.room

-- ---- expiries

module _ {K V : Type 0} (records : Records K V) (none : NoneExpires records) where
  -- a record without an expiry is put in
  pub unexpiring-inserted : (n : ℕ) (r : Record K V) → r.expires ≡ None → NoneExpires (insert records n r)
  unexpiring-inserted n r lasts k q there = elim (after_insert records n r k q there) [
    | inl new ↦ ap (λ (x : Record K V). x.expires) new.1 ∙ lasts
    | inr old ↦ none k q old.1
  ]

  -- a record is taken out
  pub unexpiring-removed : (n : ℕ) → NoneExpires (remove records n)
  unexpiring-removed n k q there = none k q (after_remove records n k q there).1

-- ---- what always holds

module _ {K V X L P W : Type 0} {eq : K → K → Bool} {l : Option L} {s : State K V X P W} (h : IsCache eq l s) where
  -- another inner part that makes another state, whose records do not expire either without an expiry, and whoever
  -- listens
  pub cache-inner : {S : Type 0} → (m : Option L) → is_some m ≡ is_some l → (j : Interior K V S) {t : State K V X P W} → with_inner s j ≡ t → IsValid eq t → (s.settings.expiry ≡ None → NoneExpires t.records) → IsCache eq m (with_inner s j)
  cache-inner m same j is valid none = record {
    valid = subst (IsValid eq) (sym is) valid;
    served = record {
      unsupported = h.served.unsupported;
      unexpiring = λ unset. subst (λ (t : State K V X P W). NoneExpires t.records) (sym is) (none unset);
    };
    listens = h.listens ∙ sym same;
  }

  module _ {S : Type 0} (i : Interior K V S) (inside : with_inner s i ≡ s) where
    -- what stands at a number inside stands there
    pub there-inside : (n : ℕ) (r : Record K V) → get i.kept.records n ≡ Some r → get s.records n ≡ Some r
    there-inside n r there = ap (λ (t : State K V X P W). get t.records n) (sym inside) ∙ there

    -- each record stands at its own number, which was given out
    pub number-inside : (n : ℕ) (r : Record K V) → get i.kept.records n ≡ Some r → (r.number ≡ n) × (n < s.next_number)
    number-inside n r there = h.valid.numbered.numbered.numbered n r (there-inside n r there)

    -- the record of a key
    pub key-inside : (key : K) (o : Option (Record K V)) → record_of_key eq i.kept.records key ≡ o → record_of_key eq s.records key ≡ o
    key-inside key o found = ap (λ (t : State K V X P W). record_of_key eq t.records key) (sym inside) ∙ found

    -- each record is its own key's
    pub own-inside : IsEquivalence eq → (n : ℕ) (r : Record K V) → get i.kept.records n ≡ Some r → record_of_key eq s.records r.key ≡ Some r
    own-inside laws n r there = present_key eq s.records r.key laws h.valid.numbered.numbered.one_each n r (there-inside n r there) (laws.refl r.key)

-- once there is more room
pub whole-roomier : {K V X L P W S : Type 0} {eq : K → K → Bool} {read : X → K → V → ℕ → Option ℕ → ℕ → Option ℕ} {l : Option L} {s : State K V X P W} (i j : Interior K V S) → IsEngine eq read l i.kept s → with_inner s i ≡ s → without_room j ≡ without_room i → IsEngine eq read l j.kept (with_inner s j)
whole-roomier {eq = eq} {l = l} {s = s} i j h inside rooms = record {
  cache = subst (IsCache eq l) (sym (inside-roomier s i j inside rooms)) h.cache;
  store = stocked-room i j rooms h.store;
}
