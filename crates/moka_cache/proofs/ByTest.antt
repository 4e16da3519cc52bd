-- What calls with a test of the key make is what the same calls make of a key that passes.
use Rattle.std.proofs.Common.{◌≡◌, ℕ, Bool, true, false, List, Option, Some, None, find, Result, Ok, ap, subst, sym, ◌∙◌, MatchBool, refl}
use Rattle.std.proofs.lemmas.Option.{same_Some}
use Rattle.moka_records.specs.declared.records.Record.{Record}
use Rattle.moka_types.specs.declared.calls.Ticket.{Ticket}
use Rattle.moka_types.specs.declared.calls.Entry.{Entry}
use Rattle.moka_types.specs.declared.calls.KvEntry.{KvEntry}
use Rattle.moka_types.specs.declared.error.OutOfMemory.{OutOfMemory}
use Rattle.moka_parts.specs.Calls.{Unchanged, entry_of, GetStep, GetsAt, ContainsStep, RemoveStep, RemovesAt}
use Rattle.moka_parts.specs.KeyTests.{ContainsByStep, GetByStep, RemoveByStep}
use Rattle.moka_records.specs.KeyTests.{record_by}
use Rattle.moka_parts.specs.Maintenance.{Terms, Course}
use Rattle.moka_parts.specs.Notices.{Notice}
use Rattle.moka_records.specs.Records.{record_of_key}
use Rattle.moka_parts.specs.Settling.{IsWellNumbered}
use Rattle.moka_parts.specs.State.{State, Events, is_disabled}
use Rattle.moka_parts.specs.Visibility.{IsShown}
use Rattle.moka_cache.specs.Keyed.{CanNotify}
use Rattle.moka_records.proofs.Tested.{record_by_found, record_by_key}
use Rattle.moka_records.proofs.Values.{values-empty}

module _ {K V : Type 0} (eq : K → K → Bool) (passes : K → Bool) (one_key : (x y : K) → passes x ≡ true → passes y ≡ eq x y) where
  module _ {X P W : Type 0} (s : State K V X P W) where
    -- whether a key is contained
    pub contained_as_key : (says : P → K → V → Bool → Type 0) (now : ℕ) (shown : Bool) → ContainsByStep says passes s now shown → (key : K) → passes key ≡ true → ContainsStep says eq s key now shown
    contained_as_key says now shown step key passing = subst (λ o. IsShown says s o now shown) (record_by_key eq passes one_key s.records key passing) step

    -- a removal
    pub removed_as_key : (a : Option (KvEntry K V × Ticket)) (t : State K V X P W) → RemoveByStep passes s a t → (key : K) → passes key ≡ true → RemoveStep eq s key a t
    removed_as_key a t step key passing = subst (λ o. RemovesAt s o a t) (record_by_key eq passes one_key s.records key passing) step

    -- one that finds no key changes nothing
    pub removed_none : (a : Option (KvEntry K V × Ticket)) (t : State K V X P W) → RemoveByStep passes s a t → record_by passes s.records ≡ None → (a ≡ None) × (t ≡ s)
    removed_none a t step none = subst (λ o. RemovesAt s o a t) none step

    pub removed_from_none : (x : KvEntry K V × Ticket) (t : State K V X P W) → RemoveByStep passes s (Some x) t → record_by passes s.records ≡ None → ⊥
    removed_from_none x t step none = (let impossible : Some x ≡ None = (removed_none (Some x) t step none).0 in absurd (cc))

    -- one that took something out is one of a key
    pub removed_some_key : (x : KvEntry K V × Ticket) (t : State K V X P W) → RemoveByStep passes s (Some x) t → (key : K) × RemoveStep eq s key (Some x) t
    removed_some_key x t step = go (record_by passes s.records) refl step
      where
        go : (o : Option (Record K V)) → record_by passes s.records ≡ o → RemovesAt s o (Some x) t → (key : K) × RemoveStep eq s key (Some x) t
        go None at h = (let impossible : Some x ≡ None = h.0 in absurd (cc))
        go (Some r) at h = (r.key, removed_as_key (Some x) t step r.key (record_by_found eq passes one_key s.records r at).2)

    -- what can be said of the record to a listener can be said of what was taken out
    pub notifies_of_taken : (is_key_infallible : K → Type 0) (is_infallible : V → Type 0) (x : KvEntry K V × Ticket) (t : State K V X P W) → RemoveByStep passes s (Some x) t
        → CanNotify is_key_infallible is_infallible s.settings.listening (record_by passes s.records) → t.settings.listening ≡ true → is_key_infallible x.0.key × is_infallible x.0.value
    notifies_of_taken is_key_infallible is_infallible x t step granted listening = go (record_by passes s.records) refl step
      where
        go : (o : Option (Record K V)) → record_by passes s.records ≡ o → RemovesAt s o (Some x) t → is_key_infallible x.0.key × is_infallible x.0.value
        go None at h = (let impossible : Some x ≡ None = h.0 in absurd (cc))
        go (Some r) at h =
            let same : x.0 ≡ entry_of r = ap (λ y. y.0) (same_Some _ _ h.0) in
            let can = granted (sym (ap (λ (u : State K V X P W). u.settings.listening) h.1) ∙ listening) r at in
            (subst (λ (e : KvEntry K V). is_key_infallible e.key) (sym same) can.0, subst (λ (e : KvEntry K V). is_infallible e.value) (sym same) can.1)

    module _ (says : P → K → V → Bool → Type 0) (read : X → K → V → ℕ → Option ℕ → ℕ → Option ℕ) (Runs : State K V X P W → Terms → Course → List (Notice K V) → State K V X P W → Type 0) (hash now : ℕ) (a : Result (Option (Entry K V)) OutOfMemory) (e : Events K V) (t : State K V X P W)
        (step : GetByStep says passes s read Runs hash false now a e t) (key : K) where
      -- a get that finds what one of the key finds
      got_alike : record_by passes s.records ≡ record_of_key eq s.records key → GetStep says read Runs eq s key hash false false now a e t
      got_alike same = subst (λ (o : Option (Record K V)). MatchBool (is_disabled s.capacity) ((a ≡ Ok None) × Unchanged s e t) (GetsAt says read Runs s o hash false false now a e t)) same step

      -- a get
      pub got_as_key : passes key ≡ true → GetStep says read Runs eq s key hash false false now a e t
      got_as_key passing = got_alike (record_by_key eq passes one_key s.records key passing)

      -- one that finds no key
      pub got_none : record_by passes s.records ≡ None → record_of_key eq s.records key ≡ None → GetStep says read Runs eq s key hash false false now a e t
      got_none none_passes none_equal = got_alike (none_passes ∙ sym none_equal)

-- a disabled map has no record that passes
pub none_passes : {K V X P W : Type 0} (eq : K → K → Bool) (passes : K → Bool) (s : State K V X P W) → IsWellNumbered eq s → is_disabled s.capacity ≡ true → record_by passes s.records ≡ None
none_passes {K} {V} eq passes s well off = ap (record_by passes) (well.disabled off).no_records ∙ ap (find (λ (r : Record K V). passes r.key)) values-empty
