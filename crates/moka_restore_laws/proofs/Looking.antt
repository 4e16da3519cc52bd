-- What a look-up answers and leaves in one cache, where nothing but time takes a record out.
use Rattle.std.proofs.Common.{◌≡◌, refl, ℕ, ◌≤◌, Bool, true, false, List, [], length, Option, Some, None, Result, Ok, ap, sym, subst, ◌∙◌, ◌⊎◌, inl, inr, MatchBool, true≢false, arith, if◌then◌else◌}
use Rattle.std.specs.FinMap.{get, insert, values}
use Rattle.std.proofs.lemmas.List.Sums.{sum_by-cons}
use Rattle.std.proofs.lemmas.List.Sorted.{sum_by-IsPermutation}
use Rattle.std.proofs.lemmas.Option.{same_Some}
use Rattle.moka_types.specs.declared.calls.Entry.{Entry}
use Rattle.moka_types.specs.declared.error.OutOfMemory.{OutOfMemory}
use Rattle.moka_records.specs.declared.records.Operation.TheVariants.{Upsert}
use Rattle.moka_records.specs.declared.records.ReadOperation.{ReadOperation}
use Rattle.moka_records.specs.declared.records.ReadOperation.TheVariants.{Miss}
use Rattle.moka_records.specs.declared.records.Record.{Record}
use Rattle.moka_parts.specs.Calls.{ContainsStep, GetsAt, GetStep, RecordsRead, RunsIfDue, ScansAt, ScanStep, Unchanged, after_hit, hit_at, hit_operation, hit_record, queueing}
use Rattle.moka_parts.specs.Exact.{weight_of_records}
use Rattle.moka_parts.specs.Listed.{ListedRun}
use Rattle.moka_records.specs.Records.{counted_of, record_of_key}
use Rattle.moka_parts.specs.Settling.{IsValid, IsWaiting}
use Rattle.moka_parts.specs.State.{State, Settings, Events, is_disabled}
use Rattle.moka_parts.specs.Visibility.{IsHidden, IsShown, IsVisible, SomeCovers}
use Rattle.moka_records.proofs.Maps.{found_inserted, get_inserted, get_past_insert, same_or_apart}
use Rattle.moka_records.proofs.Values.{values_replaced}
use Rattle.moka_laws.proofs.CallsKeep.{record_at_its_number}
use Rattle.moka_laws.proofs.Kept.{kept_by_due}
use Rattle.moka_cache.specs.Saves.{AreAsWeighed, HasRoomFor, IsRoomyFor, KeepsRecords, KeepsUnexpired}
use Rattle.moka_cache.proofs.Keeping.{due_keeps}
use Rattle.moka_cache.proofs.Lasting.{keeps_itself, keeps_to, listed_run_lasts}
use Rattle.moka_restore_laws.proofs.Twins.{IsFresh, IsTimely, hit_now}

module _ {K V X P W : Type 0} (weighs : W → K → V → ℕ → Type 0) (says : P → K → V → Bool → Type 0) where
  -- nothing but time takes a record out, and no read is later than the moment
  pub record IsSteady (now : ℕ) (s : State K V X P W) : Type 0 where
    pub roomy : IsRoomyFor weighs [] s
    pub timely : IsTimely now s

  -- ---- what is visible has not expired

  fresh_of : (s : State K V X P W) (r : Record K V) (now : ℕ) → IsRoomyFor weighs [] s → IsVisible says s r now → IsFresh s r now
  fresh_of s r now roomy visible = rw roomy.bound at visible.0

  hidden_of : (s : State K V X P W) (r : Record K V) (now : ℕ) → IsRoomyFor weighs [] s → IsHidden says s r now → IsFresh s r now → ⊥
  hidden_of s r now roomy (inl lapsed) fresh = true≢false (sym (rw roomy.bound at lapsed) ∙ fresh)
  hidden_of s r now roomy (inr covered) fresh = (let none : SomeCovers says [] r = subst (λ ps. SomeCovers says ps r) roomy.predicates covered in absurd none)

  enabled_of : (s : State K V X P W) → IsRoomyFor weighs [] s → is_disabled s.capacity ≡ false
  enabled_of s roomy = go s.capacity roomy.room
    where
      go : (o : Option ℕ) → HasRoomFor weighs o [] s → is_disabled o ≡ false
      go None room = refl
      go (Some capacity) room = room.0

  -- ---- what changes nothing but the applied generation, and takes out what has expired

  pub record IsQuiet (now : ℕ) (s t : State K V X P W) : Type 0 where
    pub settings : t.settings ≡ s.settings
    pub there : (n : ℕ) (r : Record K V) → get s.records n ≡ Some r → IsFresh s r now → (g : ℕ) × (get t.records n ≡ Some (record r { applied = g }))
    pub keeps : KeepsRecords s t
    pub roomy : IsRoomyFor weighs [] t

  pub quiet_steady : (now : ℕ) (s t : State K V X P W) → IsTimely now s → IsQuiet now s t → IsSteady now t
  quiet_steady now s t timely quiet = record { roomy = quiet.roomy; timely = go timely }
    where
      go : IsTimely now s → IsTimely now t
      go (inl none) = inl (ap (λ (x : Settings X W). x.expiry) quiet.settings ∙ none)
      go (inr early) = inr (λ n q there. let was = quiet.keeps n q there in let before = early n was.0 was.1 in rw was.2.1 before)

  module _ (read : X → K → V → ℕ → Option ℕ → ℕ → Option ℕ) (before after : List ℕ) (now : ℕ) where
    -- a run if one is due
    due_lasts : (s : State K V X P W) (queued : ℕ) (e : Events K V) (t : State K V X P W) → IsRoomyFor weighs [] s → RunsIfDue (ListedRun says read before after) s queued now e t → KeepsUnexpired now s t × IsRoomyFor weighs [] t
    due_lasts s queued e t roomy step =
        kept_by_due (λ u. KeepsUnexpired now s u × IsRoomyFor weighs [] u) s t (keeps_itself weighs [] now s [] roomy) (ListedRun says read before after) queued now e
        (λ course mid housekeeping run.
        keeps_to weighs [] now s mid (record mid { housekeeping = housekeeping }) (record { records = refl; access = refl; settings = refl; capacity = refl; bound = refl; predicates = refl; waits = λ o is. is })
        (listed_run_lasts weighs says read before after s _ course e.notices mid run) [] roomy) step

    -- a read that is recorded
    recorded : (s : State K V X P W) (r : ReadOperation) (e : Events K V) (t : State K V X P W) → IsRoomyFor weighs [] s → RecordsRead (ListedRun says read before after) s now r e t → IsQuiet now s t
    recorded s r e t roomy (mid, due, queued) =
        let (kept, roomy_then) = due_lasts s (length s.reads) e mid roomy due in
        subst (IsQuiet now s) (sym queued) (record {
          settings = kept.settings;
          there = λ n q there fresh. kept.there n q there (rw roomy.bound fresh);
          keeps = due_keeps says read before after s (length s.reads) now e mid due;
          roomy = record { room = go mid.capacity roomy_then.room; bound = roomy_then.bound; predicates = roomy_then.predicates };
        })
      where
        go : (o : Option ℕ) → HasRoomFor weighs o [] mid → HasRoomFor weighs o [] (queueing mid r)
        go None room = tt
        go (Some capacity) (enabled, weighed, room) = (enabled, record { once = weighed.once; counted = weighed.counted; waiting = weighed.waiting }, room)

  -- ---- a hit

  module _ (eq : K → K → Bool) (read : X → K → V → ℕ → Option ℕ → ℕ → Option ℕ) (s : State K V X P W) (valid : IsValid eq s) (key : K) (now : ℕ) (r : Record K V) (found : record_of_key eq s.records key ≡ Some r) where
    its_place : get s.records r.number ≡ Some r
    its_place = record_at_its_number eq s key r valid.numbered found

    hit_weight : weight_of_records (insert s.records r.number (hit_record read s r now)) ≡ weight_of_records s.records
    hit_weight =
        let both = sum_by-IsPermutation (λ (x : Record K V). x.weight) _ _ (values_replaced s.records r.number r (hit_record read s r now) its_place) in
        let first = sum_by-cons (λ (x : Record K V). x.weight) r (values (insert s.records r.number (hit_record read s r now))) in
        let second = sum_by-cons (λ (x : Record K V). x.weight) (hit_record read s r now) (values s.records) in
        omega (arith, both, first, second)

    hit_weighed : AreAsWeighed s → AreAsWeighed (after_hit read s r now)
    hit_weighed weighed = record { once = weighed.once; counted = counted; waiting = waiting }
      where
        counted : (n w : ℕ) → counted_of n s.access ≡ Some w → (q : Record K V) × (get (insert s.records r.number (hit_record read s r now)) n ≡ Some q) × (q.weight ≡ w)
        counted n w is = let at = weighed.counted n w is in elim (same_or_apart n r.number) [
          | inl same ↦
              let one : r ≡ at.0 = same_Some r at.0 (sym its_place ∙ sym (ap (get s.records) same) ∙ at.1) in
              (hit_record read s r now, ap (get (insert s.records r.number (hit_record read s r now))) same ∙ get_inserted s.records r.number (hit_record read s r now), ap (λ (x : Record K V). x.weight) one ∙ at.2)
          | inr apart ↦ (at.0, get_past_insert s.records r.number (hit_record read s r now) n apart ∙ at.1, at.2)
        ]

        waiting : (n g w hash : ℕ) → IsWaiting s (Upsert n g w hash) → (q : Record K V) → get (insert s.records r.number (hit_record read s r now)) n ≡ Some q → q.weight ≡ w
        waiting n g w hash waits q there = elim (found_inserted s.records r.number (hit_record read s r now) n q there) [
          | inl (same, one) ↦ sym (ap (λ (x : Record K V). x.weight) one) ∙ weighed.waiting n g w hash waits r (ap (get s.records) same ∙ its_place)
          | inr (apart, old) ↦ weighed.waiting n g w hash waits q old
        ]

    hit_roomy : IsRoomyFor weighs [] s → IsRoomyFor weighs [] (after_hit read s r now)
    hit_roomy roomy = record { room = go s.capacity roomy.room; bound = roomy.bound; predicates = roomy.predicates }
      where
        go : (o : Option ℕ) → HasRoomFor weighs o [] s → HasRoomFor weighs o [] (after_hit read s r now)
        go None room = tt
        go (Some capacity) (enabled, weighed, (total, weigh, enough)) = (enabled, hit_weighed weighed, (total, weigh, rw hit_weight enough))

    pub hit_timely : IsTimely now s → IsTimely now (after_hit read s r now)
    hit_timely (inl none) = inl none
    hit_timely (inr early) = inr (λ n q there. elim (found_inserted s.records r.number (hit_record read s r now) n q there) [
      | inl (same, one) ↦ (let before = early r.number r its_place in subst (λ (x : Record K V). x.written.0 ≤ now) one before)
      | inr (apart, old) ↦ early n q old
    ])

  -- ---- what a look-up finds

  module _ (eq : K → K → Bool) (s : State K V X P W) (key : K) (now : ℕ) where
    -- no record of the key that has not expired
    abbrev pub IsMissing : Type 0
    IsMissing = (r : Record K V) → record_of_key eq s.records key ≡ Some r → IsFresh s r now → ⊥

    -- one that has not
    abbrev pub IsHere : Record K V → Type 0
    IsHere r = (record_of_key eq s.records key ≡ Some r) × IsFresh s r now

    missing_none : record_of_key eq s.records key ≡ None → IsMissing
    missing_none none r found fresh = (let both : None ≡ Some r = sym none ∙ found in absurd (cc))

    missing_hidden : IsRoomyFor weighs [] s → (r : Record K V) → record_of_key eq s.records key ≡ Some r → IsHidden says s r now → IsMissing
    missing_hidden roomy r found hidden q also fresh = hidden_of s q now roomy (subst (λ x. IsHidden says s x now) (same_Some r q (sym found ∙ also)) hidden) fresh

    -- a look for the key
    pub contains_looked : IsRoomyFor weighs [] s → (shown : Bool) → ContainsStep says eq s key now shown → ((shown ≡ false) × IsMissing) ⊎ ((shown ≡ true) × ((r : Record K V) × IsHere r))
    contains_looked roomy shown step = go (record_of_key eq s.records key) refl shown step
      where
        go : (o : Option (Record K V)) → record_of_key eq s.records key ≡ o → (shown : Bool) → IsShown says s o now shown → ((shown ≡ false) × IsMissing) ⊎ ((shown ≡ true) × ((r : Record K V) × IsHere r))
        go None none shown step = inl (step, missing_none none)
        go (Some r) found true visible = inr (refl, (r, (found, fresh_of s r now roomy visible)))
        go (Some r) found false hidden = inl (refl, missing_hidden roomy r found hidden)

    -- a scan
    pub scan_looked : IsRoomyFor weighs [] s → (a : Option V) → ScanStep says eq s key now (Ok a) → ((a ≡ None) × IsMissing) ⊎ ((r : Record K V) × (a ≡ Some r.value) × IsHere r)
    scan_looked roomy a step = go (record_of_key eq s.records key) refl a step
      where
        go : (o : Option (Record K V)) → record_of_key eq s.records key ≡ o → (a : Option V) → ScansAt says s o now (Ok a) → ((a ≡ None) × IsMissing) ⊎ ((r : Record K V) × (a ≡ Some r.value) × IsHere r)
        go None none a same = inl ((let is : a ≡ None = cc in is), missing_none none)
        go (Some r) found None hidden = inl (refl, missing_hidden roomy r found hidden)
        go (Some r) found (Some value) (visible, is) = inr (r, ap Some is, (found, fresh_of s r now roomy visible))

    -- a get
    module _ (read : X → K → V → ℕ → Option ℕ → ℕ → Option ℕ) (before after : List ℕ) (valid : IsValid eq s) (need_key : Bool) (e : Events K V) (t : State K V X P W) where
      -- what a get that finds the record answers
      abbrev pub entry_of : Record K V → Entry K V
      entry_of r = record { key = if need_key then Some r.key else None; value = r.value }

      abbrev pub IsLooked : Option (Entry K V) → Type 0
      IsLooked a = ((a ≡ None) × IsMissing × IsQuiet now s t) ⊎ ((r : Record K V) × (a ≡ Some (entry_of r)) × IsHere r × IsQuiet now (after_hit read s r now) t)

      abbrev answer_of : Option (Entry K V) → Result (Option (Entry K V)) OutOfMemory
      answer_of a = Ok a

      pub get_looked : IsSteady now s → (hash : ℕ) (a : Option (Entry K V)) → GetStep says read (ListedRun says read before after) eq s key hash need_key false now (Ok a) e t → IsLooked a
      get_looked steady hash a step = go (is_disabled s.capacity) (record_of_key eq s.records key) (enabled_of s steady.roomy) refl a step
        where
          missed : (r : Record K V) → (false ≡ true) ⊎ IsHidden says s r now → IsHidden says s r now
          missed r (inl never) = absurd (true≢false (sym never))
          missed r (inr hidden) = hidden

          early : (r : Record K V) → record_of_key eq s.records key ≡ Some r → IsTimely now s → (s.settings.expiry ≡ None) ⊎ (r.written.0 ≤ now)
          early r found (inl none) = inl none
          early r found (inr by) = inr (by r.number r (record_at_its_number eq s key r valid.numbered found))

          go : (b : Bool) (o : Option (Record K V)) → b ≡ false → record_of_key eq s.records key ≡ o → (a : Option (Entry K V))
              → MatchBool b ((answer_of a ≡ Ok None) × Unchanged s e t) (GetsAt says read (ListedRun says read before after) s o hash need_key false now (Ok a) e t) → IsLooked a
          go true o off found a h = absurd (true≢false off)
          go false None on found a h = inl ((let is : a ≡ None = cc in is), missing_none found, recorded read before after now s (Miss hash) e t steady.roomy h.1)
          go false (Some r) on found None h = inl (refl, missing_hidden steady.roomy r found (missed r h.0), recorded read before after now s (Miss hash) e t steady.roomy h.1)
          go false (Some r) on found (Some entry) h =
              let at : hit_at read s r now ≡ now = hit_now s r now (early r found steady.timely) in
              inr (
                r,
                ap Some (ap (λ v. record { key = entry.key; value = v }) h.1 ∙ ap (λ k. record { key = k; value = r.value }) h.2),
                (found, fresh_of s r now steady.roomy h.0.1),
                recorded read before after now (after_hit read s r now) (hit_operation read s r now) e t (hit_roomy eq read s valid key now r found steady.roomy) (subst (λ moment. RecordsRead (ListedRun says read before after) (after_hit read s r now) moment (hit_operation read s r now) e t) at h.3),
              )
