-- Where nothing but time takes a record out, what has not expired stays in runs and sends.
use Rattle.std.proofs.Common.{◌≡◌, refl, ℕ, zero, suc, ◌<◌, ◌≤◌, Bool, true, false, ◌||◌, nat_lt, List, [], ◌∷◌, ◌++◌, append_assoc, Option, Some, None, is_some, Result, ap, sym, subst, ◌∙◌, inl, inr, true≢false, arith, if◌then◌else◌}
use Rattle.std.specs.Option.{option_map_or}
use Rattle.std.specs.FinMap.{get, remove}
use Rattle.std.specs.List.{AllByRecursion}
use Rattle.std.proofs.lemmas.List.Elements.{Contains-push_cases}
use Rattle.std.proofs.lemmas.Bool.{and_parts, or_parts}
use Rattle.std.proofs.lemmas.Option.{same_Some}
use Rattle.moka_types.specs.declared.policy.EvictionPolicy.{EvictionPolicy}
use Rattle.moka_records.specs.declared.records.Operation.{Operation}
use Rattle.moka_records.specs.declared.records.Operation.TheVariants.{Upsert, Removal}
use Rattle.moka_records.specs.declared.records.ReadOperation.{ReadOperation}
use Rattle.moka_records.specs.declared.records.ReadOperation.TheVariants.{Hit, Miss}
use Rattle.moka_records.specs.declared.records.Record.{Record}
use Rattle.moka_records.specs.declared.records.Ticketed.{Ticketed}
use Rattle.moka_parts.specs.declared.notification.RemovalCause.{RemovalCause}
use Rattle.moka_parts.specs.declared.notification.RemovalCause.TheVariants.{Expired, Explicit, Replaced, Size}
use Rattle.moka_types.specs.declared.error.SendError.{SendError}
use Rattle.moka_parts.specs.Calls.{SendStep}
use Rattle.moka_parts.specs.Exact.{weight_of_records}
use Rattle.moka_parts.specs.Listed.{ListedRun}
use Rattle.moka_parts.specs.Maintenance.{Choice, Removes, MovesToBack, Drops, Freedom, Terms, Course, Tests, HasCause, AreJustified, is_past_write, is_past_read, is_front, is_over, after_choice, after_choices, kept_by_choices, after_queued_reads, before_steps, at_end, after_run, tests_of, AreFree}
use Rattle.moka_parts.specs.Reads.{after_reads, after_read}
use Rattle.moka_parts.specs.Notices.{Notice}
use Rattle.moka_records.specs.Records.{Records, counted_of, has_room, is_member}
use Rattle.moka_parts.specs.Settling.{IsWaiting}
use Rattle.moka_parts.specs.State.{State, Contents, contents}
use Rattle.moka_parts.specs.Visibility.{has_lapsed, is_expired, is_past_live, is_past_idle, is_written_before, is_read_before}
use Rattle.moka_parts.specs.Writes.{Fate, Ignored, Overtaken, Counted, Admitted, TooHeavy, Preferred, Refused, with_applied, fate_by_policy, fate_of_newcomer, fate_of_record, after_fate, after_write, after_writes}
use Rattle.moka_records.proofs.Maps.{AreApart, same_or_apart, get_removed, get_past_remove}
use Rattle.moka_laws.proofs.RunKeeps.{reads_keep}
use Rattle.moka_records.proofs.Options.{none_by_test}
use Rattle.moka_laws.proofs.Tickets.{all_of}
use Rattle.moka_laws.proofs.Kept.{kept_by_run, kept_by_send}
use Rattle.moka_engine.specs.parts.Restored.{Restored}
use Rattle.moka_cache.specs.Saves.{HasRoomFor, IsRoomyFor, KeepsUnexpired, TakesOnlyExpired, WeighAtMost}
use Rattle.moka_cache.proofs.Alike.{none_kept}
use Rattle.moka_cache.proofs.Roomy.{FitsIn, enters, enters_again, fits_still, left, moved_back, taken_out, never_over, newcomer_has_room}
use Rattle.moka_cache.proofs.Stays.{noted_by, kept_by_writes}

-- the tests of a run with this capacity, and no invalidation of all
abbrev tests_with : Option ℕ → ℕ → Option ℕ → Option ℕ → Tests
tests_with capacity now live idle = record { now = now; time_to_live = live; time_to_idle = idle; invalid_before = None; capacity = capacity }

-- nothing leaves by the fate
abbrev LeavesAll : Fate → Type 0
LeavesAll TooHeavy = ⊥
LeavesAll (Preferred victims) = ⊥
LeavesAll Refused = ⊥
LeavesAll f = Unit {0}

module _ (Waits : ℕ → ℕ → Type 0) where
  -- the upsert waits
  abbrev WaitsFor : Operation → Type 0
  WaitsFor (Upsert k g w hash) = Waits k w
  WaitsFor (Removal k g) = Unit {0}

module _ {K V : Type 0} (capacity : Option ℕ) (Waits : ℕ → ℕ → Type 0) (limit : ℕ) where
  -- there is no capacity, or it has room for all records
  abbrev FitsAll : Contents K V → Type 0
  FitsAll c = FitsIn capacity Waits limit c

  -- a member moves to the back
  back_fits : (c : Contents K V) (k : ℕ) → FitsAll c → FitsAll (after_choice c (MovesToBack k))
  back_fits c k fits = fits_still capacity Waits limit c (after_choice c (MovesToBack k)) (λ f. moved_back Waits limit c.records c.access f k) fits

  -- the sketch changes
  other_sketch : (c d : Contents K V) → d.records ≡ c.records → d.access ≡ c.access → FitsAll c → FitsAll d
  other_sketch c d records access fits = fits_still capacity Waits limit c d (λ f. rw (records, access) f) fits

  -- ---- reads

  read_fits : (c : Contents K V) (r : ReadOperation) → FitsAll c → FitsAll (after_read c r)
  read_fits c (Miss h) fits = other_sketch c (after_read c (Miss h)) refl refl fits
  read_fits c (Hit n h renewed) fits = go (is_some (get c.records n))
    where
      go : (b : Bool) → FitsAll (record (after_read c (Hit n h renewed)) { access = if b then (after_choice c (MovesToBack n)).access else c.access })
      go true = other_sketch (after_choice c (MovesToBack n)) _ refl refl (back_fits c n fits)
      go false = other_sketch c _ refl refl fits

  reads_fit : (c : Contents K V) (rs : List ReadOperation) → FitsAll c → FitsAll (after_reads c rs)
  reads_fit c [] fits = fits
  reads_fit c (r ∷ rs) fits = reads_fit (after_read c r) rs (read_fits c r fits)

  -- ---- writes

  admitted : (policy : EvictionPolicy) (c : Contents K V) (k w hash : ℕ) (q : Record K V) → FitsAll c → Waits k w → is_member k c.access ≡ false → get c.records k ≡ Some q → fate_of_newcomer capacity policy c w hash ≡ Admitted
  admitted policy c k w hash q fits waits outside there =
      ap (λ b. if b then Admitted else (if has_room capacity 0 w then fate_by_policy policy c w hash else TooHeavy)) (newcomer_has_room capacity Waits limit c k w q fits waits (none_by_test (counted_of k c.access) outside) there)

  -- where there is room nothing is rejected
  none_rejected : (policy : EvictionPolicy) (c : Contents K V) (k g w hash : ℕ) (q : Record K V) → FitsAll c → Waits k w → get c.records k ≡ Some q → LeavesAll (fate_of_record capacity policy c k g w hash q)
  none_rejected policy c k g w hash q fits waits there = go (nat_lt q.applied g) (is_member k c.access) refl
    where
      go : (newer member : Bool) → is_member k c.access ≡ member → LeavesAll (if newer then (if member then Counted else fate_of_newcomer capacity policy c w hash) else (if member then Overtaken else Ignored))
      go true true is = tt
      go true false is = subst LeavesAll (sym (admitted policy c k w hash q fits waits is there)) tt
      go false true is = tt
      go false false is = tt

  -- and there is room afterwards
  fate_fits : (policy : EvictionPolicy) (c : Contents K V) (k g w hash : ℕ) (moved : List ℕ) (q : Record K V) → FitsAll c → Waits k w → get c.records k ≡ Some q → FitsAll (after_fate c k g w moved q (fate_of_record capacity policy c k g w hash q))
  fate_fits policy c k g w hash moved q fits waits there = go (nat_lt q.applied g) (is_member k c.access) refl
    where
      go : (newer member : Bool) → is_member k c.access ≡ member → FitsAll (after_fate c k g w moved q (if newer then (if member then Counted else fate_of_newcomer capacity policy c w hash) else (if member then Overtaken else Ignored)))
      go true true is = fits_still capacity Waits limit c (after_fate c k g w moved q Counted) (λ f. enters_again Waits limit c.records c.access f k g w q there (f.waiting k w waits q there)) fits
      go true false is = subst (λ f. FitsAll (after_fate c k g w moved q f)) (sym (admitted policy c k w hash q fits waits is there))
          (fits_still capacity Waits limit c (after_fate c k g w moved q Admitted) (λ f. enters Waits limit c.records c.access f k g w q there (f.waiting k w waits q there) (none_by_test (counted_of k c.access) is)) fits)
      go false true is = back_fits c k fits
      go false false is = fits

  write_fits : (policy : EvictionPolicy) (c : Contents K V) (o : Operation) (moved : List ℕ) → WaitsFor Waits o → FitsAll c → FitsAll (after_write capacity policy c o moved)
  write_fits policy c (Removal k g) moved waits fits = fits_still capacity Waits limit c (after_write capacity policy c (Removal k g) moved) (λ f. taken_out Waits limit c.records c.access f k) fits
  write_fits policy c (Upsert k g w hash) moved waits fits = found (get c.records k) refl
    where
      found : (o : Option (Record K V)) → get c.records k ≡ o → FitsAll (option_map_or (λ q. after_fate c k g w moved q (option_map_or (fate_of_record capacity policy c k g w hash) o Ignored)) o c)
      found None there = fits
      found (Some q) there = fate_fits policy c k g w hash moved q fits waits there

  -- ---- steps

  removal_fits : (c : Contents K V) (k : ℕ) (cause : RemovalCause) (q : Record K V) → get c.records k ≡ Some q → FitsAll c → FitsAll (after_choice c (Removes k cause))
  removal_fits c k cause q there fits = fits_still capacity Waits limit c (after_choice c (Removes k cause)) (λ f. left Waits limit c.records c.access f k q there) fits

  steps_fit : {P : Type 0} (says : P → K → V → Bool → Type 0) (q : Tests) (c : Contents K V) (xs : List Choice) → AreJustified says q c [] xs → FitsAll c → FitsAll (after_choices c xs)
  steps_fit says q c [] just fits = fits
  steps_fit says q c (Removes k cause ∷ xs) ((r, there, settled, ground), rest) fits = steps_fit says q (after_choice c (Removes k cause)) xs rest (removal_fits c k cause r there fits)
  steps_fit says q c (MovesToBack k ∷ xs) (just, rest) fits = steps_fit says q (after_choice c (MovesToBack k)) xs rest (back_fits c k fits)
  steps_fit says q c (Drops zero ∷ xs) (just, rest) fits = steps_fit says q c xs rest fits
  steps_fit says q c (Drops (suc i) ∷ xs) (just, rest) fits = steps_fit says q c xs rest fits

  -- ---- a record

  module _ (n : ℕ) (r : Record K V) where
    -- the record is there but for the applied generation
    abbrev Stands : Records K V → Type 0
    Stands records = (g : ℕ) × (get records n ≡ Some (record r { applied = g }))

    noted : (records : Records K V) (k g : ℕ) (q : Record K V) → get records k ≡ Some q → Stands records → Stands (with_applied records k q g)
    noted records k g q there (a, is) = let by = noted_by n r (λ _. Unit {0}) records records k g q there (λ at. tt) (a, is, tt) (a, is, tt) in (by.0, by.1)

    fate_lasts : (c : Contents K V) (k g w : ℕ) (moved : List ℕ) (q : Record K V) (f : Fate) → get c.records k ≡ Some q → LeavesAll f → Stands c.records → Stands (after_fate c k g w moved q f).records
    fate_lasts c k g w moved q Ignored there leaves stands = stands
    fate_lasts c k g w moved q Overtaken there leaves stands = stands
    fate_lasts c k g w moved q Counted there leaves stands = noted c.records k g q there stands
    fate_lasts c k g w moved q Admitted there leaves stands = noted c.records k g q there stands
    fate_lasts c k g w moved q TooHeavy there leaves stands = absurd leaves
    fate_lasts c k g w moved q (Preferred victims) there leaves stands = absurd leaves
    fate_lasts c k g w moved q Refused there leaves stands = absurd leaves

    write_lasts : (policy : EvictionPolicy) (c : Contents K V) (o : Operation) (moved : List ℕ) → WaitsFor Waits o → FitsAll c → Stands c.records → Stands (after_write capacity policy c o moved).records
    write_lasts policy c (Removal k g) moved waits fits stands = stands
    write_lasts policy c (Upsert k g w hash) moved waits fits stands = found (get c.records k) refl
      where
        found : (o : Option (Record K V)) → get c.records k ≡ o → Stands (option_map_or (λ q. after_fate c k g w moved q (option_map_or (fate_of_record capacity policy c k g w hash) o Ignored)) o c).records
        found None there = stands
        found (Some q) there = fate_lasts c k g w moved q (fate_of_record capacity policy c k g w hash q) there (none_rejected policy c k g w hash q fits waits there) stands

    module _ {P : Type 0} (says : P → K → V → Bool → Type 0) (now : ℕ) (live idle : Option ℕ) (fresh : (is_expired r now || is_past_write (tests_with capacity now live idle) r || is_past_read (tests_with capacity now live idle) r) ≡ false) where
      -- a record that leaves is another
      leaves_another : (c : Contents K V) (k : ℕ) (q : Record K V) (cause : RemovalCause) → get c.records k ≡ Some q → HasCause says (tests_with capacity now live idle) c [] k q cause → FitsAll c → Stands c.records → AreApart n k
      leaves_another c k q Expired there ground fits stands = elim (same_or_apart n k) [
        | inl e ↦
            let same : q ≡ record r { applied = stands.0 } = same_Some q (record r { applied = stands.0 }) (sym there ∙ sym (ap (get c.records) e) ∙ stands.1) in
            absurd (true≢false (sym ground ∙ ap (λ (x : Record K V). is_expired x now || is_past_write (tests_with capacity now live idle) x || is_past_read (tests_with capacity now live idle) x) same ∙ fresh))
        | inr apart ↦ apart
      ]
      leaves_another c k q Explicit there (inl ground) fits stands = absurd (true≢false (sym ground))
      leaves_another c k q Explicit there (inr covered) fits stands = absurd covered
      leaves_another c k q Size there ground fits stands = absurd (true≢false (sym (and_parts (is_front k c.access) (is_over capacity c.access) ground).1 ∙ never_over capacity Waits limit c fits))
      leaves_another c k q Replaced there ground fits stands = absurd ground

      steps_last : (c : Contents K V) (xs : List Choice) → AreJustified says (tests_with capacity now live idle) c [] xs → FitsAll c → Stands c.records → Stands (after_choices c xs).records
      steps_last c [] just fits stands = stands
      steps_last c (Removes k cause ∷ xs) ((q, there, settled, ground), rest) fits stands =
          steps_last (after_choice c (Removes k cause)) xs rest (removal_fits c k cause q there fits) (stands.0, get_past_remove c.records k n (leaves_another c k q cause there ground fits stands) ∙ stands.1)
      steps_last c (MovesToBack k ∷ xs) (just, rest) fits stands = steps_last (after_choice c (MovesToBack k)) xs rest (back_fits c k fits) stands
      steps_last c (Drops zero ∷ xs) (just, rest) fits stands = steps_last c xs rest fits stands
      steps_last c (Drops (suc i) ∷ xs) (just, rest) fits stands = steps_last c xs rest fits stands

-- of some entries the rest weighs no more than all
at_most_rest : {K V W : Type 0} (weighs : W → K → V → ℕ → Type 0) (weigher : Option W) (items others : List (Restored K V)) (total : ℕ) → WeighAtMost weighs weigher (items ++ others) total → (rest : ℕ) × (rest ≤ total) × WeighAtMost weighs weigher others rest
at_most_rest weighs weigher [] others total weigh = (total, omega arith, weigh)
at_most_rest weighs weigher (item ∷ items) others total (own, rest, sum, most, weigh) =
    let (left_over, less, still) = at_most_rest weighs weigher items others rest weigh in
    (left_over, omega (arith, sum, less), still)

module _ {K V X P W : Type 0} (weighs : W → K → V → ℕ → Type 0) where
  -- an upsert of the number with the weight waits
  abbrev WaitsIn : State K V X P W → ℕ → ℕ → Type 0
  WaitsIn s n w = (g : ℕ) × (hash : ℕ) × IsWaiting s (Upsert n g w hash)

  -- the contents fit in where there is room
  fits_first : (items : List (Restored K V)) (s : State K V X P W) (o : Option ℕ) → HasRoomFor weighs o items s → FitsIn o (WaitsIn s) (weight_of_records s.records) (contents s)
  fits_first items s None room = tt
  fits_first items s (Some capacity) (enabled, weighed, (total, weigh, enough)) = (
    record { once = weighed.once; counted = weighed.counted; waiting = λ n w waits. weighed.waiting n waits.0 w waits.1 waits.2; within = omega arith },
    omega (arith, enough),
  )

  -- and as long as they do there is room
  room_again : (items : List (Restored K V)) (s t : State K V X P W) (o : Option ℕ) → t.settings ≡ s.settings → ((x : Operation) → IsWaiting t x → IsWaiting s x) → HasRoomFor weighs o items s → FitsIn o (WaitsIn s) (weight_of_records s.records) (contents t) → HasRoomFor weighs o items t
  room_again items s t None same waits room fits = tt
  room_again items s t (Some capacity) same waits (enabled, weighed, (total, weigh, enough)) (fits, at_most) = (
    enabled,
    record { once = fits.once; counted = fits.counted; waiting = λ n g w hash is. fits.waiting n w (g, hash, waits (Upsert n g w hash) is) },
    (total, rw same weigh, (let within = fits.within in omega (arith, within, enough))),
  )

  -- ---- no step, and one step after the other

  -- there is room for fewer entries
  room_for_fewer : (items others : List (Restored K V)) (s : State K V X P W) → IsRoomyFor weighs (items ++ others) s → IsRoomyFor weighs others s
  room_for_fewer items others s roomy = record { room = go s.capacity roomy.room; bound = roomy.bound; predicates = roomy.predicates }
    where
      go : (o : Option ℕ) → HasRoomFor weighs o (items ++ others) s → HasRoomFor weighs o others s
      go None room = tt
      go (Some capacity) (enabled, weighed, (total, weigh, enough)) =
          let (rest, less, still) = at_most_rest weighs s.settings.weigher items others total weigh in
          (enabled, weighed, (rest, still, omega (arith, less, enough)))

  pub keeps_itself : (items : List (Restored K V)) (now : ℕ) (s : State K V X P W) → TakesOnlyExpired weighs items now s s
  keeps_itself items now s others roomy = (record { settings = refl; capacity = refl; there = λ n r there fresh. (r.applied, there) }, room_for_fewer items others s roomy)

  kept_then : (now : ℕ) (s t u : State K V X P W) → s.invalid_before ≡ None → t.invalid_before ≡ None → KeepsUnexpired now s t → KeepsUnexpired now t u → KeepsUnexpired now s u
  kept_then now s t u bound bound_then first second = record {
    settings = second.settings ∙ first.settings;
    capacity = second.capacity ∙ first.capacity;
    there = λ n r there fresh.
        let mid = first.there n r there fresh in
        second.there n (record r { applied = mid.0 }) mid.1 (rw (first.settings, bound_then) (rw bound at fresh));
  }

  pub keeps_then : (items more : List (Restored K V)) (now : ℕ) (s t u : State K V X P W) → TakesOnlyExpired weighs items now s t → TakesOnlyExpired weighs more now t u → TakesOnlyExpired weighs (items ++ more) now s u
  keeps_then items more now s t u before after others roomy =
      let (kept, roomy_then) = before (more ++ others) (subst (λ xs. IsRoomyFor weighs xs s) (append_assoc items more others) roomy) in
      let (kept_after, roomy_after) = after others roomy_then in
      (kept_then now s t u roomy.bound roomy_then.bound kept kept_after, roomy_after)

  -- to a state that is the same but for queues, operations that wait and the housekeeper
  pub record IsSameCache (t u : State K V X P W) : Type 0 where
    pub records : u.records ≡ t.records
    pub access : u.access ≡ t.access
    pub settings : u.settings ≡ t.settings
    pub capacity : u.capacity ≡ t.capacity
    pub bound : u.invalid_before ≡ t.invalid_before
    pub predicates : u.predicates ≡ t.predicates
    pub waits : (o : Operation) → IsWaiting u o → IsWaiting t o

  pub keeps_to : (items : List (Restored K V)) (now : ℕ) (s t u : State K V X P W) → IsSameCache t u → TakesOnlyExpired weighs items now s t → TakesOnlyExpired weighs items now s u
  keeps_to items now s t u same lasts others roomy =
      let (kept, roomy_then) = lasts others roomy in (
        record { settings = same.settings ∙ kept.settings; capacity = same.capacity ∙ kept.capacity; there = λ n r there fresh. let at = kept.there n r there fresh in (at.0, ap (λ m. get m n) same.records ∙ at.1) },
        record {
          room = subst (λ o. HasRoomFor weighs o others u) (sym same.capacity) (go t.capacity roomy_then.room);
          bound = same.bound ∙ roomy_then.bound;
          predicates = same.predicates ∙ roomy_then.predicates;
        },
      )
    where
      go : (o : Option ℕ) → HasRoomFor weighs o others t → HasRoomFor weighs o others u
      go None room = tt
      go (Some most) (enabled, weighed, (total, weigh, enough)) = (
        enabled,
        record {
          once = rw same.access weighed.once;
          counted = rw (same.access, same.records) weighed.counted;
          waiting = rw same.records (λ n g w hash is. weighed.waiting n g w hash (same.waits (Upsert n g w hash) is));
        },
        (total, rw same.settings weigh, rw same.records enough),
      )

  -- ---- a run

  module _ (says : P → K → V → Bool → Type 0) (s : State K V X P W) (now : ℕ) (ch : Freedom) (free : AreFree says s now ch) (others : List (Restored K V)) (roomy : IsRoomyFor weighs others s) where
    abbrev Fitting : Contents K V → Type 0
    Fitting c = FitsIn s.capacity (WaitsIn s) (weight_of_records s.records) c

    waiting : AllByRecursion (λ (h : Ticketed). WaitsFor (WaitsIn s) h.operation) s.writes
    waiting = all_of (λ (h : Ticketed). WaitsFor (WaitsIn s) h.operation) s.writes (λ h there. of h.operation (inr (h.ticket, there)))
      where
        of : (o : Operation) → IsWaiting s o → WaitsFor (WaitsIn s) o
        of (Upsert k g w hash) is = (g, hash, is)
        of (Removal k g) is = tt

    queued_fit : Fitting (after_queued_reads s)
    queued_fit = reads_fit s.capacity (WaitsIn s) (weight_of_records s.records) (contents s) s.reads (fits_first others s s.capacity roomy.room)

    written_fit : Fitting (before_steps s ch)
    written_fit =
        let written = after_writes s.capacity s.settings.policy (after_queued_reads s) s.writes ch.moves in
        other_sketch s.capacity (WaitsIn s) (weight_of_records s.records) written (before_steps s ch) refl refl (kept_by_writes Fitting s.capacity s.settings.policy (WaitsFor (WaitsIn s)) (write_fits s.capacity (WaitsIn s) (weight_of_records s.records) s.settings.policy) (after_queued_reads s) s.writes ch.moves waiting queued_fit)

    just : AreJustified says (tests_with s.capacity now s.settings.time_to_live s.settings.time_to_idle) (before_steps s ch) [] ch.steps
    just =
        let tests : tests_of s now ≡ tests_with s.capacity now s.settings.time_to_live s.settings.time_to_idle = rw roomy.bound refl in
        subst (λ ps. AreJustified says (tests_with s.capacity now s.settings.time_to_live s.settings.time_to_idle) (before_steps s ch) ps ch.steps) roomy.predicates (subst (λ q. AreJustified says q (before_steps s ch) s.predicates ch.steps) tests free.1)

    end_fits : Fitting (at_end s ch)
    end_fits = steps_fit s.capacity (WaitsIn s) (weight_of_records s.records) says (tests_with s.capacity now s.settings.time_to_live s.settings.time_to_idle) (before_steps s ch) ch.steps just written_fit

    stays_there : (n : ℕ) (r : Record K V) → get s.records n ≡ Some r → has_lapsed s.settings s.invalid_before r now ≡ false → (g : ℕ) × (get (at_end s ch).records n ≡ Some (record r { applied = g }))
    stays_there n r there lapsed =
        let fresh = (or_parts (is_expired r now || is_past_live s.settings r now || is_past_idle s.settings r now) (is_written_before s.invalid_before r)
        (or_parts (is_expired r now || is_past_live s.settings r now || is_past_idle s.settings r now || is_written_before s.invalid_before r) (is_read_before s.invalid_before r) lapsed).0).0 in
        let queued : (g : ℕ) × (get (after_queued_reads s).records n ≡ Some (record r { applied = g })) = (r.applied, ap (λ records. get records n) (reads_keep (contents s) s.reads) ∙ there) in
        let written = kept_by_writes (λ (c : Contents K V). Fitting c × ((g : ℕ) × (get c.records n ≡ Some (record r { applied = g })))) s.capacity s.settings.policy (WaitsFor (WaitsIn s))
        (λ c o moved waits h. (write_fits s.capacity (WaitsIn s) (weight_of_records s.records) s.settings.policy c o moved waits h.0, write_lasts s.capacity (WaitsIn s) (weight_of_records s.records) n r s.settings.policy c o moved waits h.0 h.1))
        (after_queued_reads s) s.writes ch.moves waiting (queued_fit, queued) in
        steps_last s.capacity (WaitsIn s) (weight_of_records s.records) n r says now s.settings.time_to_live s.settings.time_to_idle fresh (before_steps s ch) ch.steps just written_fit written.1

    -- what waits after the run waited before
    still_waits : (o : Operation) → IsWaiting (after_run s ch) o → IsWaiting s o
    still_waits o (inl waits) = inl waits
    still_waits o (inr (ticket, there)) = (let below : there.0 < 0 = there.1 in absurd (omega arith))

    run_keeps_all : KeepsUnexpired now s (after_run s ch) × IsRoomyFor weighs others (after_run s ch)
    run_keeps_all = (
      record { settings = refl; capacity = refl; there = stays_there },
      record {
        room = room_again others s (after_run s ch) s.capacity refl still_waits roomy.room end_fits;
        bound = roomy.bound;
        predicates = ap (λ ps. kept_by_choices ps ch.steps) roomy.predicates ∙ none_kept ch.steps;
      },
    )

  module _ (says : P → K → V → Bool → Type 0) (read : X → K → V → ℕ → Option ℕ → ℕ → Option ℕ) (before after : List ℕ) where
    pub listed_run_lasts : (s : State K V X P W) (terms : Terms) (course : Course) (notices : List (Notice K V)) (t : State K V X P W) → ListedRun says read before after s terms course notices t → TakesOnlyExpired weighs [] terms.now s t
    listed_run_lasts s terms course notices t run = kept_by_run (TakesOnlyExpired weighs [] terms.now s) s t (keeps_itself [] terms.now s) _ says terms course notices (λ ch enabled free others roomy. run_keeps_all says s terms.now ch free others roomy) run.0

  -- ---- a send

  pub send_lasts : (now : ℕ) (s : State K V X P W) (ticket : ℕ) (a : Result (Unit {0}) SendError) (t : State K V X P W) → SendStep s ticket a t → TakesOnlyExpired weighs [] now s t
  send_lasts now s ticket a t step = kept_by_send (TakesOnlyExpired weighs [] now s) s t (keeps_itself [] now s) ticket a
      (λ o there room. keeps_to [] now s s _ (record { records = refl; access = refl; settings = refl; capacity = refl; bound = refl; predicates = refl; waits = sent o there }) (keeps_itself [] now s)) step
    where
      sent : (o : Operation) → get s.outstanding ticket ≡ Some o → (x : Operation) → IsWaiting (record s { outstanding = remove s.outstanding ticket; writes = s.writes ++ record { ticket = ticket; operation = o } ∷ [] }) x → IsWaiting s x
      sent o there x (inl (n, at)) = elim (same_or_apart n ticket) [
        | inl same ↦ (let nothing : None ≡ Some x = sym (get_removed s.outstanding ticket) ∙ sym (ap (get (remove s.outstanding ticket)) same) ∙ at in absurd (cc))
        | inr apart ↦ inl (n, sym (get_past_remove s.outstanding ticket n apart) ∙ at)
      ]
      sent o there x (inr (n, inside)) = elim (Contains-push_cases s.writes (record { ticket = ticket; operation = o }) (record { ticket = n; operation = x }) inside) [
        | inl before ↦ inr (n, before)
        | inr e ↦ inl (ticket, there ∙ ap (λ (h : Ticketed). Some h.operation) e)
      ]
