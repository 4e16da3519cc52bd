-- What leaves the map in a run is told, each value once.
use Rattle.std.proofs.Common.{◌≡◌, refl, ℕ, true, false, ◌==◌, List, [], ◌∷◌, ◌++◌, map, Option, Some, None, option_map, option_to_list, ap, sym, ◌∙◌, subst, inl, inr, append_assoc, append-nil, if◌then◌else◌, IsPermutation}
use Rattle.std.specs.Option.{option_map_or}
use Rattle.std.proofs.lemmas.List.Sorted.{IsPermutation-refl, IsPermutation-sym, IsPermutation-trans, IsPermutation-map, IsPermutation-append_right}
use Rattle.std.specs.FinMap.{get, insert, remove, values}
use Rattle.moka_laws.proofs.Types.{RemovalCause, Size, EvictionPolicy, Record, Member, Ticketed, Operation, Upsert, Removal, Records, Notice, State, Contents, Fate, Ignored, Overtaken, Counted, Admitted, TooHeavy, Preferred, Refused, Choice, Removes, MovesToBack, Drops, Freedom}
use Rattle.moka_records.specs.Records.{counted_of, settled_members, is_settled}
use Rattle.moka_parts.specs.State.{contents}
use Rattle.moka_parts.specs.Candidates.{victims_for}
use Rattle.moka_parts.specs.Writes.{with_applied, without_records, leaves_for_size, left_with, left_by_rejection, left_by_fate, left_by_write, left_by_writes, fate_of_record, after_fate, after_write, after_writes}
use Rattle.moka_parts.specs.Maintenance.{after_choice, after_choices, left_by_choice, left_by_choices, after_queued_reads, after_queues, before_steps, at_end, left_in_run}
use Rattle.moka_parts.specs.Laws.{values_of, TellsWhatLeaves}
use Rattle.moka_records.proofs.Maps.{same_or_apart, get_removed, get_past_remove}
use Rattle.moka_records.proofs.Values.{values_inserted, values_removed, put_over, remove_absent}
use Rattle.moka_laws.proofs.RunKeeps.{reads_keep}
use Rattle.moka_laws.proofs.RunKeepsSound.{Known, fate_known}
use Rattle.moka_laws.proofs.Admission.{prefix_is_front}
use Rattle.moka_records.proofs.AccessList.{uncounted_front, uncounted_filtered, counted_front, counted_behind}
pub use Rattle.moka_records.proofs.AccessList.{still_within}
use Rattle.std.proofs.lemmas.List.{map-append}

-- the values told in notices
abbrev pub told : {K V : Type 0} → List (Notice K V) → List V
told notices = map (λ n. n.1) notices

-- the values of the first map are those told and those of the second
abbrev pub Splits : {K V : Type 0} → Records K V → List (Notice K V) → Records K V → Type 0
Splits before notices after = IsPermutation (values_of before) (told notices ++ values_of after)

module _ {K V : Type 0} where
  -- nothing leaves
  pub splits_itself : (records : Records K V) → Splits records [] records
  splits_itself records = IsPermutation-refl (values_of records)

  -- one change after another
  pub splits_on : (a b c : Records K V) (first second : List (Notice K V)) → Splits a first b → Splits b second c → Splits a (first ++ second) c
  splits_on a b c first second h k =
      subst (λ vs. IsPermutation (values_of a) vs) (sym (append_assoc (told first) (told second) (values_of c)) ∙ ap (λ vs. vs ++ values_of c) (sym (map-append (λ (n : Notice K V). n.1) first second)))
      (IsPermutation-trans (values_of a) (told first ++ values_of b) (told first ++ (told second ++ values_of c)) h (IsPermutation-append_right (told first) (values_of b) (told second ++ values_of c) k))

  -- a record that leaves
  pub splits_removed : (records : Records K V) (n : ℕ) (r : Record K V) (cause : RemovalCause) → get records n ≡ Some r → Splits records ((r.key, r.value, cause) ∷ []) (remove records n)
  splits_removed records n r cause there = IsPermutation-sym _ (values_of records) (IsPermutation-map (λ (r : Record K V). r.value) (r ∷ values (remove records n)) (values records) (values_removed records n r there))

  -- a record that changes in all but its value
  pub splits_updated : (records : Records K V) (n : ℕ) (r q : Record K V) → get records n ≡ Some r → q.value ≡ r.value → Splits records [] (insert records n q)
  splits_updated records n r q there same =
      let without = remove records n in
      let out = IsPermutation-map (λ (r : Record K V). r.value) (r ∷ values without) (values records) (values_removed records n r there) in
      let back = IsPermutation-map (λ (r : Record K V). r.value) (q ∷ values without) (values (insert without n q)) (values_inserted without n q (get_removed records n)) in
      let again : insert without n q ≡ insert records n q = put_over records n q in
      let mid : IsPermutation (r.value ∷ values_of without) (values_of (insert records n q)) = subst (λ m. IsPermutation (r.value ∷ values_of without) (values_of m)) again (subst (λ v. IsPermutation (v ∷ values_of without) (values_of (insert without n q))) same back) in
      IsPermutation-trans (values_of records) (r.value ∷ values_of without) (values_of (insert records n q)) (IsPermutation-sym (r.value ∷ values_of without) (values_of records) out) mid

  -- members whose records leave one after the other
  splits_with : (gone : List Member) (records : Records K V) → Splits records (left_with gone records) (without_records gone records)
  splits_with [] records = splits_itself records
  splits_with (a ∷ gone) records =
      splits_on records (remove records a.number) (without_records gone (remove records a.number)) (option_to_list (option_map leaves_for_size (get records a.number))) (left_with gone (remove records a.number))
      (one (get records a.number) refl) (splits_with gone (remove records a.number))
    where
      one : (o : Option (Record K V)) → get records a.number ≡ o → Splits records (option_to_list (option_map leaves_for_size o)) (remove records a.number)
      one None absent = rw (remove_absent records a.number absent) (splits_itself records)
      one (Some r) there = splits_removed records a.number r Size there

-- ---- victims

-- the victims of a choice are members
uncounted_victims : {K V : Type 0} (c : Contents K V) (weight n : ℕ) (victims : List Member) → victims_for c weight ≡ Some victims → counted_of n c.access ≡ None → counted_of n victims ≡ None
uncounted_victims c weight n victims found absent =
    let front = prefix_is_front (settled_members c.records c.access) weight victims found in
    uncounted_front n victims front.0 (ap (counted_of n) (sym front.1) ∙ uncounted_filtered (is_settled c.records) n c.access absent)

module _ {K V : Type 0} where
  -- whose member does not leave stays
  kept_without : (gone : List Member) (records : Records K V) (n : ℕ) → counted_of n gone ≡ None → get (without_records gone records) n ≡ get records n
  kept_without [] records n absent = refl
  kept_without (a ∷ gone) records n absent = elim (same_or_apart n a.number) [
    | inl same ↦ (let there : Some a.counted ≡ None = sym (counted_front a gone) ∙ ap (λ m. counted_of m (a ∷ gone)) (sym same) ∙ absent in cc)
    | inr apart ↦ kept_without gone (remove records a.number) n (sym (counted_behind a gone n apart) ∙ absent) ∙ get_past_remove records a.number n apart
  ]

  -- a rejection
  splits_rejected : (records : Records K V) (n generation : ℕ) (r : Record K V) → get records n ≡ Some r → Splits records (left_by_rejection generation r) (if r.generation == generation then remove records n else with_applied records n r generation)
  splits_rejected records n generation r there =
      elim (r.generation == generation) as (λ b. Splits records (if b then leaves_for_size r ∷ [] else []) (if b then remove records n else with_applied records n r generation)) [
        | true ↦ splits_removed records n r Size there
        | false ↦ splits_updated records n r (record r { applied = generation }) there refl
      ]

module _ {K V : Type 0} where
  -- an upsert with any fate
  splits_fate : (c : Contents K V) (number generation weight : ℕ) (moved : List ℕ) (r : Record K V) (f : Fate) → get c.records number ≡ Some r → Known c number generation weight r f →
      Splits c.records (left_by_fate c generation r f) (after_fate c number generation weight moved r f).records
  splits_fate c number generation weight moved r Ignored there known = splits_itself c.records
  splits_fate c number generation weight moved r Overtaken there known = splits_itself c.records
  splits_fate c number generation weight moved r Counted there known = splits_updated c.records number r (record r { applied = generation }) there refl
  splits_fate c number generation weight moved r Admitted there known = splits_updated c.records number r (record r { applied = generation }) there refl
  splits_fate c number generation weight moved r TooHeavy there known = splits_rejected c.records number generation r there
  splits_fate c number generation weight moved r (Preferred victims) there known =
      subst (λ ns. Splits c.records ns (with_applied (without_records victims c.records) number r generation)) (append-nil (left_with victims c.records))
      (splits_on c.records (without_records victims c.records) (with_applied (without_records victims c.records) number r generation) (left_with victims c.records) [] (splits_with victims c.records)
      (splits_updated (without_records victims c.records) number r (record r { applied = generation }) (kept_without victims c.records number (uncounted_victims c weight number victims known.2 known.1) ∙ there) refl))
  splits_fate c number generation weight moved r Refused there known = splits_rejected c.records number generation r there

  splits_write : (capacity : Option ℕ) (policy : EvictionPolicy) (c : Contents K V) (o : Operation) (moved : List ℕ) → Splits c.records (left_by_write capacity policy c o) (after_write capacity policy c o moved).records
  splits_write capacity policy c (Removal number generation) moved = splits_itself c.records
  splits_write capacity policy c (Upsert number generation weight hash) moved = found (get c.records number) refl
    where
      found : (o : Option (Record K V)) → get c.records number ≡ o →
          Splits c.records (option_map_or (λ r. left_by_fate c generation r (option_map_or (fate_of_record capacity policy c number generation weight hash) o Ignored)) o [])
          (option_map_or (λ r. after_fate c number generation weight moved r (option_map_or (fate_of_record capacity policy c number generation weight hash) o Ignored)) o c).records
      found None there = splits_itself c.records
      found (Some r) there = splits_fate c number generation weight moved r (fate_of_record capacity policy c number generation weight hash r) there (fate_known capacity policy c number generation weight hash r)

  splits_writes : (capacity : Option ℕ) (policy : EvictionPolicy) (c : Contents K V) (hs : List Ticketed) (ms : List (List ℕ)) → Splits c.records (left_by_writes capacity policy c hs ms) (after_writes capacity policy c hs ms).records
  splits_writes capacity policy c [] ms = splits_itself c.records
  splits_writes capacity policy c (h ∷ hs) [] =
      splits_on c.records (after_write capacity policy c h.operation []).records (after_writes capacity policy (after_write capacity policy c h.operation []) hs []).records (left_by_write capacity policy c h.operation) (left_by_writes capacity policy (after_write capacity policy c h.operation []) hs [])
      (splits_write capacity policy c h.operation []) (splits_writes capacity policy (after_write capacity policy c h.operation []) hs [])
  splits_writes capacity policy c (h ∷ hs) (moved ∷ ms) =
      splits_on c.records (after_write capacity policy c h.operation moved).records (after_writes capacity policy (after_write capacity policy c h.operation moved) hs ms).records (left_by_write capacity policy c h.operation) (left_by_writes capacity policy (after_write capacity policy c h.operation moved) hs ms)
      (splits_write capacity policy c h.operation moved) (splits_writes capacity policy (after_write capacity policy c h.operation moved) hs ms)

  splits_choice : (c : Contents K V) (x : Choice) → Splits c.records (left_by_choice c x) (after_choice c x).records
  splits_choice c (Removes n cause) = found (get c.records n) refl
    where
      found : (o : Option (Record K V)) → get c.records n ≡ o → Splits c.records (option_to_list (option_map (λ (r : Record K V). (r.key, r.value, cause)) o)) (remove c.records n)
      found None there = rw (remove_absent c.records n there) (splits_itself c.records)
      found (Some r) there = splits_removed c.records n r cause there
  splits_choice c (MovesToBack n) = splits_itself c.records
  splits_choice c (Drops i) = splits_itself c.records

  splits_choices : (c : Contents K V) (xs : List Choice) → Splits c.records (left_by_choices c xs) (after_choices c xs).records
  splits_choices c [] = splits_itself c.records
  splits_choices c (x ∷ xs) = splits_on c.records (after_choice c x).records (after_choices (after_choice c x) xs).records (left_by_choice c x) (left_by_choices (after_choice c x) xs) (splits_choice c x) (splits_choices (after_choice c x) xs)

-- whatever a run chooses
pub tells_what_leaves : {K V X P W : Type 0} (s : State K V X P W) (ch : Freedom) → TellsWhatLeaves s ch
tells_what_leaves s ch =
    let same : (after_queued_reads s).records ≡ s.records = reads_keep (contents s) s.reads in
    let writes = splits_writes s.capacity s.settings.policy (after_queued_reads s) s.writes ch.moves in
    let all = splits_on (after_queued_reads s).records (after_queues s ch).records (at_end s ch).records _ _ writes (splits_choices (before_steps s ch) ch.steps) in
    subst (λ m. Splits m (left_in_run s ch) (at_end s ch).records) same all
