-- A whole run keeps what always holds, whatever it chooses.
use Rattle.std.proofs.Common.{◌≡◌, refl, ℕ, ◌<◌, ◌≤◌, Bool, true, false, ◌==◌, nat_lt, List, [], ◌∷◌, Option, Some, None, is_some, ◌∙◌, if◌then◌else◌}
use Rattle.std.specs.Option.{option_map_or}
use Rattle.std.specs.FinMap.{get}
use Rattle.moka_laws.proofs.Types.{EvictionPolicy, TinyLfu, Lru, Record, Member, Ticketed, Operation, Upsert, Removal, ReadOperation, Hit, Miss, Operations, State, Contents, Fate, Ignored, Overtaken, Counted, Admitted, TooHeavy, Preferred, Refused, Choice, Removes, MovesToBack, Drops, Freedom}
use Rattle.moka_records.specs.Records.{is_member, counted_of, without_members, to_back, all_to_back, total_weight, has_room, without_member}
use Rattle.moka_parts.specs.State.{contents}
use Rattle.moka_parts.specs.Reads.{after_read, after_reads}
use Rattle.moka_parts.specs.Candidates.{victims_for, is_preferred}
use Rattle.moka_parts.specs.Writes.{without_records, fate_by_frequency, fate_by_policy, fate_of_newcomer, fate_of_record, after_fate, after_write, after_writes}
use Rattle.moka_parts.specs.Maintenance.{after_choice, after_choices, after_queued_reads, before_steps, after_run}
use Rattle.moka_parts.specs.Settling.{IsConsistent, IsConsistentState, IsWaitingIn}
use Rattle.moka_records.proofs.AccessList.{counted-all_to_back, uncounted_without, counted_taken_out, counted_past_taken_out, distinct_taken_out}
use Rattle.moka_records.proofs.Options.{none_by_test}
use Rattle.moka_laws.proofs.Waiting.{TakesIn, takes_front}
use Rattle.moka_laws.proofs.Consistent.{leave_kept, back_kept, all_back_kept, victims_kept}
use Rattle.moka_laws.proofs.Applied.{removal_kept, late_kept, overtaken_kept, entered_kept, rejected_kept}
use Rattle.std.proofs.lemmas.Bool.{ltb-true, ltb-false}

-- what is known of an upsert of the record that has this fate: it is newer than what was applied or not, its number is
-- counted or not, and which victims make room for it
abbrev pub Known : {K V : Type 0} → Contents K V → (number generation weight : ℕ) → Record K V → Fate → Type 0
Known c number generation weight r Ignored = generation ≤ r.applied
Known c number generation weight r Overtaken = generation ≤ r.applied
Known c number generation weight r Counted = (r.applied < generation) × (is_member number c.access ≡ true)
Known c number generation weight r Admitted = (r.applied < generation) × (counted_of number c.access ≡ None)
Known c number generation weight r TooHeavy = (r.applied < generation) × (counted_of number c.access ≡ None)
Known c number generation weight r (Preferred victims) = (r.applied < generation) × (counted_of number c.access ≡ None) × (victims_for c weight ≡ Some victims)
Known c number generation weight r Refused = (r.applied < generation) × (counted_of number c.access ≡ None)

module _ {K V : Type 0} (capacity : Option ℕ) (policy : EvictionPolicy) (c : Contents K V) (number generation weight hash : ℕ) (r : Record K V) where
  newcomer_known : (r.applied < generation) × (counted_of number c.access ≡ None) → Known c number generation weight r (fate_of_newcomer capacity policy c weight hash)
  newcomer_known p =
      elim (has_room capacity (total_weight c.access) weight) as (λ b. Known c number generation weight r (if b then Admitted else (if has_room capacity 0 weight then fate_by_policy policy c weight hash else TooHeavy))) [
        | true ↦ p
        | false ↦ elim (has_room capacity 0 weight) as (λ b. Known c number generation weight r (if b then fate_by_policy policy c weight hash else TooHeavy)) [ true ↦ by_policy policy | false ↦ p ]
      ]
    where
      by_choice : (o : Option (List Member)) → victims_for c weight ≡ o → Known c number generation weight r (fate_by_frequency c hash o)
      by_choice None found = p
      by_choice (Some victims) found = elim (is_preferred c hash victims) as (λ b. Known c number generation weight r (if b then Preferred victims else Refused)) [ true ↦ (p.0, p.1, found) | false ↦ p ]

      by_policy : (policy : EvictionPolicy) → Known c number generation weight r (fate_by_policy policy c weight hash)
      by_policy Lru = p
      by_policy TinyLfu = by_choice (victims_for c weight) refl

  -- the fate of an upsert of a record in the map
  pub fate_known : Known c number generation weight r (fate_of_record capacity policy c number generation weight hash r)
  fate_known = go (nat_lt r.applied generation) refl (is_member number c.access) refl
    where
      go : (b : Bool) → nat_lt r.applied generation ≡ b → (m : Bool) → is_member number c.access ≡ m → Known c number generation weight r (if b then (if m then Counted else fate_of_newcomer capacity policy c weight hash) else (if m then Overtaken else Ignored))
      go true newer true there = (ltb-true _ _ newer, there)
      go true newer false out = newcomer_known (ltb-true _ _ newer, none_by_test (counted_of number c.access) out)
      go false newer true there = ltb-false _ _ newer
      go false newer false out = ltb-false _ _ newer

module _ {K V : Type 0} (Before After : Operation → Type 0) (c : Contents K V) (h : IsConsistent Before c.records c.access) where
  -- whatever fate an upsert has
  pub fate_kept : (number generation weight hash : ℕ) (moved : List ℕ) (r : Record K V) (f : Fate) → get c.records number ≡ Some r → Known c number generation weight r f →
      TakesIn Before After (Upsert number generation weight hash) → IsConsistent After (after_fate c number generation weight moved r f).records (after_fate c number generation weight moved r f).access
  fate_kept number generation weight hash moved r Ignored there known taken = overtaken_kept Before After c.records c.access h number generation weight hash r there known taken
  fate_kept number generation weight hash moved r Overtaken there known taken = back_kept After c.records c.access (overtaken_kept Before After c.records c.access h number generation weight hash r there known taken) number
  fate_kept number generation weight hash moved r Counted there known taken =
      entered_kept Before After c.records c.access h number generation weight hash r c.records (without_member number c.access) there known.0
      (λ k apart. rw (counted_past_taken_out number k c.access apart) (h.sound k)) (distinct_taken_out number c.access h.once) (counted_taken_out number c.access) taken
  fate_kept number generation weight hash moved r Admitted there known taken = entered_kept Before After c.records c.access h number generation weight hash r c.records c.access there known.0 (λ k apart. h.sound k) h.once known.1 taken
  fate_kept number generation weight hash moved r TooHeavy there known taken = rejected_kept Before After c.records c.access h number generation weight hash r c.access there known.0 h known.1 taken (r.generation == generation) refl
  fate_kept number generation weight hash moved r (Preferred victims) there known taken =
      let left = victims_kept Before victims c.records (all_to_back moved c.access) (all_back_kept Before c.records c.access h moved) in
      entered_kept Before After c.records c.access h number generation weight hash r (without_records victims c.records) (without_members victims (all_to_back moved c.access)) there known.0
      (λ k apart. left.sound k) left.once (uncounted_without victims number (all_to_back moved c.access) (counted-all_to_back moved number c.access ∙ known.1)) taken
  fate_kept number generation weight hash moved r Refused there known taken =
      rejected_kept Before After c.records c.access h number generation weight hash r (all_to_back moved c.access) there known.0 (all_back_kept Before c.records c.access h moved) (counted-all_to_back moved number c.access ∙ known.1) taken (r.generation == generation) refl

module _ {K V : Type 0} (capacity : Option ℕ) (policy : EvictionPolicy) where
  -- one write
  pub write_kept : (Before After : Operation → Type 0) (c : Contents K V) (o : Operation) (moved : List ℕ) → IsConsistent Before c.records c.access → TakesIn Before After o → IsConsistent After (after_write capacity policy c o moved).records (after_write capacity policy c o moved).access
  write_kept Before After c (Removal number generation) moved h taken = removal_kept Before After c.records c.access h number generation taken
  write_kept Before After c (Upsert number generation weight hash) moved h taken = found (get c.records number) refl
    where
      found : (o : Option (Record K V)) → get c.records number ≡ o →
          IsConsistent After (option_map_or (λ r. after_fate c number generation weight moved r (option_map_or (fate_of_record capacity policy c number generation weight hash) o Ignored)) o c).records
          (option_map_or (λ r. after_fate c number generation weight moved r (option_map_or (fate_of_record capacity policy c number generation weight hash) o Ignored)) o c).access
      found None there = late_kept Before After c.records c.access h number generation weight hash there taken
      found (Some r) there = fate_kept Before After c h number generation weight hash moved r (fate_of_record capacity policy c number generation weight hash r) there (fate_known capacity policy c number generation weight hash r) taken

  -- all queued writes: afterwards only what was not sent waits
  pub writes_kept : (outstanding : Operations) (c : Contents K V) (hs : List Ticketed) (ms : List (List ℕ)) → IsConsistent (IsWaitingIn outstanding hs) c.records c.access → IsConsistent (IsWaitingIn outstanding []) (after_writes capacity policy c hs ms).records (after_writes capacity policy c hs ms).access
  writes_kept outstanding c [] ms h = h
  writes_kept outstanding c (x ∷ hs) [] h = writes_kept outstanding (after_write capacity policy c x.operation []) hs [] (write_kept (IsWaitingIn outstanding (x ∷ hs)) (IsWaitingIn outstanding hs) c x.operation [] h (takes_front outstanding x hs))
  writes_kept outstanding c (x ∷ hs) (moved ∷ ms) h = writes_kept outstanding (after_write capacity policy c x.operation moved) hs ms (write_kept (IsWaitingIn outstanding (x ∷ hs)) (IsWaitingIn outstanding hs) c x.operation moved h (takes_front outstanding x hs))

module _ {K V : Type 0} (Waits : Operation → Type 0) where
  -- queued reads move members and no more
  pub reads_kept : (c : Contents K V) (rs : List ReadOperation) → IsConsistent Waits c.records c.access → IsConsistent Waits (after_reads c rs).records (after_reads c rs).access
  reads_kept c [] h = h
  reads_kept c (Hit number hash renewed ∷ rs) h = reads_kept (after_read c (Hit number hash renewed)) rs
      (elim (is_some (get c.records number)) as (λ b. IsConsistent Waits c.records (if b then to_back number c.access else c.access)) [ true ↦ back_kept Waits c.records c.access h number | false ↦ h ])
  reads_kept c (Miss hash ∷ rs) h = reads_kept (after_read c (Miss hash)) rs h

  -- one step
  pub choice_kept : (c : Contents K V) (x : Choice) → IsConsistent Waits c.records c.access → IsConsistent Waits (after_choice c x).records (after_choice c x).access
  choice_kept c (Removes n cause) h = leave_kept Waits c.records c.access h n
  choice_kept c (MovesToBack n) h = back_kept Waits c.records c.access h n
  choice_kept c (Drops i) h = h

  -- all steps
  pub choices_kept : (c : Contents K V) (xs : List Choice) → IsConsistent Waits c.records c.access → IsConsistent Waits (after_choices c xs).records (after_choices c xs).access
  choices_kept c [] h = h
  choices_kept c (x ∷ xs) h = choices_kept (after_choice c x) xs (choice_kept c x h)

-- the queues of a run
pub queues_kept : {K V X P W : Type 0} (s : State K V X P W) (ch : Freedom) → IsConsistentState s → IsConsistent (IsWaitingIn s.outstanding []) (before_steps s ch).records (before_steps s ch).access
queues_kept s ch h = writes_kept s.capacity s.settings.policy s.outstanding (after_queued_reads s) s.writes ch.moves (reads_kept (IsWaitingIn s.outstanding s.writes) (contents s) s.reads h)

-- a run, whatever it chooses
pub run_kept : {K V X P W : Type 0} (s : State K V X P W) (ch : Freedom) → IsConsistentState s → IsConsistentState (after_run s ch)
run_kept s ch h = choices_kept (IsWaitingIn s.outstanding []) (before_steps s ch) ch.steps (queues_kept s ch h)
