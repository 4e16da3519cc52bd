-- The order of writing is kept by each operation applied and each step of a run.
use Rattle.std.proofs.Common.{◌≡◌, refl, ℕ, ◌<◌, Bool, true, false, ◌==◌, List, [], ◌∷◌, ◌++◌, map, Option, Some, None, is_some, ap, sym, ◌∙◌, subst, ◌⊎◌, inl, inr, arith, append_assoc, if◌then◌else◌, Contains, option_and_then, remove as remove_at}
use Rattle.std.specs.Option.{option_map_or}
use Rattle.std.specs.List.{IsDistinct, AllByRecursion}
use Rattle.std.proofs.lemmas.List.{map-append}
use Rattle.std.proofs.lemmas.List.Elements.{All-from_recursion, All-contains, Contains-append_left, Contains-append_right, Contains-push}
use Rattle.std.specs.FinMap.{get, remove}
use Rattle.moka_laws.proofs.Types.{EvictionPolicy, Record, Member, Ticketed, Operation, Upsert, Removal, ReadOperation, Hit, Miss, Registered, Records, State, Contents, Tests, Choice, Removes, MovesToBack, Drops, Freedom, Fate, Ignored, Overtaken, Counted, Admitted, TooHeavy, Preferred, Refused}
use Rattle.moka_records.specs.Records.{member, counted_of, is_member, is_settled, without_member, without_members, to_back, all_to_back, is_listed, without_number, without_numbers, number_to_back}
use Rattle.moka_parts.specs.State.{contents, keeps_write_list}
use Rattle.moka_parts.specs.Reads.{after_read, after_reads}
use Rattle.moka_parts.specs.Maintenance.{tests_of, after_choice, after_choices, AreJustified, AreFree, after_queued_reads, before_steps, at_end}
use Rattle.moka_parts.specs.Writes.{with_applied, without_records, fate_of_record, after_fate, after_write, after_writes}
use Rattle.moka_parts.specs.Order.{written_if, written_by, IsNewer, written_after_fate, written_after_write, written_after_writes, written_after_choices, write_list_at_end}
use Rattle.moka_records.proofs.Maps.{same_or_apart, get_inserted, get_past_insert, get_removed, get_past_remove}
use Rattle.moka_records.proofs.AccessList.{counted_taken_out, counted-all_to_back, uncounted_without}
use Rattle.moka_laws.proofs.RunKeeps.{Keeps, keeps_fate, keeps_remove, keeps_itself}
use Rattle.moka_laws.proofs.Rises.{Rises, Thins, thins_behind, thins_without_first, thins_each, thins_all}
use Rattle.moka_records.proofs.WriteList.{unlisted_without, once_taken_out, once_pushed, once_moved, once_without}
use Rattle.moka_laws.proofs.InOrder.{AreMembers, members_taken_out, members_moved, members_all_moved, members_both_moved, members_pushed, members_without, settled_moment, settled_at, waiting_at, unsettled_moment, waiting_less, SameOrGone, settled_less, IsLater, IsOrdered, IsLeftOf, left_taken_out, left_unlisted, left_without, newer_left}
use Rattle.moka_laws.proofs.RunKeepsSound.{Known, fate_known}

-- what holds of all of a list holds of each
pub of_each : {A : Type 0} (P : A → Type 0) (xs : List A) → AllByRecursion P xs → (x : A) → Contains xs x → P x
of_each P xs h x there = All-contains P xs x (All-from_recursion P xs h) there

behind_first : (h : Ticketed) (ws : List Ticketed) (q : Ticketed) → Contains ws q → Contains (h ∷ ws) q
behind_first h ws q there = Contains-append_right (h ∷ []) ws q there

first_of : (h : Ticketed) (ws : List Ticketed) → Contains (h ∷ ws) h
first_of h ws = Contains-append_left (h ∷ []) ws h (Contains-push [] h)

-- ---- less

module _ {K V : Type 0} (records : Records K V) (access : List Member) (ns : List ℕ) (ws : List Ticketed) where
  -- without the front of what waits
  front_taken : (h : Ticketed) → IsOrdered records access ns (h ∷ ws) → IsOrdered records access ns ws
  front_taken h o = record {
    once = o.once;
    members = o.members;
    newer = λ q waits. o.newer q (behind_first h ws q waits);
    rises = thins_each (settled_at records) (settled_at records) ns (waiting_at records h ∷ map (waiting_at records) ws) (map (waiting_at records) ws) (λ k. inl refl)
        (thins_without_first (waiting_at records h) (map (waiting_at records) ws) (map (waiting_at records) ws) (λ low r. r)) 0 o.rises;
    later = o.later.1;
  }

  -- without one number, whose record may leave
  number_taken : (n : ℕ) (after : Records K V) → SameOrGone n records after → Keeps records after → ((p : Operation) → IsNewer records p → IsNewer after p) → IsOrdered records access ns ws → IsOrdered after (without_member n access) (without_number n ns) ws
  number_taken n after others keeps newer o = record {
    once = once_taken_out n ns o.once;
    members = members_taken_out ns access o.members n;
    newer = λ q waits. newer q.operation (o.newer q waits);
    rises = left_taken_out n ns (settled_at records) (settled_at after) (map (waiting_at records) ws) (map (waiting_at after) ws) (settled_less n records after others) (thins_all (waiting_at records) (waiting_at after) ws (waiting_less records after keeps)) 0 o.rises;
    later = o.later;
  }

-- ---- an upsert of a record in the map

module _ {K V : Type 0} (records after : Records K V) (access : List Member) (ns : List ℕ) (h : Ticketed) (ws : List Ticketed) (n g w x : ℕ) (r : Record K V)
    (is : h.operation ≡ Upsert n g w x) (there : get records n ≡ Some r) (o : IsOrdered records access ns (h ∷ ws))
    (keeps : Keeps records after) (others : SameOrGone n records after) where
  -- what waits behind it
  newer_behind : (get after n ≡ None) ⊎ (get after n ≡ Some (record r { applied = g })) → (q : Ticketed) → Contains ws q → IsNewer after q.operation
  newer_behind own q waits = go q.operation (o.newer q (behind_first h ws q waits)) (subst (λ (p : Operation). IsLater p q.operation) is (of_each (λ (p : Ticketed). IsLater h.operation p.operation) ws o.later.0 q waits))
    where
      itself : (k : ℕ) (own : (get after n ≡ None) ⊎ (get after n ≡ Some (record r { applied = g }))) (p : Record K V) → g < k → get after n ≡ Some p → p.applied < k
      itself k (inl none) p lt at = cc
      itself k (inr one) p lt at = (let both : Some (record r { applied = g }) ≡ Some p = sym one ∙ at in let same : record r { applied = g } ≡ p = cc in let seen : g ≡ p.applied = ap (λ (z : Record K V). z.applied) same in omega arith)

      other : (m k : ℕ) → (get after m ≡ get records m) ⊎ (get after m ≡ None) → ((p : Record K V) → get records m ≡ Some p → p.applied < k) → (p : Record K V) → get after m ≡ Some p → p.applied < k
      other m k (inl same) old p at = old p (sym same ∙ at)
      other m k (inr none) old p at = cc

      go : (p : Operation) → IsNewer records p → IsLater (Upsert n g w x) p → IsNewer after p
      go (Removal m k) old later = tt
      go (Upsert m k v y) old later = λ p at. elim (same_or_apart m n) [
        | inl same ↦ itself k own p (later (sym same)) (ap (get after) (sym same) ∙ at)
        | inr apart ↦ other m k (others m apart) old p at
      ]

  moments_behind : Thins (map (waiting_at records) ws) (map (waiting_at after) ws)
  moments_behind = thins_all (waiting_at records) (waiting_at after) ws (waiting_less records after keeps)

  -- it stands at the back of both lists
  pub enters : (left : List ℕ) (members : List Member) → get after n ≡ Some (record r { applied = g }) → IsLeftOf n ns left → IsDistinct (◌==◌) left → AreMembers left members → counted_of n members ≡ None →
      IsOrdered after (members ++ member n w ∷ []) (left ++ n ∷ []) ws
  enters left members own is_left once are absent = record {
    once = once_pushed n left once (are n ∙ ap is_some absent);
    members = members_pushed left members are n w absent;
    newer = newer_behind (inr own);
    rises = subst (Rises 0) (sym moved) (is_left (settled_at records) (settled_at after) (waiting_at records h ∷ map (waiting_at records) ws) (settled_at after n ∷ map (waiting_at after) ws)
        (settled_less n records after others) (subst (λ m. Thins (waiting_at records h ∷ map (waiting_at records) ws) (m ∷ map (waiting_at after) ws)) (sym moment) (thins_behind (waiting_at records h) (map (waiting_at records) ws) (map (waiting_at after) ws) moments_behind)) 0 o.rises);
    later = o.later.1;
  }
    where
      moment : settled_at after n ≡ waiting_at records h
      moment = ap settled_moment own ∙ sym (ap (option_and_then (written_if records g)) there) ∙ sym (ap (written_by records) is)

      moved : map (settled_at after) (left ++ n ∷ []) ++ map (waiting_at after) ws ≡ map (settled_at after) left ++ settled_at after n ∷ map (waiting_at after) ws
      moved = ap (λ ms. ms ++ map (waiting_at after) ws) (map-append (settled_at after) left (n ∷ [])) ∙ append_assoc (map (settled_at after) left) (settled_at after n ∷ []) (map (waiting_at after) ws)

  -- it is in neither
  pub stays_out : (left : List ℕ) (members : List Member) → (get after n ≡ None) ⊎ (get after n ≡ Some (record r { applied = g })) → IsLeftOf n ns left → IsDistinct (◌==◌) left → AreMembers left members → IsOrdered after members left ws
  stays_out left members own is_left once are = record {
    once = once;
    members = are;
    newer = newer_behind own;
    rises = is_left (settled_at records) (settled_at after) (waiting_at records h ∷ map (waiting_at records) ws) (map (waiting_at after) ws)
        (settled_less n records after others) (thins_without_first (waiting_at records h) (map (waiting_at records) ws) (map (waiting_at after) ws) moments_behind) 0 o.rises;
    later = o.later.1;
  }

-- ---- one operation applied

gone_or_same : {K V : Type 0} (gone : List Member) (records : Records K V) (k : ℕ) → (get (without_records gone records) k ≡ get records k) ⊎ (get (without_records gone records) k ≡ None)
gone_or_same [] records k = inl refl
gone_or_same (a ∷ gone) records k = elim (gone_or_same gone (remove records a.number) k) [
  | inr none ↦ inr none
  | inl same ↦ elim (same_or_apart k a.number) [
    | inl at ↦ inr (same ∙ ap (get (remove records a.number)) at ∙ get_removed records a.number)
    | inr apart ↦ inl (same ∙ get_past_remove records a.number k apart)
  ]
]

module _ {K V : Type 0} (capacity : Option ℕ) (policy : EvictionPolicy) (c : Contents K V) (ns : List ℕ) (h : Ticketed) (ws : List Ticketed) (moved : List ℕ) (o : IsOrdered c.records c.access ns (h ∷ ws)) where
  module _ (n g w x : ℕ) (r : Record K V) (is : h.operation ≡ Upsert n g w x) (there : get c.records n ≡ Some r) where
    abbrev IsOrderedAfter : Fate → Type 0
    IsOrderedAfter f = IsOrdered (after_fate c n g w moved r f).records (after_fate c n g w moved r f).access (written_after_fate true n ns f) ws

    abbrev seen : Record K V
    seen = record r { applied = g }

    put_others : SameOrGone n c.records (with_applied c.records n r g)
    put_others k apart = inl (get_past_insert c.records n seen k apart)

    -- of a member
    counted_ordered : is_member n c.access ≡ true → IsOrderedAfter Counted
    counted_ordered is_there =
        subst (λ b. IsOrdered (with_applied c.records n r g) (without_member n c.access ++ member n w ∷ []) (if b then without_number n ns ++ n ∷ [] else ns) ws) (sym (o.members n ∙ is_there))
        (enters c.records (with_applied c.records n r g) c.access ns h ws n g w x r is there o (keeps_fate c n g w moved r Counted there) put_others
        (without_number n ns) (without_member n c.access) (get_inserted c.records n seen) (left_taken_out n ns) (once_taken_out n ns o.once) (members_taken_out ns c.access o.members n) (counted_taken_out n c.access))

    module _ (uncounted : counted_of n c.access ≡ None) where
      unlisted : is_listed n ns ≡ false
      unlisted = o.members n ∙ ap is_some uncounted

      admitted_ordered : IsOrderedAfter Admitted
      admitted_ordered = enters c.records (with_applied c.records n r g) c.access ns h ws n g w x r is there o (keeps_fate c n g w moved r Admitted there) put_others
          ns c.access (get_inserted c.records n seen) (left_unlisted n ns unlisted) o.once o.members uncounted

      -- rejected, and perhaps gone
      rejected_ordered : (access : List Member) → AreMembers ns access → (b : Bool) → Keeps c.records (if b then remove c.records n else with_applied c.records n r g) → IsOrdered (if b then remove c.records n else with_applied c.records n r g) access ns ws
      rejected_ordered access are true keeps = stays_out c.records (remove c.records n) c.access ns h ws n g w x r is there o keeps (λ k apart. inl (get_past_remove c.records n k apart))
          ns access (inl (get_removed c.records n)) (left_unlisted n ns unlisted) o.once are
      rejected_ordered access are false keeps = stays_out c.records (with_applied c.records n r g) c.access ns h ws n g w x r is there o keeps put_others
          ns access (inr (get_inserted c.records n seen)) (left_unlisted n ns unlisted) o.once are

      preferred_ordered : (victims : List Member) → IsOrderedAfter (Preferred victims)
      preferred_ordered victims =
          enters c.records (with_applied (without_records victims c.records) n r g) c.access ns h ws n g w x r is there o (keeps_fate c n g w moved r (Preferred victims) there)
          (λ k apart. elim (gone_or_same victims c.records k) [ inl same ↦ inl (get_past_insert (without_records victims c.records) n seen k apart ∙ same) | inr none ↦ inr (get_past_insert (without_records victims c.records) n seen k apart ∙ none) ])
          (without_numbers victims ns) (without_members victims (all_to_back moved c.access)) (get_inserted (without_records victims c.records) n seen)
          (left_without victims n ns (unlisted_without victims n ns unlisted)) (once_without victims ns o.once) (members_without victims ns (all_to_back moved c.access) (members_all_moved ns c.access o.members moved))
          (uncounted_without victims n (all_to_back moved c.access) (counted-all_to_back moved n c.access ∙ uncounted))

    -- with whatever fate
    fate_ordered : (f : Fate) → r.applied < g → Known c n g w r f → IsOrderedAfter f
    fate_ordered Ignored newer known = absurd (omega arith)
    fate_ordered Overtaken newer known = absurd (omega arith)
    fate_ordered Counted newer known = counted_ordered known.1
    fate_ordered Admitted newer known = admitted_ordered known.1
    fate_ordered TooHeavy newer known = rejected_ordered known.1 c.access o.members (r.generation == g) (keeps_fate c n g w moved r TooHeavy there)
    fate_ordered (Preferred victims) newer known = preferred_ordered known.1 victims
    fate_ordered Refused newer known = rejected_ordered known.1 (all_to_back moved c.access) (members_all_moved ns c.access o.members moved) (r.generation == g) (keeps_fate c n g w moved r Refused there)

  -- whatever it is
  pub write_ordered : (p : Operation) → h.operation ≡ p → IsOrdered (after_write capacity policy c p moved).records (after_write capacity policy c p moved).access (written_after_write true capacity policy c ns p) ws
  write_ordered (Removal n g) is = number_taken c.records c.access ns ws n c.records (λ k apart. inl refl) (keeps_itself c.records) (λ p old. old) (front_taken c.records c.access ns ws h o)
  write_ordered (Upsert n g w x) is = found (get c.records n) refl
    where
      found : (v : Option (Record K V)) → get c.records n ≡ v →
          IsOrdered (option_map_or (λ r. after_fate c n g w moved r (option_map_or (fate_of_record capacity policy c n g w x) v Ignored)) v c).records
          (option_map_or (λ r. after_fate c n g w moved r (option_map_or (fate_of_record capacity policy c n g w x) v Ignored)) v c).access
          (written_after_fate true n ns (option_map_or (fate_of_record capacity policy c n g w x) v Ignored)) ws
      found None there = front_taken c.records c.access ns ws h o
      found (Some r) there = fate_ordered n g w x r is there (fate_of_record capacity policy c n g w x r) (subst (IsNewer c.records) is (o.newer h (first_of h ws)) r there) (fate_known capacity policy c n g w x r)

-- ---- the queues and the steps of a run

module _ {K V : Type 0} (capacity : Option ℕ) (policy : EvictionPolicy) where
  -- all queued writes, while others wait behind them
  pub writes_ordered : (c : Contents K V) (ns : List ℕ) (hs : List Ticketed) (ms : List (List ℕ)) (ws : List Ticketed) → IsOrdered c.records c.access ns (hs ++ ws) →
      IsOrdered (after_writes capacity policy c hs ms).records (after_writes capacity policy c hs ms).access (written_after_writes true capacity policy c ns hs ms) ws
  writes_ordered c ns [] ms ws o = o
  writes_ordered c ns (h ∷ hs) [] ws o = writes_ordered (after_write capacity policy c h.operation []) (written_after_write true capacity policy c ns h.operation) hs [] ws (write_ordered capacity policy c ns h (hs ++ ws) [] o h.operation refl)
  writes_ordered c ns (h ∷ hs) (moved ∷ ms) ws o = writes_ordered (after_write capacity policy c h.operation moved) (written_after_write true capacity policy c ns h.operation) hs ms ws (write_ordered capacity policy c ns h (hs ++ ws) moved o h.operation refl)

module _ {K V : Type 0} (ns : List ℕ) (ws : List Ticketed) where
  -- other members in the same list
  pub other_members : (records : Records K V) (access after : List Member) → AreMembers ns after → IsOrdered records access ns ws → IsOrdered records after ns ws
  other_members records access after are o = record { once = o.once; members = are; newer = o.newer; rises = o.rises; later = o.later }

  read_ordered : (c : Contents K V) (n : ℕ) (b : Bool) → IsOrdered c.records c.access ns ws → IsOrdered c.records (if b then to_back n c.access else c.access) ns ws
  read_ordered c n true o = other_members c.records c.access (to_back n c.access) (members_moved ns c.access o.members n) o
  read_ordered c n false o = o

  -- queued reads
  pub reads_ordered : (c : Contents K V) (rs : List ReadOperation) → IsOrdered c.records c.access ns ws → IsOrdered (after_reads c rs).records (after_reads c rs).access ns ws
  reads_ordered c [] o = o
  reads_ordered c (Hit n hash renewed ∷ rs) o = reads_ordered (after_read c (Hit n hash renewed)) rs (read_ordered c n (is_some (get c.records n)) o)
  reads_ordered c (Miss hash ∷ rs) o = reads_ordered (after_read c (Miss hash)) rs o

module _ {K V P : Type 0} (says : P → K → V → Bool → Type 0) (q : Tests) (ws : List Ticketed) where
  -- an unsettled member goes to the back
  back_ordered : (c : Contents K V) (ns : List ℕ) (n : ℕ) → is_settled c.records n ≡ false → IsOrdered c.records c.access ns ws → IsOrdered c.records (to_back n c.access) (number_to_back n ns) ws
  back_ordered c ns n unsettled o = record {
    once = once_moved n ns o.once;
    members = members_both_moved ns c.access o.members n;
    newer = o.newer;
    rises = go (is_listed n ns);
    later = o.later;
  }
    where
      at_back : map (settled_at c.records) (without_number n ns ++ n ∷ []) ++ map (waiting_at c.records) ws ≡ map (settled_at c.records) (without_number n ns) ++ None ∷ map (waiting_at c.records) ws
      at_back = ap (λ xs. xs ++ map (waiting_at c.records) ws) (map-append (settled_at c.records) (without_number n ns) (n ∷ [])) ∙ append_assoc (map (settled_at c.records) (without_number n ns)) (settled_at c.records n ∷ []) (map (waiting_at c.records) ws)
          ∙ ap (λ m. map (settled_at c.records) (without_number n ns) ++ m ∷ map (waiting_at c.records) ws) (unsettled_moment (get c.records n) unsettled)

      go : (b : Bool) → Rises 0 (map (settled_at c.records) (if b then without_number n ns ++ n ∷ [] else ns) ++ map (waiting_at c.records) ws)
      go false = o.rises
      go true = subst (Rises 0) (sym at_back) (left_taken_out n ns (settled_at c.records) (settled_at c.records) (map (waiting_at c.records) ws) (None ∷ map (waiting_at c.records) ws) (λ k apart. inl refl) (λ low r. r) 0 o.rises)

  -- all steps that a run may take
  pub choices_ordered : (c : Contents K V) (ps : List (Registered P)) (ns : List ℕ) (xs : List Choice) → AreJustified says q c ps xs → IsOrdered c.records c.access ns ws →
      IsOrdered (after_choices c xs).records (after_choices c xs).access (written_after_choices ns xs) ws
  choices_ordered c ps ns [] may o = o
  choices_ordered c ps ns (Removes n cause ∷ xs) may o = choices_ordered (after_choice c (Removes n cause)) ps (without_number n ns) xs may.1 (number_taken c.records c.access ns ws n (remove c.records n) (λ k apart. inl (get_past_remove c.records n k apart)) (keeps_remove c.records n) (newer_left c.records n) o)
  choices_ordered c ps ns (MovesToBack n ∷ xs) may o = choices_ordered (after_choice c (MovesToBack n)) ps (number_to_back n ns) xs may.1 (back_ordered c ns n may.0.1 o)
  choices_ordered c ps ns (Drops i ∷ xs) may o = choices_ordered c (remove_at ps i) ns xs may.1 o

-- a run
pub run_ordered : {K V X P W : Type 0} (says : P → K → V → Bool → Type 0) (s : State K V X P W) (now : ℕ) (ns : List ℕ) (ch : Freedom) (ws : List Ticketed) → keeps_write_list s.settings ≡ true → AreFree says s now ch → IsOrdered s.records s.access ns (s.writes ++ ws) →
    IsOrdered (at_end s ch).records (at_end s ch).access (write_list_at_end s ns ch) ws
run_ordered says s now ns ch ws kept free o =
    subst (λ b. IsOrdered (at_end s ch).records (at_end s ch).access (written_after_choices (written_after_writes b s.capacity s.settings.policy (after_queued_reads s) ns s.writes ch.moves) ch.steps) ws) (sym kept)
    (choices_ordered says (tests_of s now) ws (before_steps s ch) s.predicates (written_after_writes true s.capacity s.settings.policy (after_queued_reads s) ns s.writes ch.moves) ch.steps free.1
    (writes_ordered s.capacity s.settings.policy (after_queued_reads s) ns s.writes ch.moves ws (reads_ordered ns (s.writes ++ ws) (contents s) s.reads o)))
