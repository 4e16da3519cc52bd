-- A record whose present operation was not sent yet stays in every run.
use Rattle.std.proofs.Common.{◌≡◌, refl, ℕ, ◌<◌, Bool, true, false, cond, ◌==◌, ◌-◌, nat_lt, List, [], ◌∷◌, Option, Some, None, Result, option_map, ap, sym, subst, ◌∙◌, inl, inr, true≢false, arith, if◌then◌else◌}
use Rattle.std.specs.Option.{option_map_or}
use Rattle.std.specs.FinMap.{get, insert, remove}
use Rattle.std.specs.List.{AllByRecursion}
use Rattle.std.proofs.lemmas.Bool.{and_parts}
use Rattle.std.proofs.lemmas.Option.{same_Some}
use Rattle.moka_types.specs.declared.policy.EvictionPolicy.{EvictionPolicy}
use Rattle.moka_types.specs.declared.policy.EvictionPolicy.TheVariants.{TinyLfu, Lru}
use Rattle.moka_records.specs.declared.records.Record.{Record}
use Rattle.moka_records.specs.declared.records.Member.{Member}
use Rattle.moka_records.specs.declared.records.Operation.{Operation}
use Rattle.moka_records.specs.declared.records.Operation.TheVariants.{Upsert, Removal}
use Rattle.moka_parts.specs.declared.records.Registered.{Registered}
use Rattle.moka_records.specs.declared.records.Ticketed.{Ticketed}
use Rattle.moka_records.specs.Records.{Records, is_settled, settled_members, is_member, has_room, total_weight}
use Rattle.moka_parts.specs.State.{State, Contents, contents}
use Rattle.moka_parts.specs.Candidates.{prefix, victims_for, is_preferred}
use Rattle.moka_parts.specs.Writes.{Fate, Ignored, Overtaken, Counted, Admitted, TooHeavy, Preferred, Refused, with_applied, without_records, rejected, fate_by_frequency, fate_by_policy, fate_of_newcomer, fate_of_record, after_fate, after_write, after_writes}
use Rattle.moka_parts.specs.Maintenance.{Choice, Removes, MovesToBack, Drops, Freedom, Tests, AreFree, IsJustified, AreJustified, after_choice, after_choices, kept_by_choice, after_queued_reads, at_end, before_steps, tests_of}
use Rattle.moka_records.proofs.Maps.{AreApart, same_or_apart, get_inserted, get_past_insert, get_past_remove, apart_below}
use Rattle.moka_laws.proofs.RunKeeps.{reads_keep}
use Rattle.moka_laws.proofs.Kept.{kept_by_send}
use Rattle.moka_types.specs.declared.error.SendError.{SendError}
use Rattle.moka_parts.specs.Calls.{SendStep}
use Rattle.moka_cache.specs.Unsent.{IsHeld, IsOlder, AreOlder}

-- what each write keeps all keep
pub kept_by_writes : {K V : Type 0} (Holds : Contents K V → Type 0) (capacity : Option ℕ) (policy : EvictionPolicy) (Fit : Operation → Type 0) → ((c : Contents K V) (o : Operation) (moved : List ℕ) → Fit o → Holds c → Holds (after_write capacity policy c o moved)) →
    (c : Contents K V) (hs : List Ticketed) (ms : List (List ℕ)) → AllByRecursion (λ (h : Ticketed). Fit h.operation) hs → Holds c → Holds (after_writes capacity policy c hs ms)
kept_by_writes Holds capacity policy Fit one c [] ms fit holds = holds
kept_by_writes Holds capacity policy Fit one c (x ∷ hs) [] fit holds = kept_by_writes Holds capacity policy Fit one (after_write capacity policy c x.operation []) hs [] fit.1 (one c x.operation [] fit.0 holds)
kept_by_writes Holds capacity policy Fit one c (x ∷ hs) (moved ∷ ms) fit holds = kept_by_writes Holds capacity policy Fit one (after_write capacity policy c x.operation moved) hs ms fit.1 (one c x.operation moved fit.0 holds)

not_equal_back : (a g : ℕ) → a < g → (g == a) ≡ false
not_equal_back a g less = grind arith

module _ {K V : Type 0} (n : ℕ) (r : Record K V) where
  -- so it is not settled
  unsettled : (records : Records K V) → IsHeld n r records → is_settled records n ≡ false
  unsettled records h = rw h.there (apart_below h.applied r.generation h.below)

  apart_from_settled : (records : Records K V) → IsHeld n r records → (k : ℕ) → is_settled records k ≡ true → AreApart n k
  apart_from_settled records h k settled = elim (same_or_apart n k) [
    | inl e ↦ absurd (true≢false (sym settled ∙ sym (ap (is_settled records) e) ∙ unsettled records h))
    | inr apart ↦ apart
  ]

  past_remove : (records : Records K V) (k : ℕ) → AreApart n k → IsHeld n r records → IsHeld n r (remove records k)
  past_remove records k apart h = record { applied = h.applied; there = get_past_remove records k n apart ∙ h.there; below = h.below }

  -- the record is there but for the applied generation, of which this holds
  abbrev pub StandsBy : (ℕ → Type 0) → Records K V → Type 0
  StandsBy Q records = (a : ℕ) × (get records n ≡ Some (record r { applied = a })) × Q a

  -- an operation of a record is noted in it
  pub noted_by : (Q : ℕ → Type 0) (others records : Records K V) (k g : ℕ) (q : Record K V) → get records k ≡ Some q → (k ≡ n → Q g) → StandsBy Q records → StandsBy Q others → StandsBy Q (with_applied others k q g)
  noted_by Q others records k g q there older stands rest = elim (same_or_apart n k) [
    | inl e ↦
        let same : q ≡ record r { applied = stands.0 } = same_Some q (record r { applied = stands.0 }) (sym there ∙ sym (ap (get records) e) ∙ stands.1) in
        (g, ap (get (insert others k (record q { applied = g }))) e ∙ get_inserted others k (record q { applied = g }) ∙ ap (λ (x : Record K V). Some (record x { applied = g })) same, older (sym e))
    | inr apart ↦ (rest.0, get_past_insert others k (record q { applied = g }) n apart ∙ rest.1, rest.2)
  ]

  -- what an operation older than the record is noted in
  noted : (others records : Records K V) (k g : ℕ) (q : Record K V) → get records k ≡ Some q → (k ≡ n → g < r.generation) → IsHeld n r records → IsHeld n r others → IsHeld n r (with_applied others k q g)
  noted others records k g q there older h rest =
      let (applied, is, below) = noted_by (λ a. a < r.generation) others records k g q there older (h.applied, h.there, h.below) (rest.applied, rest.there, rest.below) in
      record { applied = applied; there = is; below = below }

  -- ---- members that leave

  -- none of the members is the record's
  abbrev AreOthers : List Member → Type 0
  AreOthers [] = Unit {0}
  AreOthers (a ∷ members) = AreApart n a.number × AreOthers members

  one_more_other : (a : Member) (members : List Member) (b : Bool) → (b ≡ true → AreApart n a.number) → AreOthers members → AreOthers (cond b (a ∷ members) members)
  one_more_other a members true apart others = (apart refl, others)
  one_more_other a members false apart others = others

  others_settled : (records : Records K V) → IsHeld n r records → (members : List Member) → AreOthers (settled_members records members)
  others_settled records h [] = tt
  others_settled records h (a ∷ members) = one_more_other a (settled_members records members) (is_settled records a.number) (apart_from_settled records h a.number) (others_settled records h members)

  others_front : (a : Member) (front : List Member) (b : Bool) (o : Option (List Member)) → AreApart n a.number → ((behind : List Member) → o ≡ Some behind → AreOthers behind) → (if b then Some [] else option_map (λ front. a ∷ front) o) ≡ Some front → AreOthers front
  others_front a front true o apart rest e = subst AreOthers (same_Some [] front e) tt
  others_front a front false None apart rest e = (let impossible : None ≡ Some front = e in absurd (cc))
  others_front a front false (Some behind) apart rest e = subst AreOthers (same_Some (a ∷ behind) front e) (apart, rest behind refl)

  others_none : (front : List Member) (b : Bool) → (if b then Some [] else None) ≡ Some front → AreOthers front
  others_none front true e = subst AreOthers (same_Some [] front e) tt
  others_none front false e = (let impossible : None ≡ Some front = e in absurd (cc))

  others_prefix : (members : List Member) (w : ℕ) (front : List Member) → prefix members w ≡ Some front → AreOthers members → AreOthers front
  others_prefix [] w front e others = others_none front (w == 0) e
  others_prefix (a ∷ members) w front e others = others_front a front (w == 0) (prefix members (w - a.counted)) others.0 (λ behind is. others_prefix members (w - a.counted) behind is others.1) e

  without_others : (victims : List Member) (records : Records K V) → AreOthers victims → IsHeld n r records → IsHeld n r (without_records victims records)
  without_others [] records others h = h
  without_others (a ∷ victims) records others h = without_others victims (remove records a.number) others.1 (past_remove records a.number others.0 h)

  -- ---- writes

  -- the victims, if there are any, are others
  abbrev SparesIt : Fate → Type 0
  SparesIt (Preferred victims) = AreOthers victims
  SparesIt f = Unit {0}

  fate_spares : (capacity : Option ℕ) (policy : EvictionPolicy) (c : Contents K V) (k g w hash : ℕ) (q : Record K V) → IsHeld n r c.records → SparesIt (fate_of_record capacity policy c k g w hash q)
  fate_spares capacity policy c k g w hash q h = elim (nat_lt q.applied g) as (λ b. SparesIt (if b then (if is_member k c.access then Counted else fate_of_newcomer capacity policy c w hash) else (if is_member k c.access then Overtaken else Ignored))) [
    | true ↦ elim (is_member k c.access) as (λ b. SparesIt (if b then Counted else fate_of_newcomer capacity policy c w hash)) [ true ↦ tt | false ↦ newcomer ]
    | false ↦ elim (is_member k c.access) as (λ b. SparesIt (if b then Overtaken else Ignored)) [ true ↦ tt | false ↦ tt ]
  ]
    where
      by_choice : (o : Option (List Member)) → victims_for c w ≡ o → SparesIt (fate_by_frequency c hash o)
      by_choice None is = tt
      by_choice (Some victims) is = elim (is_preferred c hash victims) as (λ b. SparesIt (if b then Preferred victims else Refused)) [
        | true ↦ others_prefix (settled_members c.records c.access) w victims is (others_settled c.records h c.access)
        | false ↦ tt
      ]

      by_policy : (policy : EvictionPolicy) → SparesIt (fate_by_policy policy c w hash)
      by_policy Lru = tt
      by_policy TinyLfu = by_choice (victims_for c w) refl

      newcomer : SparesIt (fate_of_newcomer capacity policy c w hash)
      newcomer = elim (has_room capacity (total_weight c.access) w) as (λ b. SparesIt (if b then Admitted else (if has_room capacity 0 w then fate_by_policy policy c w hash else TooHeavy))) [
        | true ↦ tt
        | false ↦ elim (has_room capacity 0 w) as (λ b. SparesIt (if b then fate_by_policy policy c w hash else TooHeavy)) [ true ↦ by_policy policy | false ↦ tt ]
      ]

  rejected_holds : (c : Contents K V) (k g : ℕ) (q : Record K V) → get c.records k ≡ Some q → (k ≡ n → g < r.generation) → IsHeld n r c.records → IsHeld n r (rejected k g q c).records
  rejected_holds c k g q there older h = go (q.generation == g) refl
    where
      go : (b : Bool) → (q.generation == g) ≡ b → IsHeld n r (if b then remove c.records k else with_applied c.records k q g)
      go false differs = noted c.records c.records k g q there older h h
      go true same = elim (same_or_apart n k) [
        | inl e ↦
            let is : q ≡ record r { applied = h.applied } = same_Some q (record r { applied = h.applied }) (sym there ∙ sym (ap (get c.records) e) ∙ h.there) in
            absurd (true≢false (sym same ∙ ap (λ (x : Record K V). x.generation == g) is ∙ not_equal_back g r.generation (older (sym e))))
        | inr apart ↦ past_remove c.records k apart h
      ]

  fate_holds : (c : Contents K V) (k g w : ℕ) (moved : List ℕ) (q : Record K V) (f : Fate) → get c.records k ≡ Some q → (k ≡ n → g < r.generation) → SparesIt f → IsHeld n r c.records → IsHeld n r (after_fate c k g w moved q f).records
  fate_holds c k g w moved q Ignored there older spares h = h
  fate_holds c k g w moved q Overtaken there older spares h = h
  fate_holds c k g w moved q Counted there older spares h = noted c.records c.records k g q there older h h
  fate_holds c k g w moved q Admitted there older spares h = noted c.records c.records k g q there older h h
  fate_holds c k g w moved q TooHeavy there older spares h = rejected_holds c k g q there older h
  fate_holds c k g w moved q (Preferred victims) there older spares h = noted (without_records victims c.records) c.records k g q there older h (without_others victims c.records spares h)
  fate_holds c k g w moved q Refused there older spares h = rejected_holds c k g q there older h

  write_holds : (capacity : Option ℕ) (policy : EvictionPolicy) (c : Contents K V) (o : Operation) (moved : List ℕ) → IsOlder n r o → IsHeld n r c.records → IsHeld n r (after_write capacity policy c o moved).records
  write_holds capacity policy c (Removal k g) moved older h = h
  write_holds capacity policy c (Upsert k g w hash) moved older h = found (get c.records k) refl
    where
      found : (o : Option (Record K V)) → get c.records k ≡ o → IsHeld n r (option_map_or (λ q. after_fate c k g w moved q (option_map_or (fate_of_record capacity policy c k g w hash) o Ignored)) o c).records
      found None there = h
      found (Some q) there = fate_holds c k g w moved q (fate_of_record capacity policy c k g w hash q) there older (fate_spares capacity policy c k g w hash q h) h

  -- ---- steps

  module _ {P : Type 0} (says : P → K → V → Bool → Type 0) (q : Tests) where
    choice_holds : (c : Contents K V) (ps : List (Registered P)) (x : Choice) → IsJustified says q c ps x → IsHeld n r c.records → IsHeld n r (after_choice c x).records
    choice_holds c ps (Removes k cause) (gone, there, settled, ground) h = past_remove c.records k (apart_from_settled c.records h k (and_parts (is_member k c.access) (is_settled c.records k) settled).1) h
    choice_holds c ps (MovesToBack k) just h = h
    choice_holds c ps (Drops i) just h = h

    choices_hold : (c : Contents K V) (ps : List (Registered P)) (xs : List Choice) → AreJustified says q c ps xs → IsHeld n r c.records → IsHeld n r (after_choices c xs).records
    choices_hold c ps [] just h = h
    choices_hold c ps (x ∷ xs) (just, rest) h = choices_hold (after_choice c x) (kept_by_choice ps x) xs rest (choice_holds c ps x just h)

-- ---- a run

-- a run holds a record whose queued operations are older
pub run_holds : {K V X P W : Type 0} (says : P → K → V → Bool → Type 0) (n : ℕ) (r : Record K V) (s : State K V X P W) (now : ℕ) (ch : Freedom) → AreFree says s now ch → AreOlder n r s.writes → IsHeld n r s.records → IsHeld n r (at_end s ch).records
run_holds {K} {V} says n r s now ch free older h =
    let read : IsHeld n r (after_queued_reads s).records = subst (IsHeld n r) (sym (reads_keep (contents s) s.reads)) h in
    let written : IsHeld n r (before_steps s ch).records = kept_by_writes (λ (c : Contents K V). IsHeld n r c.records) s.capacity s.settings.policy (IsOlder n r) (write_holds n r s.capacity s.settings.policy) (after_queued_reads s) s.writes ch.moves older read in
    choices_hold n r says (tests_of s now) (before_steps s ch) s.predicates ch.steps free.1 written

-- a send leaves the records
pub send_holds : {K V X P W : Type 0} (s : State K V X P W) (ticket : ℕ) (a : Result (Unit {0}) SendError) (t : State K V X P W) → SendStep s ticket a t → t.records ≡ s.records
send_holds s ticket a t step = kept_by_send (λ x. x.records ≡ s.records) s t refl ticket a (λ o there room. refl) step
