-- What a run leaves of counts and weights: exact where all was sent, and off by at most the operations not sent.
use Rattle.std.proofs.Common.{◌≡◌, refl, ℕ, ◌+◌, ◌<◌, ◌≤◌, Bool, true, false, min, List, [], ◌∷◌, map, length, Option, Some, None, option_map, is_some, ap, sym, subst, ◌∙◌, ◌⊎◌, inl, inr, arith, Contains, nat_cmp}
use Rattle.std.proofs.lemmas.List.{length-map}
use Rattle.std.specs.List.{IsDistinct}
use Rattle.std.specs.Option.{option_map_or}
use Rattle.std.proofs.lemmas.List.Elements.{Contains-append_left, Contains-push}
use Rattle.std.proofs.lemmas.List.Sorted.{IsPermutation-map, Contains-permutation}
use Rattle.std.specs.FinMap.{get, remove, empty, values, entries, len, len-entries, get-empty}
use Rattle.moka_laws.proofs.Types.{Record, Member, Operation, Upsert, Removal, Records, Operations, State, Freedom}
use Rattle.moka_records.specs.Time.{greatest}
use Rattle.moka_records.specs.Records.{counted_of, is_applied, is_member, is_settled, total_weight}
use Rattle.moka_parts.specs.Maintenance.{after_run, at_end}
use Rattle.moka_parts.specs.Exact.{AreExactMembers, IsExact}
use Rattle.moka_parts.specs.Settling.{number_of, IsSound, IsConsistent, IsConsistentState, IsWaitingIn, IsBare, IsAllSent, IsTracked}
use Rattle.moka_parts.specs.Laws.{EndsExact, IsNear, CountsNearly}
use Rattle.moka_records.proofs.Maps.{same_by_test, nothing_at, same_by_order}
use Rattle.moka_records.proofs.Values.{values_removed}
use Rattle.moka_parts.proofs.Counting.{exact_count, exact_weight, off_by}
use Rattle.moka_laws.proofs.RunKeepsSound.{run_kept}
use Rattle.moka_laws.proofs.Kept.{run_cases}

-- ---- all was sent

-- where nothing waits, a record's present operation was applied
pub all_applied : {K V : Type 0} (Waits : Operation → Type 0) (n : ℕ) (r : Record K V) (counted : Option ℕ) → IsTracked Waits n r counted → ((o : Operation) → Waits o → ⊥) → is_applied r ≡ true
all_applied Waits n r counted s none = same_by_order r.applied r.generation s.applied (λ below. let p = s.pending below in none (Upsert n r.generation r.weight p.0) p.1)

-- members are exact
pub exact_when_nothing_waits : {K V : Type 0} (Waits : Operation → Type 0) (records : Records K V) (access : List Member) → IsConsistent Waits records access → ((o : Operation) → Waits o → ⊥) → AreExactMembers records access
exact_when_nothing_waits {K} {V} Waits records access h none = record { once = h.once; members = λ n. go n (get records n) (counted_of n access) (h.sound n) }
  where
    go : (n : ℕ) (o : Option (Record K V)) (counted : Option ℕ) → IsSound Waits n o counted → counted ≡ option_map (λ r. r.weight) o
    go n None None s = refl
    go n None (Some w) s = absurd (none (Removal n s.0) s.1)
    go n (Some r) None s = let p = s.pending (s.outside refl) in absurd (none (Upsert n r.generation r.weight p.0) p.1)
    go n (Some r) (Some w) s = ap Some (s.weighed w refl (same_by_test r.applied r.generation (all_applied Waits n r (Some w) s none)))

-- where every operation was sent, none waits after a run
pub nothing_waits : (outstanding : Operations) → outstanding ≡ empty → (o : Operation) → IsWaitingIn outstanding [] o → ⊥
nothing_waits outstanding all o (inl p) = nothing_at p.0 o (sym (ap (λ m. get m p.0) all) ∙ p.1)
nothing_waits outstanding all o (inr q) = let below : q.1.0 < 0 = q.1.1 in absurd (omega arith)

-- where nothing waits, every member is settled
pub all_settled : {K V : Type 0} (Waits : Operation → Type 0) (records : Records K V) (access : List Member) → IsConsistent Waits records access → ((o : Operation) → Waits o → ⊥) → (n : ℕ) → is_member n access ≡ true → is_settled records n ≡ true
all_settled {K} {V} Waits records access h none n there = go (get records n) (counted_of n access) (h.sound n) there
  where
    go : (o : Option (Record K V)) (counted : Option ℕ) → IsSound Waits n o counted → is_some counted ≡ true → option_map_or is_applied o false ≡ true
    go None None s there = cc
    go None (Some w) s there = absurd (none (Removal n s.0) s.1)
    go (Some r) counted s there = all_applied Waits n r counted s none

-- after a run with every operation sent, counts and weights are exactly the records'
pub run_is_exact : {K V X P W : Type 0} (s : State K V X P W) (ch : Freedom) → IsConsistentState s → IsAllSent s → IsExact (after_run s ch)
run_is_exact s ch h all =
    let exact = exact_when_nothing_waits (IsWaitingIn s.outstanding []) (at_end s ch).records (at_end s ch).access (run_kept s ch h) (nothing_waits s.outstanding all) in
    record {
      exact = exact;
      count = exact_count (at_end s ch).records (at_end s ch).access exact;
      weight = ap (λ w. min w greatest) (exact_weight (at_end s ch).records (at_end s ch).access exact);
    }

-- a bare state is exact
pub bare_is_exact : {K V X P W : Type 0} (s : State K V X P W) → IsBare s.records s.access s.count s.weight → IsExact s
unfolding IsDistinct
bare_is_exact {K} {V} s bare =
    let exact : AreExactMembers s.records s.access = rw (bare.no_records, bare.no_members) none in
    record {
      exact = exact;
      count = bare.no_count ∙ sym (ap length bare.no_members) ∙ exact_count s.records s.access exact;
      weight = bare.no_weight ∙ sym (ap (λ members. min (total_weight members) greatest) bare.no_members) ∙ ap (λ w. min w greatest) (exact_weight s.records s.access exact);
    }
  where
    none : AreExactMembers {K = K} {V = V} empty []
    none = record { once = tt; members = λ n. sym (ap (option_map (λ (r : Record K V). r.weight)) (get-empty nat_cmp n)) }

-- a run of the reference cache from a valid state with every operation sent
pub ends_exact : {K V P : Type 0} (X W : Type 0) (eq : K → K → Bool) (says : P → K → V → Bool → Type 0) → EndsExact X W eq says
ends_exact X W eq says s terms course notices t h all run =
    run_cases (IsExact t) s t _ says terms course notices (λ off nothing. subst IsExact (sym nothing.0) (bare_is_exact s (h.numbered.disabled off))) (λ ch on by done. subst IsExact (sym by.1) (run_is_exact s ch h.consistent all)) run.0

-- ---- some was not

-- the numbers of the operations not sent
abbrev pub numbers_waiting : Operations → List ℕ
numbers_waiting outstanding = map number_of (values outstanding)

number_waits : (outstanding : Operations) (ticket : ℕ) (o : Operation) → get outstanding ticket ≡ Some o → Contains (numbers_waiting outstanding) (number_of o)
number_waits outstanding ticket o there =
    Contains-permutation (number_of o ∷ map number_of (values (remove outstanding ticket))) (numbers_waiting outstanding) (number_of o)
    (IsPermutation-map number_of (o ∷ values (remove outstanding ticket)) (values outstanding) (values_removed outstanding ticket o there))
    (Contains-append_left (number_of o ∷ []) (map number_of (values (remove outstanding ticket))) (number_of o) (Contains-push [] (number_of o)))

unsent : (outstanding : Operations) (o : Operation) → IsWaitingIn outstanding [] o → Contains (numbers_waiting outstanding) (number_of o)
unsent outstanding o (inl p) = number_waits outstanding p.0 o p.1
unsent outstanding o (inr q) = let below : q.1.0 < 0 = q.1.1 in absurd (omega arith)

-- where nothing is queued, members and records differ in number by no more than the operations not sent
pub count_is_near : {K V : Type 0} (outstanding : Operations) (records : Records K V) (access : List Member) → IsConsistent (IsWaitingIn outstanding []) records access → (length access ≤ len records + len outstanding) × (len records ≤ length access + len outstanding)
count_is_near {K} {V} outstanding records access h =
    let as_many : length (numbers_waiting outstanding) ≡ len outstanding = length-map (values outstanding) number_of ∙ length-map (entries outstanding) (λ (e : ℕ × Operation). e.1) ∙ sym (len-entries outstanding) in
    rw (← as_many) (off_by (numbers_waiting outstanding) records access h.once (λ n. go n (get records n) (counted_of n access) (h.sound n)))
  where
    go : (n : ℕ) (o : Option (Record K V)) (counted : Option ℕ) → IsSound (IsWaitingIn outstanding []) n o counted → (is_some o ≡ is_some counted) ⊎ Contains (numbers_waiting outstanding) n
    go n None None s = inl refl
    go n None (Some w) s = inr (unsent outstanding (Removal n s.0) s.1)
    go n (Some r) None s = let p = s.pending (s.outside refl) in inr (unsent outstanding (Upsert n r.generation r.weight p.0) p.1)
    go n (Some r) (Some w) s = inl refl

-- after any run the reported count is off by no more than the operations not sent
pub run_count_is_near : {K V X P W : Type 0} (s : State K V X P W) (ch : Freedom) → IsConsistentState s → IsNear (after_run s ch)
run_count_is_near s ch h = count_is_near s.outstanding (at_end s ch).records (at_end s ch).access (run_kept s ch h)

-- after a run of the reference cache from a valid state
pub counts_nearly : {K V P : Type 0} (X W : Type 0) (eq : K → K → Bool) (says : P → K → V → Bool → Type 0) → CountsNearly X W eq says
counts_nearly {K} {V} {P} X W eq says s terms course notices t h run =
    run_cases (IsNear t) s t _ says terms course notices
    (λ off nothing. subst IsNear (sym nothing.0) (let exact = bare_is_exact s (h.numbered.disabled off) in let same = exact.count in (omega arith, omega arith)))
    (λ ch on by done. subst IsNear (sym by.1) (run_count_is_near s ch h.consistent)) run.0
