-- A list of members and a map that have the same numbers have as many, and the same weight if each weighs the same in
-- both.
use Rattle.std.proofs.Common.{◌≡◌, refl, ℕ, ◌+◌, true, ◌==◌, List, [], ◌∷◌, length, Option, Some, None, option_map, is_some, ap, sym, ◌∙◌, inl, inr, arith, nat_cmp, ◌≤◌, ◌<◌, false, map, T, subst, ◌⊎◌, Contains, length-append, ◌++◌}
use Rattle.std.specs.List.{IsDistinct, sum_by, AllByRecursion, list_any}
use Rattle.std.proofs.lemmas.List.Sums.{sum_by-cons}
use Rattle.std.proofs.lemmas.List.Sorted.{sum_by-IsPermutation}
use Rattle.std.specs.FinMap.{get, remove, values, len, keys, entries, entries_sorted, len-entries, contains_key-keys, is_sorted}
use Rattle.moka_parts.proofs.Types.{Record, Member, Records}
use Rattle.moka_records.specs.Records.{counted_of, is_member, numbers_of, total_weight, is_listed}
use Rattle.moka_parts.specs.Exact.{AreExactMembers, weight_of_records}
use Rattle.moka_records.proofs.Maps.{same_or_apart, get_removed, get_past_remove, apart_below, numbers_alike}
use Rattle.moka_records.proofs.Values.{values_removed, empty_map, values-empty}
use Rattle.moka_records.proofs.AccessList.{listed_counted, front_once, rest_once, counted_front, counted_behind}
use Rattle.moka_records.proofs.WriteList.{turned}
use Rattle.std.proofs.lemmas.Map.Made.{length-le_from_is_member}
use Rattle.std.proofs.lemmas.Map.Views.{list_any-from_Contains}
use Rattle.std.proofs.lemmas.List.Folds.{list_any-append}
use Rattle.std.proofs.lemmas.List.{length-map}
use Rattle.std.proofs.lemmas.Bool.{or_left, or_right}
use Rattle.std.specs.Cmp.{unsigned_tied}
use Rattle.moka_parts.proofs.Entries.{all_above}
use Rattle.moka_records.proofs.Lookup.{left_part, right_part}

-- ---- as many

-- a list without a number twice is no longer than one with its numbers, but for those of a third
no_longer : (xs ys ns : List ℕ) → IsDistinct (◌==◌) xs → ((n : ℕ) → is_listed n xs ≡ true → (is_listed n ys ≡ true) ⊎ Contains ns n) → length xs ≤ length ys + length ns
no_longer xs ys ns once among =
    subst (λ l. length xs ≤ l) (length-append ys ns) (length-le_from_is_member numbers_alike xs (ys ++ ns) once (λ n there. list_any-append (λ m. n == m) ys ns ∙ elim (among n (sym (turned n xs) ∙ there)) [
      | inl listed ↦ or_left _ _ (turned n ys ∙ listed)
      | inr c ↦ or_right _ _ (list_any-from_Contains numbers_alike n ns c)
    ]))

keys_once : {X : Type 0} (es : List (ℕ × X)) → T (is_sorted nat_cmp es) → IsDistinct (◌==◌) (map (λ e. e.0) es)
unfolding IsDistinct
keys_once {X} [] s = tt
keys_once {X} (e ∷ es) s = (all_apart es (all_above e.0 es (left_part _ _ s)), keys_once es (right_part _ _ s))
  where
    all_apart : (ds : List (ℕ × X)) → AllByRecursion (λ d. e.0 < d.0) ds → AllByRecursion (λ k. (e.0 == k) ≡ false) (map (λ d. d.0) ds)
    all_apart [] h = tt
    all_apart (d ∷ ds) h = (apart_below e.0 d.0 h.0, all_apart ds h.1)

module _ {K V : Type 0} where
  key_listed : (records : Records K V) (n : ℕ) → is_some (get records n) ≡ is_listed n (keys records)
  key_listed records n = contains_key-keys records n ∙ (λ i. list_any (λ k. (unsigned_tied n k ∙ numbers_alike.symm n k) i) (keys records))

  -- a number that is a record's and no member's, or a member's and no record's, is among these
  abbrev AreAmong : List ℕ → Records K V → List Member → Type 0
  AreAmong ns records access = (n : ℕ) → (is_some (get records n) ≡ is_member n access) ⊎ Contains ns n

  -- then members and records differ in number by no more than there are of these
  pub off_by : (ns : List ℕ) (records : Records K V) (access : List Member) → IsDistinct (◌==◌) (numbers_of access) → AreAmong ns records access → (length access ≤ len records + length ns) × (len records ≤ length access + length ns)
  off_by ns records access once among =
      let members : length (numbers_of access) ≡ length access = length-map access (λ (a : Member). a.number) in
      let numbers : length (keys records) ≡ len records = length-map (entries records) (λ (e : ℕ × Record K V). e.0) ∙ sym (len-entries records) in
      let fewer = no_longer (numbers_of access) (keys records) ns once (λ n listed. elim (among n) [ inl same ↦ inl (sym (key_listed records n) ∙ same ∙ sym (listed_counted n access) ∙ listed) | inr c ↦ inr c ]) in
      let more = no_longer (keys records) (numbers_of access) ns (keys_once (entries records) (entries_sorted records)) (λ n listed. elim (among n) [ inl same ↦ inl (listed_counted n access ∙ sym same ∙ key_listed records n ∙ listed) | inr c ↦ inr c ]) in
      (omega arith, omega arith)

  -- as many members as records
  pub same_numbers : (records : Records K V) (access : List Member) → IsDistinct (◌==◌) (numbers_of access) → ((n : ℕ) → is_some (get records n) ≡ is_member n access) → length access ≡ len records
  same_numbers records access once same = let both = off_by [] records access once (λ n. inl (same n)) in let low = both.0 in let high = both.1 in omega arith

  weight_at : (o : Option (Record K V)) (w : ℕ) → Some w ≡ option_map (λ r. r.weight) o → (r : Record K V) × (o ≡ Some r) × (r.weight ≡ w)
  weight_at None w e = cc
  weight_at (Some r) w e = (r, refl, cc)

  no_weight : (o : Option (Record K V)) → None ≡ option_map (λ r. r.weight) o → o ≡ None
  no_weight None e = refl
  no_weight (Some r) e = cc

  -- the same weight
  pub same_weights : (records : Records K V) (access : List Member) → IsDistinct (◌==◌) (numbers_of access) → ((n : ℕ) → counted_of n access ≡ option_map (λ r. r.weight) (get records n)) → total_weight access ≡ weight_of_records records
  same_weights records [] once same =
      sym (ap weight_of_records (empty_map records (λ n. no_weight (get records n) (same n))) ∙ ap (sum_by (λ (r : Record K V). r.weight)) values-empty)
  same_weights records (a ∷ access) once same =
      let first = weight_at (get records a.number) a.counted (sym (counted_front a access) ∙ same a.number) in
      let rest : total_weight access ≡ weight_of_records (remove records a.number) = same_weights (remove records a.number) access (rest_once a access once) (λ k. elim (same_or_apart k a.number) [
        | inl at ↦ ap (λ n. counted_of n access) at ∙ front_once a access once ∙ sym (ap (option_map (λ (r : Record K V). r.weight)) (get_removed records a.number)) ∙ sym (ap (λ n. option_map (λ (r : Record K V). r.weight) (get (remove records a.number) n)) at)
        | inr apart ↦ sym (counted_behind a access k apart) ∙ same k ∙ sym (ap (option_map (λ (r : Record K V). r.weight)) (get_past_remove records a.number k apart))
      ]) in
      let all : weight_of_records records ≡ sum_by (λ (r : Record K V). r.weight) (first.0 ∷ values (remove records a.number)) = sum_by-IsPermutation (λ (r : Record K V). r.weight) _ _ (values_removed records a.number first.0 first.1) in
      sum_by-cons (λ (m : Member). m.counted) a access ∙ ap (λ n. a.counted + n) rest ∙ ap (λ n. n + weight_of_records (remove records a.number)) (sym first.2) ∙ sym (sum_by-cons (λ (r : Record K V). r.weight) first.0 (values (remove records a.number))) ∙ sym all

  same_presence : (o : Option ℕ) (r : Option (Record K V)) → o ≡ option_map (λ r. r.weight) r → is_some r ≡ is_some o
  same_presence o None e = sym (ap is_some e)
  same_presence o (Some r) e = sym (ap is_some e)

  -- exact members are as many as the records
  pub exact_count : (records : Records K V) (access : List Member) → AreExactMembers records access → length access ≡ len records
  exact_count records access h = same_numbers records access h.once (λ n. same_presence (counted_of n access) (get records n) (h.members n))

  -- and weigh as much
  pub exact_weight : (records : Records K V) (access : List Member) → AreExactMembers records access → total_weight access ≡ weight_of_records records
  exact_weight records access h = same_weights records access h.once h.members
