-- What is found by a key stands at its number.
use Rattle.std.proofs.Common.{◌≡◌, refl, ℕ, Bool, true, false, cond, T, ◌&&◌, map, List, [], ◌∷◌, Option, Some, None, ap, sym, ◌∙◌, find, unwrap_or, is_lt, is_eq, Ordering, Less, Equal, Greater, true≢false}
use Rattle.std.specs.Ordering.{nat_cmp, eq_by_cmp}
use Rattle.std.specs.Cmp.{nat_cmp_total, eq_by_cmp_equiv, IsEquivalence}
use Rattle.std.specs.FinMap.{get, empty, entries, entries_sorted, get-entries, is_sorted}
use Rattle.std.specs.FinMap.Entries.{below_all}
use Rattle.std.specs.FinMap as finite
use Rattle.moka_records.proofs.Maps.{one_by_order, entries-empty}
use Rattle.moka_records.specs.declared.records.Record.{Record}
use Rattle.moka_records.specs.Records.{Records, record_of_key}

pub left_part : (a b : Bool) → T (a && b) → T a
left_part true b p = tt
left_part false b p = p

pub right_part : (a b : Bool) → T (a && b) → T b
right_part true b p = p
right_part false b p = absurd p

not_equal : (r : Ordering) → T (is_lt r) → is_eq r ≡ false
not_equal Less p = refl
not_equal Equal p = absurd p
not_equal Greater p = absurd p

none_below : {X : Type 0} (k : ℕ) (es : List (ℕ × X)) → T (below_all nat_cmp k es) → finite.find nat_cmp k es ≡ None
none_below k [] h = refl
none_below k (e ∷ es) h = ap (λ b. cond b (Some e.1) (finite.find nat_cmp k es)) (not_equal (nat_cmp k e.0) (left_part _ _ h)) ∙ none_below k es (right_part _ _ h)

-- an entry behind the first has another key
pub found_behind : {X : Type 0} (n k : ℕ) (v x : X) (es : List (ℕ × X)) → T (below_all nat_cmp k es) → finite.find nat_cmp n es ≡ Some x → (b : Bool) → eq_by_cmp nat_cmp n k ≡ b → cond b (Some v) (finite.find nat_cmp n es) ≡ Some x
found_behind n k v x es h e true same =
    let one : n ≡ k = one_by_order n k same in
    let none : finite.find nat_cmp n es ≡ None = ap (λ m. finite.find nat_cmp m es) one ∙ none_below k es h in
    let no : Some x ≡ None = sym e ∙ none in
    cc
found_behind n k v x es h e false same = e

find_value : {X : Type 0} (p : X → Bool) (es : List (ℕ × X)) (x : X) → T (is_sorted nat_cmp es) → find p (map (λ e. e.1) es) ≡ Some x → (n : ℕ) × (finite.find nat_cmp n es ≡ Some x) × (p x ≡ true)
find_value p [] x s e = cc
find_value {X} p (d ∷ es) x s e =
    elim (p d.1) as (λ b. p d.1 ≡ b → cond b (Some d.1) (find p (map (λ e. e.1) es)) ≡ Some x → (n : ℕ) × (finite.find nat_cmp n (d ∷ es) ≡ Some x) × (p x ≡ true)) [
      | true ↦ λ yes here.
          let same : d.1 ≡ x = ap (λ o. unwrap_or o d.1) here in
          (d.0, at_itself d.0 d.1 (finite.find nat_cmp d.0 es) ∙ here, ap p (sym same) ∙ yes)
      | false ↦ λ no there.
          let rest = find_value p es x (right_part _ _ s) there in
          (rest.0, found_behind rest.0 d.0 d.1 x es (left_part _ _ s) rest.1 (eq_by_cmp nat_cmp rest.0 d.0) refl, rest.2)
    ] refl e
  where
    at_itself : (k : ℕ) (v : X) (o : Option X) → cond (eq_by_cmp nat_cmp k k) (Some v) o ≡ Some v
    at_itself k v o = ap (λ b. cond b (Some v) o) ((eq_by_cmp_equiv nat_cmp_total).refl k)

-- an empty map has no key
pub record_of_key_empty : {K V : Type 0} (eq : K → K → Bool) (key : K) → record_of_key {K = K} {V = V} eq empty key ≡ None
record_of_key_empty {K} {V} eq key = ap (λ (es : List (ℕ × Record K V)). find (λ r. eq key r.key) (map (λ e. e.1) es)) entries-empty

-- the record of a key stands at some number
pub record_of_key_found : {K V : Type 0} (eq : K → K → Bool) (records : Records K V) (key : K) (r : Record K V) → record_of_key eq records key ≡ Some r → (n : ℕ) × (get records n ≡ Some r) × (eq key r.key ≡ true)
record_of_key_found eq records key r e =
    let found = find_value (λ r. eq key r.key) (entries records) r (entries_sorted records) e in
    (found.0, get-entries records found.0 ∙ found.1, found.2)

-- ---- a key and its record

-- what stands at a number passes no test that nothing passes
none_passes : {X : Type 0} (p : X → Bool) (es : List (ℕ × X)) (n : ℕ) (x : X) → find p (map (λ e. e.1) es) ≡ None → finite.find nat_cmp n es ≡ Some x → p x ≡ false
none_passes p [] n x none there = cc
none_passes {X} p (e ∷ es) n x none there = go (p e.1) refl none (eq_by_cmp nat_cmp n e.0) there (none_passes p es n x)
  where
    go : (b : Bool) → p e.1 ≡ b → cond b (Some e.1) (find p (map (λ e. e.1) es)) ≡ None → (c : Bool) → cond c (Some e.1) (finite.find nat_cmp n es) ≡ Some x → (find p (map (λ e. e.1) es) ≡ None → finite.find nat_cmp n es ≡ Some x → p x ≡ false) → p x ≡ false
    go true passes none c there rest = cc
    go false fails none true there rest = let same : e.1 ≡ x = cc in ap p (sym same) ∙ fails
    go false fails none false there rest = rest none there

module _ {K V : Type 0} (eq : K → K → Bool) (records : Records K V) (key : K) where
  -- a key without a record is no record's
  pub absent_key : record_of_key eq records key ≡ None → (n : ℕ) (r : Record K V) → get records n ≡ Some r → eq key r.key ≡ false
  absent_key none n r there = none_passes (λ r. eq key r.key) (entries records) n r none (sym (get-entries records n) ∙ there)

  -- a record with that key is the key's record, where a key has one
  pub present_key : IsEquivalence eq → ((n m : ℕ) (p q : Record K V) → get records n ≡ Some p → get records m ≡ Some q → eq p.key q.key ≡ true → n ≡ m) → (n : ℕ) (r : Record K V) → get records n ≡ Some r → eq key r.key ≡ true → record_of_key eq records key ≡ Some r
  present_key laws one_each n r there same = go (record_of_key eq records key) refl
    where
      go : (o : Option (Record K V)) → record_of_key eq records key ≡ o → o ≡ Some r
      go None none = absurd (true≢false (sym same ∙ absent_key none n r there))
      go (Some q) found =
          let at = record_of_key_found eq records key q found in
          let alike : eq r.key q.key ≡ true = sym (laws.congr key r.key q.key same) ∙ at.2 in
          let one : n ≡ at.0 = one_each n at.0 r q there at.1 alike in
          let both : Some q ≡ Some r = sym at.1 ∙ sym (ap (get records) one) ∙ there in
          both
