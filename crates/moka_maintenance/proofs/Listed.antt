-- Lists of numbers and of members, in which none stands twice.
use Rattle.std.proofs.Common.{◌≡◌, refl, ℕ, ◌+◌, ◌≤◌, Bool, true, false, true≢false, cond, not, ◌==◌, ◌||◌, List, [], ◌∷◌, ◌++◌, length, Some, is_some, slice_get, inl, inr, ap, sym, subst, ◌∙◌, arith}
use Rattle.std.proofs.lemmas.Bool.{cond-true, cond-false, or_left, or_right}
use Rattle.std.proofs.lemmas.List.{length-map}
use Rattle.std.proofs.lemmas.List.Folds.{list_any-append}
use Rattle.std.proofs.lemmas.List.Sums.{count_by-le-length, length-filter}
use Rattle.std.specs.List.{AllByRecursion, IsDistinct, filter, list_any}
use Rattle.moka_records.specs.declared.records.Member.{Member}
use Rattle.moka_records.specs.Records.{counted_of, is_listed, is_member, numbers_of, without_number, without_member, IsListOf}
use Rattle.moka_records.proofs.Maps.{itself_tested, same_or_apart}
use Rattle.moka_records.proofs.WriteList.{listed_past_taken_out, unlisted_taken_out, unlisted_all}
use Rattle.moka_store.specs.Store.{number_after}

-- ---- how many are left

pub filter_few : {A : Type 0} (test : A → Bool) (xs : List A) → length (filter test xs) ≤ length xs
filter_few test xs = subst (λ n. n ≤ length xs) (sym (length-filter test xs)) (count_by-le-length test xs)

-- where one of them passes, the others are fewer
pub others_few : {A : Type 0} (test : A → Bool) (xs : List A) → list_any test xs ≡ true → length (filter (λ x. not (test x)) xs) + 1 ≤ length xs
others_few test [] e = absurd (true≢false (sym e))
others_few test (x ∷ xs) e = go (test x) (others_few test xs) e
  where
    go : (b : Bool) → (list_any test xs ≡ true → length (filter (λ x. not (test x)) xs) + 1 ≤ length xs) → (b || list_any test xs) ≡ true → length (cond (not b) (x ∷ filter (λ x. not (test x)) xs) (filter (λ x. not (test x)) xs)) + 1 ≤ length (x ∷ xs)
    go true later e = let rest = filter_few (λ x. not (test x)) xs in omega arith
    go false later e = let rest = later e in omega arith

-- numbers none of which stands twice are no more than those of a list that has each of them
distinct_few : (ks ns : List ℕ) → IsDistinct (◌==◌) ks → ((n : ℕ) → is_listed n ks ≡ true → is_listed n ns ≡ true) → length ks ≤ length ns
unfolding IsDistinct
distinct_few [] ns once all = omega arith
distinct_few (k ∷ ks) ns once all =
    let less = others_few (λ m. m == k) ns (all k (or_left (k == k) (is_listed k ks) (itself_tested k))) in
    let rest = distinct_few ks (without_number k ns) once.1 (λ n there. elim (same_or_apart n k) [
      | inl same ↦ absurd (true≢false (sym (subst (λ j. is_listed j ks ≡ true) same there) ∙ unlisted_all k ks once.0))
      | inr apart ↦ listed_past_taken_out k n ns apart ∙ all n (or_right (k == n) (is_listed n ks) there)
    ]) in
    omega arith

-- ---- members and their numbers

pub numbered : (n : ℕ) (access : List Member) → is_listed n (numbers_of access) ≡ is_member n access
numbered n [] = refl
numbered n (a ∷ access) = elim (a.number == n) as (λ b. (b || is_listed n (numbers_of access)) ≡ is_some (cond b (Some a.counted) (counted_of n access))) [
  | true ↦ refl
  | false ↦ numbered n access
]

any_member : (n : ℕ) (access : List Member) → list_any (λ a. a.number == n) access ≡ is_member n access
any_member n [] = refl
any_member n (a ∷ access) = elim (a.number == n) as (λ b. (b || list_any (λ a. a.number == n) access) ≡ is_some (cond b (Some a.counted) (counted_of n access))) [
  | true ↦ refl
  | false ↦ any_member n access
]

-- a member that leaves makes the list shorter
pub length-removed : (n : ℕ) (access : List Member) → is_member n access ≡ true → length (without_member n access) + 1 ≤ length access
length-removed n access there = others_few (λ a. a.number == n) access (any_member n access ∙ there)

-- the order of writing has no more numbers than there are members, and no fewer where none of these stands twice
pub written_few : (access : List Member) (ns : List ℕ) → IsListOf access ns → length ns ≤ length access
written_few access ns h = subst (λ i. length ns ≤ i) (length-map access (λ (a : Member). a.number)) (distinct_few ns (numbers_of access) h.0 (λ n listed. numbered n access ∙ sym (h.1 n) ∙ listed))

pub members_few : (access : List Member) (ns : List ℕ) → IsDistinct (◌==◌) (numbers_of access) → IsListOf access ns → length access ≤ length ns
members_few access ns once h = subst (λ i. i ≤ length ns) (length-map access (λ (a : Member). a.number)) (distinct_few (numbers_of access) ns once (λ n there. h.1 n ∙ sym (numbered n access) ∙ there))

-- ---- parts of a list

pub listed_first : (n : ℕ) (xs ys : List ℕ) → is_listed n xs ≡ true → is_listed n (xs ++ ys) ≡ true
listed_first n xs ys e = list_any-append (λ m. m == n) xs ys ∙ or_left (is_listed n xs) (is_listed n ys) e

pub listed_second : (n : ℕ) (xs ys : List ℕ) → is_listed n ys ≡ true → is_listed n (xs ++ ys) ≡ true
listed_second n xs ys e = list_any-append (λ m. m == n) xs ys ∙ or_right (is_listed n xs) (is_listed n ys) e

pub listed_between : (xs ys : List ℕ) (n : ℕ) → is_listed n (xs ++ n ∷ ys) ≡ true
listed_between xs ys n = listed_second n xs (n ∷ ys) (or_left (n == n) (is_listed n ys) (itself_tested n))

-- ---- a number between others

pub all_mid : (P : ℕ → Type 0) (xs ys : List ℕ) (n : ℕ) → AllByRecursion P (xs ++ n ∷ ys) → P n
all_mid P [] ys n h = h.0
all_mid P (x ∷ xs) ys n h = all_mid P xs ys n h.1

pub after_split : (xs ys : List ℕ) (n : ℕ) → IsDistinct (◌==◌) (xs ++ n ∷ ys) → number_after n (xs ++ n ∷ ys) ≡ slice_get ys 0
unfolding IsDistinct
after_split [] ys n once = cond-true (n == n) (slice_get ys 0) (number_after n ys) (itself_tested n)
after_split (x ∷ xs) ys n once = cond-false (x == n) (slice_get (xs ++ n ∷ ys) 0) (number_after n (xs ++ n ∷ ys)) (all_mid (λ y. (x == y) ≡ false) xs ys n once.0) ∙ after_split xs ys n once.1

pub without_split : (xs ys : List ℕ) (n : ℕ) → IsDistinct (◌==◌) (xs ++ n ∷ ys) → without_number n (xs ++ n ∷ ys) ≡ xs ++ ys
unfolding IsDistinct
without_split [] ys n once = cond-false (not (n == n)) (n ∷ without_number n ys) (without_number n ys) (ap not (itself_tested n)) ∙ unlisted_taken_out n ys (unlisted_all n ys once.0)
without_split (x ∷ xs) ys n once = cond-true (not (x == n)) (x ∷ without_number n (xs ++ n ∷ ys)) (without_number n (xs ++ n ∷ ys)) (ap not (all_mid (λ y. (x == y) ≡ false) xs ys n once.0)) ∙ ap (λ zs. x ∷ zs) (without_split xs ys n once.1)
