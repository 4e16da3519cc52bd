-- How the sum of the counted weights follows a change of the access list.
use Rattle.std.proofs.Common.{◌≡◌, ℕ, ◌==◌, ◌+◌, ◌-◌, ◌*◌, ◌^◌, ◌<◌, ◌≤◌, true, false, cond, not, List, [], ◌∷◌, ◌++◌, length, Some, None, refl, sym, ap, subst, arith, option_map, option_to_list, inl, inr}
use Rattle.std.specs.List.{IsDistinct}
use Rattle.moka_records.specs.declared.records.Member.{Member}
use Rattle.moka_records.specs.Records.{member, counted_of, numbers_of, without_member, to_back, total_weight}
use Rattle.moka_records.proofs.AccessList.{absent_taken_out, counted_taken_out, distinct_taken_out, distinct_pushed, front_once, rest_once}
use Rattle.moka_store.specs.Weights.{AreLight, IsWeighed}
use Rattle.std.proofs.lemmas.List.Sums.{sum_by-append, sum_by-cons}
use Rattle.moka_records.proofs.Maps.{same_by_test}
use Rattle.moka_store.proofs.Gets.{option-cases}
use Rattle.moka_store.proofs.Members.{absent_to_back}

pub light-append : (xs ys : List Member) → AreLight xs → AreLight ys → AreLight (xs ++ ys)
light-append [] ys h k = k
light-append (a ∷ xs) ys h k = (h.0, light-append xs ys h.1 k)

pub light-without : (n : ℕ) (xs : List Member) → AreLight xs → AreLight (without_member n xs)
light-without n [] h = h
light-without n (a ∷ xs) h = elim (a.number == n) as (λ b. AreLight (cond (not b) (a ∷ without_member n xs) (without_member n xs))) [
  | true ↦ light-without n xs h.1
  | false ↦ (h.0, light-without n xs h.1)
]

pub light-counted : (n w : ℕ) (xs : List Member) → AreLight xs → counted_of n xs ≡ Some w → w < 2 ^ 32
light-counted n w [] h e = cc
light-counted n w (a ∷ xs) h e = elim (a.number == n) as (λ b. cond b (Some a.counted) (counted_of n xs) ≡ Some w → w < 2 ^ 32) [
  | true ↦ λ here. (let same : a.counted ≡ w = cc in subst (λ x. x < 2 ^ 32) same h.0)
  | false ↦ λ there. light-counted n w xs h.1 there
] e

-- the sum is far below what 128 bits hold
pub light-total : (xs : List Member) → AreLight xs → total_weight xs ≤ 2 ^ 32 * length xs
light-total [] h = omega arith
light-total (a ∷ xs) h =
    let rest = light-total xs h.1 in
    let one = sum_by-cons (λ (m : Member). m.counted) a xs in
    let lt = h.0 in
    grind arith

-- what is taken out is what was counted
pub total-without : (n w : ℕ) (xs : List Member) → IsDistinct (◌==◌) (numbers_of xs) → counted_of n xs ≡ Some w → total_weight xs ≡ total_weight (without_member n xs) + w
total-without n w [] once e = cc
total-without n w (a ∷ xs) once e =
    elim (a.number == n) as (λ b. a.number == n ≡ b → cond b (Some a.counted) (counted_of n xs) ≡ Some w → total_weight (a ∷ xs) ≡ total_weight (cond (not b) (a ∷ without_member n xs) (without_member n xs)) + w) [
      | true ↦ λ same here.
          let weight : a.counted ≡ w = cc in
          let number : a.number ≡ n = same_by_test a.number n same in
          let none : counted_of n xs ≡ None = subst (λ k. counted_of k xs ≡ None) number (front_once a xs once) in
          let gone = ap total_weight (absent_taken_out n xs none) in
          let sum = sum_by-cons (λ (m : Member). m.counted) a xs in
          omega arith
      | false ↦ λ other there.
          let rest = total-without n w xs (rest_once a xs once) there in
          let sum = sum_by-cons (λ (m : Member). m.counted) a xs in
          let left = sum_by-cons (λ (m : Member). m.counted) a (without_member n xs) in
          omega arith
    ] refl e

-- a member comes in
pub weighed-pushed : (n w : ℕ) (xs : List Member) (sum : ℕ) → IsWeighed xs sum → counted_of n xs ≡ None → w < 2 ^ 32 → IsWeighed (xs ++ member n w ∷ []) (sum + w)
weighed-pushed n w xs sum h none light = record {
  once = distinct_pushed n w xs h.once none;
  light = light-append xs (member n w ∷ []) h.light (light, tt);
  total = (let e = sum_by-append (λ (m : Member). m.counted) xs (member n w ∷ []) in let f = sum_by-cons (λ (m : Member). m.counted) (member n w) [] in let t = h.total in omega arith);
}

-- a member goes
pub weighed-without : (n w : ℕ) (xs : List Member) (sum : ℕ) → IsWeighed xs sum → counted_of n xs ≡ Some w → IsWeighed (without_member n xs) (sum - w)
weighed-without n w xs sum h e = record {
  once = distinct_taken_out n xs h.once;
  light = light-without n xs h.light;
  total = (let f = total-without n w xs h.once e in let t = h.total in omega arith);
}

-- a member gets another weight
pub weighed-recounted : (n old w : ℕ) (xs : List Member) (sum : ℕ) → IsWeighed xs sum → counted_of n xs ≡ Some old → w < 2 ^ 32 → IsWeighed (without_member n xs ++ member n w ∷ []) (sum - old + w)
weighed-recounted n old w xs sum h e light = weighed-pushed n w (without_member n xs) (sum - old) (weighed-without n old xs sum h e) (counted_taken_out n xs) light

-- the weight of a member is part of the sum
pub weighed-least : (n w : ℕ) (xs : List Member) (sum : ℕ) → IsWeighed xs sum → counted_of n xs ≡ Some w → w ≤ sum
weighed-least n w xs sum h e = (let f = total-without n w xs h.once e in let t = h.total in omega arith)

-- a move changes no sum
pub weighed-to_back : (n : ℕ) (xs : List Member) (sum : ℕ) → IsWeighed xs sum → IsWeighed (to_back n xs) sum
weighed-to_back n xs sum h = elim (option-cases (counted_of n xs)) [
  | inl none ↦ subst (λ ys. IsWeighed ys sum) (sym (absent_to_back n xs none)) h
  | inr some ↦
      let again = weighed-recounted n some.0 some.0 xs sum h some.1 (light-counted n some.0 xs h.light some.1) in
      let least = weighed-least n some.0 xs sum h some.1 in
      let same : sum - some.0 + some.0 ≡ sum = omega arith in
      subst (λ ys. IsWeighed ys sum) (sym (ap (λ o. without_member n xs ++ option_to_list (option_map (member n) o)) some.1)) (subst (λ s. IsWeighed (without_member n xs ++ member n some.0 ∷ []) s) same again)
]

-- there is room for one more weight
pub weighed-fits : (xs : List Member) (sum w : ℕ) → IsWeighed xs sum → length xs < 2 ^ 64 → w < 2 ^ 32 → sum + w < 2 ^ 128
weighed-fits xs sum w h few light = (let e = light-total xs h.light in let t = h.total in omega arith)

pub weighed-empty : IsWeighed [] 0
unfolding IsDistinct
weighed-empty = record { once = tt; light = tt; total = refl }
