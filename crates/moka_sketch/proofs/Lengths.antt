-- The least power of two that is no less than a number.
use Rattle.std.proofs.Common.{◌≡◌, ◌≢◌, ℕ, zero, suc, ◌+◌, ◌-◌, ◌*◌, ◌/◌, ◌^◌, ◌<◌, ◌≤◌, min, max, nat_le, if◌then◌else◌, inl, inr, sym, ap, ◌∙◌, arith, lit<}
use Rattle.std.proofs.Math.Nat.{pow-le-pow_right}
use Rattle.std.proofs.lemmas.Nat.{pow-add, pow_below}
use Rattle.std.proofs.lemmas.Bool.{cases_lt}
use Rattle.std.proofs.lemmas.Bool.Decides.{nat_tests}
use Rattle.std.specs.Int.{IsPowerOfTwo}
use Rattle.moka_parts.specs.Frequency.{doubled_to, table_length_for}

-- the half of a power of two is no less than each lower power
half_of_power : (j k : ℕ) → j < k → 2 ^ j ≤ 2 ^ k / 2
half_of_power j k l =
    let split : 2 ^ k ≡ 2 ^ (k - 1) * 2 = ap (λ x. 2 ^ x) (omega arith) ∙ pow-add 2 (k - 1) 1 in
    let low : 2 ^ j ≤ 2 ^ (k - 1) = pow-le-pow_right {n = 2} (lit< tt) {i = j} {j = k - 1} (omega arith) in
    omega arith

-- a power of two whose half is below n is the least that is no less than n
pub least_power : (n r k : ℕ) → IsPowerOfTwo r → r / 2 < n → n ≤ 2 ^ k → r ≤ 2 ^ k
least_power n r k (j, e) half l =
    grind (arith, e, half_of_power k j, pow-le-pow_right {n = 2} (lit< tt) {i = j} {j = k})

if_within : (n p x y : ℕ) → n ≤ p → (if nat_le n p then x else y) ≡ x
if_within n p x y l = grind (arith, nat_tests)

if_above : (n p x y : ℕ) → p < n → (if nat_le n p then x else y) ≡ y
if_above n p x y l = grind (arith, nat_tests)

doubled_to-power : (doublings j k n : ℕ) → j ≤ k → k ≤ j + doublings → n ≤ 2 ^ k → 2 ^ k / 2 < n → doubled_to doublings (2 ^ j) n ≡ 2 ^ k
doubled_to-power zero j k n low high enough half = ap (λ x. 2 ^ x) (omega arith)
doubled_to-power (suc doublings) j k n low high enough half = elim (cases_lt (2 ^ j) n) as (λ _. doubled_to (suc doublings) (2 ^ j) n ≡ 2 ^ k) [
  | inl above ↦
      let apart : j ≢ k = λ e. absurd (omega (arith, ap (λ x. 2 ^ x) e)) in
      let twice : 2 * 2 ^ j ≡ 2 ^ (j + 1) = omega (arith, pow-add 2 j 1) in
      if_above n (2 ^ j) (2 ^ j) (doubled_to doublings (2 * 2 ^ j) n) above
      ∙ ap (λ x. doubled_to doublings x n) twice
      ∙ doubled_to-power doublings (j + 1) k n (omega arith) (omega arith) enough half
  | inr within ↦
      let same : j ≡ k = elim (cases_lt j k) as (λ _. j ≡ k) [
        | inl l ↦ absurd (omega (arith, half_of_power j k l))
        | inr l ↦ omega arith
      ] in
      if_within n (2 ^ j) (2 ^ j) (doubled_to doublings (2 * 2 ^ j) n) within ∙ ap (λ x. 2 ^ x) same
]

pub table_length_for-power : (size r : ℕ) → IsPowerOfTwo r → min (max size 128) (2 ^ 30) ≤ r → r / 2 < min (max size 128) (2 ^ 30) → r ≡ table_length_for size
unfolding table_length_for
table_length_for-power size r (k, e) enough half =
    let n = min (max size 128) (2 ^ 30) in
    let within : r ≤ 2 ^ 30 = least_power n r 30 (k, e) half (omega arith) in
    let high : k ≤ 30 = elim (cases_lt 30 k) as (λ _. k ≤ 30) [
      | inl l ↦ absurd (omega (arith, pow_below 30 k l))
      | inr l ↦ l
    ] in
    e ∙ sym (doubled_to-power 30 0 k n (omega arith) (omega arith) (omega arith) (omega (arith, ap (λ x. x / 2) e)))

-- sizes that are the same within the bounds of a table ask for the same length
pub table_length_for-same : (m n : ℕ) → min (max m 128) (2 ^ 30) ≡ min (max n 128) (2 ^ 30) → table_length_for m ≡ table_length_for n
unfolding table_length_for
table_length_for-same m n e = ap (λ x. doubled_to 30 1 x) e
