-- The groups that a search goes through, and how far they are from its home.
use Rattle.std.proofs.Common.{◌≡◌, ℕ, ◌+◌, ◌*◌, ◌%◌, ◌^◌, ◌<◌, sym, subst, arith}
use Rattle.std.proofs.lemmas.Bool.Decides.{nat_tests}
use Rattle.std.proofs.Math.Nat.{div-lt_iff_lt-mul, mul-lt-mul_of_pos_right, mul_comm}
use Rattle.moka_index.specs.Group.{home}
use Rattle.moka_index.specs.Groups.{probe, behind, distance}

pub home-lt : (n hash : ℕ) → 0 < n → home n hash < n
unfolding home
home-lt n hash h =
    let below : hash % 2 ^ 32 < 2 ^ 32 = omega arith in
    (div-lt_iff_lt-mul {k = 2 ^ 32} {x = hash % 2 ^ 32 * n} {y = n} (omega arith)).1 (subst (λ x. hash % 2 ^ 32 * n < x) (mul_comm (2 ^ 32) n) (mul-lt-mul_of_pos_right below h))

pub home-within : (n hash first : ℕ) → 0 < n → first ≡ home n hash → first < n
home-within n hash first some e = subst (λ i. i < n) (sym e) (home-lt n hash some)

pub distance-lt : (n first at : ℕ) → first < n → at < n → distance n first at < n
distance-lt n first at h l = grind (arith, nat_tests)

pub probe-distance : (n first at : ℕ) → first < n → at < n → probe n first (distance n first at) ≡ at
probe-distance n first at h l = grind (arith, nat_tests)

pub distance-probe : (n first k : ℕ) → first < n → k < n → distance n first (probe n first k) ≡ k
distance-probe n first k h l = grind (arith, nat_tests)

pub probe-none : (n first : ℕ) → first < n → first ≡ probe n first 0
probe-none n first h = grind (arith, nat_tests)

pub probe-behind : (n first k : ℕ) → first < n → k < n → behind n (probe n first k) ≡ probe n first (k + 1)
probe-behind n first k h l = grind (arith, nat_tests)
