-- The bits of the buckets.
use Rattle.std.proofs.Common.{◌≡◌, ◌≢◌, ℕ, ◌+◌, ◌-◌, ◌*◌, ◌/◌, ◌%◌, ◌^◌, ◌<◌, List, length, set, inl, inr, ap, ◌∙◌, arith, bit_and, bit_or, get_or, get_or-set_same, get_or-set_other, w64}
use Rattle.std.proofs.lemmas.Nat.Bits.{bit_at_set_same, bit_at_set_other, bit_at_clear_same, bit_at_clear_other, bit_at-trailing_zeros, bit_at-zero}
use Rattle.std.proofs.lemmas.Bool.{cases_order}
use Rattle.std.specs.Int.{bit_at, trailing_zeros}
use Rattle.moka_wheel.specs.Levels.{bit_of}

-- a write of a bucket's word decides the bits of that word alone
bits-written : (ws : List ℕ) (b k v d : ℕ) → b / 64 < length ws → k ≢ b
    → (k / 64 ≡ b / 64 → k % 64 ≢ b % 64 → bit_at v (k % 64) ≡ bit_at (get_or ws (b / 64) 0) (k % 64))
    → bit_of (set ws (b / 64) v) k ≡ bit_of ws k
bits-written ws b k v d l ne keep = grind (arith, keep, get_or-set_same ws (b / 64) v 0 l, get_or-set_other ws (b / 64) (k / 64) v 0)

pub on-same : (ws : List ℕ) (b : ℕ) → b / 64 < length ws → bit_of (set ws (b / 64) (bit_or (get_or ws (b / 64) 0) (1 * 2 ^ (b % 64) % 18446744073709551616))) b ≡ 1
on-same ws b l = ap (λ w. bit_at w (b % 64)) (get_or-set_same ws (b / 64) _ 0 l) ∙ bit_at_set_same w64 (get_or ws (b / 64) 0) (b % 64) (omega arith)

pub on-other : (ws : List ℕ) (b k : ℕ) → b / 64 < length ws → k ≢ b → bit_of (set ws (b / 64) (bit_or (get_or ws (b / 64) 0) (1 * 2 ^ (b % 64) % 18446744073709551616))) k ≡ bit_of ws k
on-other ws b k l ne = bits-written ws b k _ 0 l ne (λ _ other. bit_at_set_other w64 (get_or ws (b / 64) 0) (b % 64) (omega arith) (k % 64) other)

pub off-same : (ws : List ℕ) (b : ℕ) → b / 64 < length ws → bit_of (set ws (b / 64) (bit_and (get_or ws (b / 64) 0) (18446744073709551615 - 1 * 2 ^ (b % 64) % 18446744073709551616))) b ≡ 0
off-same ws b l = ap (λ w. bit_at w (b % 64)) (get_or-set_same ws (b / 64) _ 0 l) ∙ bit_at_clear_same w64 (get_or ws (b / 64) 0) (b % 64) (omega arith)

pub off-other : (ws : List ℕ) (b k : ℕ) → b / 64 < length ws → k ≢ b → bit_of (set ws (b / 64) (bit_and (get_or ws (b / 64) 0) (18446744073709551615 - 1 * 2 ^ (b % 64) % 18446744073709551616))) k ≡ bit_of ws k
off-other ws b k l ne = bits-written ws b k _ 0 l ne (λ _ other. bit_at_clear_other w64 (get_or ws (b / 64) 0) (b % 64) (omega arith) (k % 64) (omega arith) other)

-- a word with no bit
pub bit-of_zero : (ws : List ℕ) (k : ℕ) → get_or ws (k / 64) 0 ≡ 0 → bit_of ws k ≡ 0
bit-of_zero ws k e = ap (λ w. bit_at w (k % 64)) e ∙ bit_at-zero (k % 64)

-- the lowest bit of the first word with any
pub record FirstMarked (ws : List ℕ) (b : ℕ) : Type 0 where
  pub within : b < 2048
  pub marked : bit_of ws b ≡ 1
  pub first : (k : ℕ) → k < b → bit_of ws k ≡ 0

pub first-marked : (ws : List ℕ) (i w : ℕ) → i < 32 → get_or ws i 0 ≡ w → w ≢ 0 → w < 2 ^ 64 → ((j : ℕ) → j < i → get_or ws j 0 ≡ 0) → FirstMarked ws (64 * i + trailing_zeros w64 w)
first-marked ws i w l e ne lw low =
    let t = trailing_zeros w64 w in
    let z = bit_at-trailing_zeros w64 w (omega arith) lw in
    let small : t < 64 = z.0 in
    let b = 64 * i + t in
    let q : b / 64 ≡ i = omega arith in
    let r : b % 64 ≡ t = omega arith in
    record {
      within = omega arith;
      marked = ap (λ n. bit_at (get_or ws n 0) (b % 64)) q ∙ ap (λ n. bit_at (get_or ws i 0) n) r ∙ ap (λ n. bit_at n t) e ∙ z.1;
      first = λ k h. elim (cases_order (k / 64) i) as (λ _. bit_of ws k ≡ 0) [
        | inl same ↦ ap (λ n. bit_at (get_or ws n 0) (k % 64)) same ∙ ap (λ n. bit_at n (k % 64)) e ∙ z.2 (k % 64) (omega arith)
        | inr (inl below) ↦ bit-of_zero ws k (low (k / 64) below)
        | inr (inr above) ↦ absurd (omega arith)
      ];
    }
