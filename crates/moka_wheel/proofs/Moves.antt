-- What a move of the wheel's moment leaves of the places of the timers.
use Rattle.std.proofs.Common.{◌≡◌, ◌≢◌, ℕ, ◌+◌, ◌-◌, ◌*◌, ◌/◌, ◌%◌, ◌^◌, ◌<◌, ◌≤◌, inl, inr, sym, ap, ◌∙◌, subst, arith}
use Rattle.std.proofs.lemmas.Nat.{pow_pos, pow-add, shr_below, shl_whole, le-div, div_below}
use Rattle.std.proofs.lemmas.Bool.{cases_lt, cases_order}
use Rattle.moka_wheel.specs.Levels.{part, FallsIn, IsAhead, IsHome}
use Rattle.moka_wheel.proofs.Parts.{part-up, part-mono, part-same_above, part-later}

-- the first part of a bucket at its level
abbrev pub start : ℕ → ℕ → ℕ
start w k = part w (k / 256) / 256 * 256 + k % 256

pub start-fits : (w l b : ℕ) → w < 2 ^ 64 → l < 8 → b < 256 → (part w l / 256 * 256 + b) * 2 ^ (8 * l) % 18446744073709551616 ≡ (part w l / 256 * 256 + b) * 2 ^ (8 * l)
start-fits w l b lw ll lb =
    let j = 56 - 8 * l in
    let e : 64 ≡ (j + 8) + 8 * l = omega arith in
    let low : part w l < 2 ^ (j + 8) = shr_below w (j + 8) (8 * l) (subst (λ x. w < 2 ^ x) e lw) in
    let split : 2 ^ (j + 8) ≡ 2 ^ j * 256 = pow-add 2 j 8 in
    shl_whole (part w l / 256 * 256 + b) (j + 8) (8 * l) 64 (omega (arith, low, split)) (omega arith)

-- the part of each moment in a bucket is that of its start
pub part-within : (l q s m n : ℕ) → s ≡ q * 2 ^ (8 * l) → n ≡ 2 ^ (8 * l) → m < n → part (s + m) l ≡ q
part-within l q s m n e f h =
    let at_least = le-div q (s + m) (2 ^ (8 * l)) (pow_pos (8 * l)) (omega (arith, e)) in
    let at_most = div_below (s + m) (2 ^ (8 * l)) (q + 1) (pow_pos (8 * l)) (omega (arith, e, f, h)) in
    omega (arith, at_least, at_most)

-- before the start of a bucket the wheel's part is below the bucket's
pub part-before : (u l q : ℕ) → u < q * 2 ^ (8 * l) → part u l < q
part-before u l q h = div_below u (2 ^ (8 * l)) q (pow_pos (8 * l)) h

-- while the wheel's part is below the bucket's, the bucket stays ahead of it, and as near to its timers
pub record Stays (w u k : ℕ) : Type 0 where
  pub ahead : IsAhead u k
  pub same : part u (k / 256) / 256 ≡ part w (k / 256) / 256

pub stays-while : (w u k : ℕ) → w ≤ u → part u (k / 256) < start w k → Stays w u k
stays-while w u k le before =
    let m = part-mono w u (k / 256) le in
    record { ahead = omega arith; same = omega arith }

pub near-along : (w u a k : ℕ) → part u (k / 256) / 256 ≡ part w (k / 256) / 256 → FallsIn w a k → FallsIn u a k
near-along w u a k e n = record { above = n.above ∙ sym e; byte = n.byte }

-- at the start of the first marked bucket, each later bucket that is ahead stays so
pub past-first : (w u b k : ℕ) → part u (b / 256) ≤ start w b → b < k → part u (b / 256) / 256 ≡ part w (b / 256) / 256 → IsAhead w k → part u (k / 256) < start w k
past-first w u b k at_most later same ahead = elim (cases_order (b / 256) (k / 256)) as (λ _. part u (k / 256) < start w k) [
  | inl e ↦
      let eu : part u (b / 256) ≡ part u (k / 256) = ap (part u) e in
      let ew : part w (b / 256) ≡ part w (k / 256) = ap (part w) e in
      omega (arith, eu, ew, at_most)
  | inr (inl below) ↦
      let up : part u (b / 256 + 1) ≡ part w (b / 256 + 1) = sym (part-up u (b / 256)) ∙ same ∙ part-up w (b / 256) in
      let eq = part-same_above u w (b / 256 + 1) (k / 256) (omega arith) up in
      omega (arith, eq, ahead)
  | inr (inr above) ↦ absurd (omega arith)
]

-- the bucket that is reached: the wheel's byte is the bucket's
pub record Reached (w u b : ℕ) : Type 0 where
  pub later : w < u
  pub here : part u (b / 256) % 256 ≡ b % 256
  pub same : part u (b / 256) / 256 ≡ part w (b / 256) / 256
  pub part_is : part u (b / 256) ≡ start w b

-- a moment in a bucket that is ahead
pub reach : (w u b : ℕ) → IsAhead w b → part u (b / 256) ≡ start w b → Reached w u b
reach w u b ahead is = record {
  later = part-later w u (b / 256) (omega (arith, is));
  here = omega (arith, is);
  same = omega (arith, is);
  part_is = is;
}

-- before the start of the first marked bucket, each marked bucket stays ahead
pub before-first : (w u b k : ℕ) → w ≤ u → u < start w b * 2 ^ (8 * (b / 256)) → b ≤ k → IsAhead w b → IsAhead w k → part u (k / 256) < start w k
before-first w u b k le early order ahead_b ahead_k =
    let low : part u (b / 256) < start w b = part-before u (b / 256) (start w b) early in
    elim (cases_lt b k) as (λ _. part u (k / 256) < start w k) [
      | inl later ↦ past-first w u b k (omega arith) later (stays-while w u b le low).same ahead_k
      | inr same ↦ subst (λ n. part u (n / 256) < start w n) (omega arith) low
    ]

-- a timer in a bucket that is ahead is later than the wheel
pub near-later : (w a k : ℕ) → FallsIn w a k → IsAhead w k → w < a
near-later w a k near ahead = part-later w a (k / 256) (omega (arith, near.above, near.byte, ahead))

-- a timer of the bucket that was reached goes to a lower level
pub home-lower : (u a b h : ℕ) → part u (b / 256) % 256 ≡ b % 256 → FallsIn u a b → IsHome u a h → h < 2048 → h ≢ b
home-lower u a b h here near home small e =
    let n = home.ahead small in
    let agree : part a (b / 256) ≡ part u (b / 256) = omega (arith, near.above, near.byte, here) in
    let n2 : part u (b / 256) % 256 < b % 256 = subst (λ k. part u (k / 256) % 256 < k % 256) e n in
    omega arith
