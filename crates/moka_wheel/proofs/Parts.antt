-- The arithmetic of the wheel's levels.
use Rattle.std.proofs.Common.{◌≡◌, ◌≢◌, ℕ, suc, ◌+◌, ◌-◌, ◌*◌, ◌/◌, ◌%◌, ◌^◌, ◌<◌, ◌≤◌, sym, ap, ◌∙◌, subst, arith, bit_and, bit_xor, lit<}
use Rattle.std.proofs.Math.Nat.{div-eq_of_lt, pow-le-pow_right, div-mul-le_self}
use Rattle.std.proofs.lemmas.Nat.{pow_pos, shr-shr, and_mask, xor_shr, xor_lt, leading_top, le-div}
use Rattle.std.proofs.lemmas.Nat.Bits.{bit_at_xor, same_from_bits, bit_at-lt, bit_at-zero}
use Rattle.std.specs.Int.{bit_at}
use Rattle.std.specs.Int.Count.{count_leading_zeros}
use Rattle.moka_wheel.specs.Levels.{part, IsHome}

-- a level up is a byte less
pub part-up : (x l : ℕ) → part x l / 256 ≡ part x (l + 1)
part-up x l = shr-shr x (8 * l) 8 ∙ ap (λ e. x / 2 ^ e) (omega arith)

pub part-mono : (x y l : ℕ) → x ≤ y → part x l ≤ part y l
part-mono x y l h = le-div (part x l) y (2 ^ (8 * l)) (pow_pos (8 * l)) (omega (arith, div-mul-le_self x (2 ^ (8 * l)), h))

-- what is the same at a level is the same at each level above
pub part-same_above : (x y l m : ℕ) → l ≤ m → part x l ≡ part y l → part x m ≡ part y m
part-same_above x y l m h e =
    let up : (z : ℕ) → part z m ≡ part z l / 2 ^ (8 * (m - l)) = λ z. ap (λ k. z / 2 ^ k) (omega arith) ∙ sym (shr-shr z (8 * l) (8 * (m - l))) in
    up x ∙ ap (λ k. k / 2 ^ (8 * (m - l))) e ∙ sym (up y)

-- a greater part is of a greater number
pub part-later : (x y l : ℕ) → part x l < part y l → x < y
part-later x y l h = grind (arith, part-mono y x l)

-- numbers with no bit apart are equal
same_from_xor : (a b : ℕ) → bit_xor a b ≡ 0 → a ≡ b
same_from_xor a b e = same_from_bits a b (λ i.
    let x = ap (λ n. bit_at n i) e in
    omega (arith, bit_at_xor a b i, x, bit_at-zero i, bit_at-lt a i, bit_at-lt b i))

xor_self : (a : ℕ) → bit_xor a a ≡ 0
xor_self a = same_from_bits (bit_xor a a) 0 (λ i. omega (arith, bit_at_xor a a i, bit_at-zero i, bit_at-lt a i))

xor_positive : (a b : ℕ) → a ≢ b → 0 < bit_xor a b
xor_positive a b ne = grind (arith, same_from_xor a b)

-- the level of the highest byte in which two numbers differ
pub record DifferAt (a b level : ℕ) : Type 0 where
  pub within : level < 8
  pub above : part a level / 256 ≡ part b level / 256
  pub here : part a level ≢ part b level

level-is : (a b z j : ℕ) → z + suc j ≡ 64 → 2 ^ j ≤ bit_xor a b → bit_xor a b < 2 ^ suc j → DifferAt a b ((63 - z) / 8)
level-is a b z j e low high =
    let level = (63 - z) / 8 in
    let is : level ≡ j / 8 = ap (λ x. x / 8) (omega arith) in
    let xs = bit_xor a b in
    let shift : (k : ℕ) → bit_xor (a / 2 ^ k) (b / 2 ^ k) ≡ xs / 2 ^ k = λ k. sym (xor_shr a b k) in
    record {
      within = omega (arith, is);
      above = part-up a level ∙ same_from_xor _ _ (shift (8 * (level + 1)) ∙ div-eq_of_lt (omega (arith, high, pow-le-pow_right {n = 2} (lit< tt) {i = suc j} {j = 8 * (level + 1)} (omega (arith, is))))) ∙ sym (part-up b level);
      here = λ same.
          let zero_is : xs / 2 ^ (8 * level) ≡ 0 = sym (shift (8 * level)) ∙ ap (λ x. bit_xor x (b / 2 ^ (8 * level))) same ∙ xor_self (b / 2 ^ (8 * level)) in
          let some : 1 ≤ xs / 2 ^ (8 * level) = le-div 1 xs (2 ^ (8 * level)) (pow_pos (8 * level)) (omega (arith, low, pow-le-pow_right {n = 2} (lit< tt) {i = 8 * level} {j = j} (omega (arith, is)))) in
          omega arith;
    }

level-of : (a b : ℕ) → a ≢ b → a < 2 ^ 64 → b < 2 ^ 64 → (count_leading_zeros 64 (bit_xor a b) ≤ 63) × DifferAt a b ((63 - count_leading_zeros 64 (bit_xor a b)) / 8)
level-of a b ne la lb =
    let top = leading_top 64 (bit_xor a b) (xor_positive a b ne) (xor_lt 64 a b la lb) in
    (omega (arith, top.1), level-is a b (count_leading_zeros 64 (bit_xor a b)) top.0 top.1 top.2 top.3)

-- what the level's byte gives
home-at : (w a l k : ℕ) → w < a → DifferAt w a l → k / 256 ≡ l → k % 256 ≡ part a l % 256 → IsHome w a k
home-at w a l k late d e f =
    let p = part-mono w a l (omega arith) in
    let ne = d.here in
    let low : part w l % 256 < k % 256 = omega (arith, d.above) in
    record {
      within = omega (arith, d.within);
      due = λ z. absurd (omega (arith, d.within));
      near = λ _. record {
        above = ap (λ n. part a n / 256) e ∙ sym d.above ∙ ap (λ n. part w n / 256) (sym e);
        byte = ap (λ n. part a n % 256) e ∙ sym f;
      };
      ahead = λ _. subst (λ n. part w n % 256 < k % 256) (sym e) low;
    }

pub home-level : (w a : ℕ) → w < a → a < 2 ^ 64 → count_leading_zeros 64 (bit_xor w a) ≤ 63
home-level w a late la = (level-of w a (λ e. omega arith) (omega arith) la).0

pub home-is : (w a : ℕ) → w < a → a < 2 ^ 64
    → IsHome w a ((63 - count_leading_zeros 64 (bit_xor w a)) / 8 * 256 + bit_and (a / 2 ^ (8 * ((63 - count_leading_zeros 64 (bit_xor w a)) / 8))) 255)
home-is w a late la =
    let l = (63 - count_leading_zeros 64 (bit_xor w a)) / 8 in
    let b = bit_and (part a l) 255 in
    let is : b ≡ part a l % 256 = and_mask (part a l) 8 in
    home-at w a l (l * 256 + b) late (level-of w a (λ e. omega arith) (omega arith) la).1 (omega (arith, is)) (omega (arith, is))
