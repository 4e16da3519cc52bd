-- One word of sixteen counters: one more at a position, and all of them halved.
use Rattle.std.proofs.Common.{◌≡◌, ◌≢◌, ℕ, ◌+◌, ◌-◌, ◌*◌, ◌/◌, ◌%◌, ◌^◌, ◌<◌, ◌≤◌, true, eqb, refl, sym, ap, ◌∙◌, subst, arith, bit_and}
use Rattle.std.proofs.Math.Nat.{add-mul-div_right, mul-le-mul_right}
use Rattle.std.proofs.lemmas.Nat.{pow_pos, pow-add, shr-shr, and_shr, and_mod, and_mask, shr_split, mod_below, shr_below}
use Rattle.std.proofs.lemmas.Bool.{agree_below, agree_below_at, eqb-true}
use Rattle.moka_sketch.specs.Words.{counter_at}

-- the counters below the position stay
raised-below : (n p q : ℕ) → q < p → counter_at (n + 2 ^ (4 * p)) q ≡ counter_at n q
raised-below n p q l =
    let k = 2 ^ (4 * q) in
    let c = 2 ^ (4 * (p - q - 1)) in
    let split : 2 ^ (4 * p) ≡ c * 16 * k =
    ap (λ x. 2 ^ x) (omega arith) ∙ pow-add 2 (4 * (p - q - 1) + 4) (4 * q) ∙ ap (λ x. x * k) (pow-add 2 (4 * (p - q - 1)) 4) in
    let e : (n + c * 16 * k) / k ≡ n / k + c * 16 = add-mul-div_right n (c * 16) (pow_pos (4 * q)) in
    ap (λ x. (n + x) / k % 16) split ∙ ap (λ x. x % 16) e ∙ omega arith

-- the counters above stay, since the counter at the position has room
raised-above : (n p q : ℕ) → p < q → counter_at n p < 15 → counter_at (n + 2 ^ (4 * p)) q ≡ counter_at n q
raised-above n p q l small =
    let k = 2 ^ (4 * p) in
    let rest = 2 ^ (4 * (q - p - 1)) in
    let down : (x : ℕ) → x / 2 ^ (4 * q) ≡ x / k / 16 / rest = λ x.
    ap (λ y. x / 2 ^ y) (omega arith) ∙ sym (shr-shr x (4 * p + 4) (4 * (q - p - 1))) ∙ ap (λ y. y / rest) (sym (shr-shr x (4 * p) 4)) in
    let f : n + k ≡ n + 1 * k = omega arith in
    let e : (n + k) / k ≡ n / k + 1 = ap (λ x. x / k) f ∙ add-mul-div_right n 1 (pow_pos (4 * p)) in
    let same : (n + k) / k / 16 ≡ n / k / 16 = ap (λ x. x / 16) e ∙ omega arith in
    ap (λ x. x % 16) (down (n + k) ∙ ap (λ x. x / rest) same ∙ sym (down n))

-- one more at a position changes no other counter
pub raised-other : (n p q : ℕ) → q ≢ p → counter_at n p < 15 → counter_at (n + 2 ^ (4 * p)) q ≡ counter_at n q
raised-other n p q ne small = grind (arith, raised-below n p q, raised-above n p q)

-- the sum stays within the word
pub raised_fits : (n p : ℕ) → n < 2 ^ 64 → p < 16 → counter_at n p < 15 → n + 2 ^ (4 * p) < 2 ^ 64
raised_fits n p l q small =
    let k = 2 ^ (4 * p) in
    let top = 2 ^ (60 - 4 * p) in
    let m = n / k in
    let ex : 64 ≡ 60 - 4 * p + 4 + 4 * p = omega arith in
    let whole : 2 ^ 64 ≡ top * 16 * k = subst (λ x. 2 ^ 64 ≡ 2 ^ x) ex refl ∙ pow-add 2 (60 - 4 * p + 4) (4 * p) ∙ ap (λ x. x * k) (pow-add 2 (60 - 4 * p) 4) in
    let below : m < top * 16 = rw (pow-add 2 (60 - 4 * p) 4) at (shr_below n (60 - 4 * p + 4) (4 * p) (subst (λ x. n < 2 ^ x) ex l)) in
    let room : m + 2 ≤ top * 16 = omega arith in
    let parts : m * k + n % k ≡ n = shr_split n (4 * p) in
    let rest : n % k < k = mod_below n k (pow_pos (4 * p)) in
    let most : (m + 2) * k ≤ top * 16 * k = mul-le-mul_right k room in
    rw whole (omega (arith, parts, rest, most))

-- the mask has 7 at each position
sevens : agree_below (λ q. eqb (0x7777777777777777 / 2 ^ (4 * q) % 2 ^ 4) 7) (λ _. true) 16 ≡ true
sevens = refl

-- a shift and a mask halve each counter
pub halved-at : (n q : ℕ) → q < 16 → counter_at (bit_and (n / 2) 0x7777777777777777) q ≡ counter_at n q / 2
halved-at n q l =
    let mask : ℕ = 0x7777777777777777 in
    let seven : mask / 2 ^ (4 * q) % 2 ^ 4 ≡ 7 = eqb-true _ _ (agree_below_at (λ i. eqb (0x7777777777777777 / 2 ^ (4 * i) % 2 ^ 4) 7) (λ _. true) 16 q sevens l) in
    let m = n / 2 ^ (4 * q) in
    let swap : n / 2 ^ 1 / 2 ^ (4 * q) ≡ m / 2 = shr-shr n 1 (4 * q) ∙ ap (λ x. n / 2 ^ x) (omega arith) ∙ sym (shr-shr n (4 * q) 1) in
    ap (λ x. x % 2 ^ 4) (and_shr (n / 2 ^ 1) mask (4 * q))
    ∙ and_mod (n / 2 ^ 1 / 2 ^ (4 * q)) (mask / 2 ^ (4 * q)) 4
    ∙ ap (λ x. bit_and (n / 2 ^ 1 / 2 ^ (4 * q) % 2 ^ 4) x) seven
    ∙ and_mask (n / 2 ^ 1 / 2 ^ (4 * q) % 2 ^ 4) 3
    ∙ ap (λ x. x % 2 ^ 4 % 2 ^ 3) swap
    ∙ omega arith
