-- How many numbers below a bound pass a test.
use Rattle.std.proofs.Common.{◌≡◌, ◌≢◌, ℕ, zero, suc, ◌+◌, ◌<◌, ◌≤◌, Bool, true, false, cond, inl, inr, refl, sym, ap, ◌∙◌, arith}
use Rattle.std.proofs.lemmas.Bool.{cases_eq, cond-true, cond-false}

abbrev one_if : Bool → ℕ
one_if b = cond b 1 0

abbrev pub count_to : (ℕ → Bool) → ℕ → ℕ
count_to f zero = 0
count_to f (suc n) = one_if (f n) + count_to f n

one : (b : Bool) → one_if b ≤ 1
one true = omega arith
one false = omega arith

count-at_most : (f : ℕ → Bool) (n : ℕ) → count_to f n ≤ n
count-at_most f zero = omega arith
count-at_most f (suc n) = omega (arith, count-at_most f n, one (f n))

-- where a number fails, fewer pass
pub count-fewer : (f : ℕ → Bool) (n j : ℕ) → j < n → f j ≡ false → count_to f n < n
count-fewer f zero j l e = omega arith
count-fewer f (suc n) j l e = grind (arith, one (f n), count-at_most f n, count-fewer f n j)

pub count-none : (n : ℕ) → count_to (λ _. false) n ≡ 0
count-none zero = refl
count-none (suc n) = omega (arith, count-none n)

count-same : (f g : ℕ → Bool) (n : ℕ) → ((i : ℕ) → i < n → f i ≡ g i) → count_to f n ≡ count_to g n
count-same f g zero e = refl
count-same f g (suc n) e =
    let here : one_if (f n) ≡ one_if (g n) = ap one_if (e n (omega arith)) in
    omega (arith, here, count-same f g n (λ i l. e i (omega arith)))

-- a test that one more number passes
pub count-more : (f g : ℕ → Bool) (s n : ℕ) → s < n → f s ≡ false → g s ≡ true → ((i : ℕ) → i ≢ s → g i ≡ f i) → count_to g n ≡ count_to f n + 1
count-more f g s zero l off on others = absurd (omega arith)
count-more f g s (suc n) l off on others = elim (cases_eq s n) as (λ _. count_to g (suc n) ≡ count_to f (suc n) + 1) [
  | inl same ↦
      let now : one_if (g n) ≡ 1 = cond-true (g n) 1 0 (ap g (sym same) ∙ on) in
      let was : one_if (f n) ≡ 0 = cond-false (f n) 1 0 (ap f (sym same) ∙ off) in
      omega (arith, now, was, count-same g f n (λ i k. others i (λ z. omega arith)))
  | inr ne ↦
      let here : one_if (g n) ≡ one_if (f n) = ap one_if (others n (λ z. ne (sym z))) in
      omega (arith, here, count-more f g s n (omega arith) off on others)
]
