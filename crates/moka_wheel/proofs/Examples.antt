-- Each timer that is later than the wheel has one bucket where it can stand, and those of worked cases.
use Rattle.std.proofs.Common.{◌≡◌, ℕ, ◌+◌, ◌-◌, ◌/◌, ◌^◌, ◌<◌, inl, inr, sym, ap, ◌∙◌, refl, arith}
use Rattle.std.proofs.lemmas.Bool.{cases_order}
use Rattle.moka_wheel.specs.Levels.{part, FallsIn, IsAhead, IsHome}
use Rattle.moka_wheel.proofs.Parts.{part-up, part-same_above}

-- a bucket of a lower level leaves no room for one of a higher level
lower_home : (m a b c : ℕ) → b / 256 < c / 256 → FallsIn m a b → FallsIn m a c → IsAhead m c → b ≡ c
lower_home m a b c lower near_b near_c ahead_c =
    let up : part a (b / 256 + 1) ≡ part m (b / 256 + 1) = sym (part-up a (b / 256)) ∙ near_b.above ∙ part-up m (b / 256) in
    let same : part a (c / 256) ≡ part m (c / 256) = part-same_above a m (b / 256 + 1) (c / 256) (omega (arith, lower)) up in
    absurd (omega (arith, same, near_c.byte, ahead_c))

pub one_home : (m a b c : ℕ) → FallsIn m a b → IsAhead m b → FallsIn m a c → IsAhead m c → b ≡ c
one_home m a b c near_b ahead_b near_c ahead_c = elim (cases_order (b / 256) (c / 256)) as (λ _. b ≡ c) [
  | inl e ↦ omega (arith, e, ap (part a) e, near_b.byte, near_c.byte)
  | inr (inl lower) ↦ lower_home m a b c lower near_b near_c ahead_c
  | inr (inr higher) ↦ sym (lower_home m a c b higher near_c near_b ahead_b)
]

-- ---- in a wheel at moment 0: level 0 and bucket 255, level 1 and bucket 1 twice, level 7 and bucket 255

pub home_of_255 : IsHome 0 255 255
home_of_255 = record { within = omega arith; due = λ e. absurd (omega (arith, e)); near = λ _. record { above = refl; byte = refl }; ahead = λ _. omega arith }

pub home_of_256 : IsHome 0 256 257
home_of_256 = record { within = omega arith; due = λ e. absurd (omega (arith, e)); near = λ _. record { above = refl; byte = refl }; ahead = λ _. omega arith }

pub home_of_300 : IsHome 0 300 257
home_of_300 = record { within = omega arith; due = λ e. absurd (omega (arith, e)); near = λ _. record { above = refl; byte = refl }; ahead = λ _. omega arith }

pub home_of_the_last_moment : IsHome 0 (2 ^ 64 - 1) 2047
home_of_the_last_moment = record { within = omega arith; due = λ e. absurd (omega (arith, e)); near = λ _. record { above = refl; byte = refl }; ahead = λ _. omega arith }
