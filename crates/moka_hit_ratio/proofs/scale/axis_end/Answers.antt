use Rattle.std.proofs.Common.{◌≡◌, ◌∙◌, ◌<◌, ◌≤◌, ◌+◌, ◌*◌, ◌-◌, ◌/◌, ◌%◌, ◌^◌, ℕ, suc, zero, ap, arith, inl, inr, max, min, refl}
use Rattle.std.proofs.lemmas.Bool.{cases_order}
use Rattle.std.proofs.lemmas.Nat.{div-mul-add, div_below, mod-mul-add, mul-le}
use Rattle.moka_hit_ratio.proofs.scale.axis_end.Goals as goal

-- ticks have no remainder
on_tick : (n step : ℕ) → 0 < step → (n * step) % step ≡ 0
on_tick n step some = ap (λ m. m % step) (omega arith) ∙ mod-mul-add n step 0 some

-- nor has the end, if it fits
end_on_tick : (n step product : ℕ) → 0 < step → product ≡ min (n * step) (2 ^ 64 - 1) → max product step < 2 ^ 64 - 1 → max product step % step ≡ 0
end_on_tick zero step product some is fits = ap (λ m. m % step) (omega (arith, is)) ∙ on_tick 1 step some
end_on_tick (suc n) step product some is fits = ap (λ m. m % step) (omega (arith, is, fits)) ∙ on_tick (suc n) step some

-- no fewer ticks reach the value
fewest : (top step n more : ℕ) → 0 < step → top ≤ n * step → more ≤ 1 → (top % step ≡ 0 → more ≡ 0) → top / step + more ≤ n
fewest top step n more some above one none = elim (cases_order top (n * step)) [
  | inl same ↦
      let whole : top / step ≡ n = ap (λ m. m / step) (omega (arith, same)) ∙ div-mul-add n step 0 some in
      omega (arith, whole, none (ap (λ m. m % step) same ∙ on_tick n step some))
  | inr (inl below) ↦ omega (arith, one, div_below top step n some below)
  | inr (inr over) ↦ absurd (omega (arith, above, over))
]

pub returns-clause-tick : goal.returns-clause-tick
returns-clause-tick c = λ fits. ap (λ end. end % c.args.step) c.max.ensures ∙ end_on_tick c.saturating_add-ticks.result c.args.step c.saturating_mul.result c.requires c.saturating_mul.ensures (omega (arith, fits, c.max.ensures))

pub returns-clause-first : goal.returns-clause-first
returns-clause-first c = λ n some above.
    let few = fewest c.args.top c.args.step n c.from.result c.requires above (grind (arith, c.from.ensures)) (λ none. rw (c.from.ensures, none) refl) in
    let product = mul-le c.saturating_add-ticks.result c.args.step n c.args.step (omega (arith, few, c.saturating_add-ticks.ensures)) (omega arith) in
    let one = mul-le 1 c.args.step n c.args.step (omega (arith, some)) (omega arith) in
    omega (arith, product, one, c.saturating_mul.ensures, c.max.ensures)
