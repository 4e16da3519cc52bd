-- After a run of each segment the weight of all is within the capacity of all.
use Rattle.std.proofs.Common.{◌≡◌, ℕ, ◌+◌, ◌≤◌, Bool, List, [], ◌∷◌, sum_by, Option, Some, None, refl, subst, arith}
use Rattle.std.proofs.lemmas.List.Sums.{sum_by-cons}
use Rattle.moka_records.specs.declared.instant.Instant.{Instant}
use Rattle.moka_parts.specs.Exact.{IsWithin}
use Rattle.moka_parts.specs.State.{Meaning}
use Rattle.moka_parts.proofs.Counting.{exact_weight}
use Rattle.moka_calls.specs.Synchronous.{Synchronous}
use Rattle.moka_segments.specs.Whole.{Ran, AllRan, both, whole_capacity, IsWithinWhole}

-- two capacities whose sum is set are set
parts : (c d : Option ℕ) (n : ℕ) → both c d ≡ Some n → (a : ℕ) × (b : ℕ) × (c ≡ Some a) × (d ≡ Some b) × (a + b ≡ n)
parts (Some a) (Some b) n e = (a, b, refl, refl, cc)
parts (Some a) None n e = absurd cc
parts None d n e = absurd cc

module _ {K V S X L P W C : Type 0} (m : Meaning K V X L P W C (Unit {0})) (now : Instant) where
  one_within : (clock : C) (more : Bool) (clock_after : C) (x y : Synchronous K V S X L P W) → Ran m now clock more clock_after x y → (capacity : ℕ) → y.engine.state.capacity ≡ Some capacity → y.engine.state.weight ≤ capacity
  one_within clock more clock_after x y ran capacity is =
      let within = subst (λ o. IsWithin o y.engine.state.access) is ran.within in
      rw ran.exact.weight (omega (arith, within, exact_weight y.engine.state.records y.engine.state.access ran.exact.exact))

  sum_within : (clock : C) (more : Bool) (clock_after : C) (xs ys : List (Synchronous K V S X L P W)) → AllRan m now clock more clock_after xs ys → (whole : ℕ) → whole_capacity ys ≡ Some whole → sum_by (λ (s : Synchronous K V S X L P W). s.engine.state.weight) ys ≤ whole
  sum_within clock more clock_after [] [] ran whole is = omega arith
  sum_within clock more clock_after (x ∷ xs) (y ∷ ys) (first, between, rest, one, others, told) whole is =
      let (a, b, is_a, is_b, sum) = parts y.engine.state.capacity (whole_capacity ys) whole is in
      omega (arith, sum_by-cons (λ (s : Synchronous K V S X L P W). s.engine.state.weight) y ys, one_within clock first between x y one a is_a, sum_within between rest clock_after xs ys others b is_b, sum)
  sum_within clock more clock_after xs ys ran whole is = absurd ran

  pub whole_within : (clock : C) (more : Bool) (clock_after : C) (xs ys : List (Synchronous K V S X L P W)) → AllRan m now clock more clock_after xs ys → IsWithinWhole (whole_capacity ys) ys
  whole_within clock more clock_after xs ys ran = go (whole_capacity ys) refl
    where
      go : (o : Option ℕ) → whole_capacity ys ≡ o → IsWithinWhole o ys
      go None is = tt
      go (Some whole) is = sum_within clock more clock_after xs ys ran whole is
