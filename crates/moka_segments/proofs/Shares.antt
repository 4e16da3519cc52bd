-- The parts of a capacity sum to it.
use Rattle.std.proofs.Common.{◌≡◌, ℕ, suc, ◌+◌, ◌*◌, ◌/◌, ◌%◌, ◌<◌, min, List, [], ◌∷◌, length, slice_index_or, Some, refl, ap, ◌∙◌, arith}
use Rattle.moka_calls.specs.Synchronous.{Synchronous}
use Rattle.moka_router.specs.Routing.{share}
use Rattle.moka_segments.specs.Whole.{both, whole_capacity}

-- the sum of the first parts
unfoldable first_shares : ℕ → ℕ → ℕ → ℕ
first_shares count whole n = n * (whole / count) + min n (whole % count)

next_share : (count whole n : ℕ) → first_shares count whole (n + 1) ≡ first_shares count whole n + share count whole n
unfolding share first_shares
next_share count whole n = grind (arith)

all_shares : (count whole : ℕ) → 0 < count → first_shares count whole count ≡ whole
unfolding first_shares
all_shares count whole some = omega arith

no_shares : (count whole : ℕ) → first_shares count whole 0 ≡ 0
unfolding first_shares
no_shares count whole = omega arith

module _ {K V S X L P W : Type 0} (count whole : ℕ) where
  -- segments that have the parts from the first on
  have_sum : (xs : List (Synchronous K V S X L P W)) (first : ℕ) → ((k : ℕ) (d : Synchronous K V S X L P W) → k < length xs → (slice_index_or xs k d).engine.state.capacity ≡ Some (share count whole (first + k)))
      → (sum : ℕ) × (whole_capacity xs ≡ Some sum) × (first_shares count whole first + sum ≡ first_shares count whole (first + length xs))
  have_sum [] first each =
      let none : first + 0 ≡ first = omega arith in
      (0, refl, omega (arith, ap (first_shares count whole) none))
  have_sum (x ∷ xs) first each =
      let next : (k : ℕ) → first + suc k ≡ first + 1 + k = λ k. omega arith in
      let none : first + 0 ≡ first = omega arith in
      let (rest, is, adds) = have_sum xs (first + 1) (λ k d within. each (suc k) d (omega arith) ∙ ap (λ n. Some (share count whole n)) (next k)) in
      let one : x.engine.state.capacity ≡ Some (share count whole first) = each 0 x (omega arith) ∙ ap (λ n. Some (share count whole n)) none in
      let more : first + 1 + length xs ≡ first + length (x ∷ xs) = omega arith in
      let sum : first_shares count whole first + (share count whole first + rest) ≡ first_shares count whole (first + length (x ∷ xs)) = omega (arith, next_share count whole first, adds, ap (first_shares count whole) more) in
      (share count whole first + rest, ap (λ c. both c (whole_capacity xs)) one ∙ ap (both (Some (share count whole first))) is, sum)

  -- segments that have all parts
  pub sum_is : (xs : List (Synchronous K V S X L P W)) → 0 < count → length xs ≡ count → ((k : ℕ) (d : Synchronous K V S X L P W) → k < length xs → (slice_index_or xs k d).engine.state.capacity ≡ Some (share count whole k)) → whole_capacity xs ≡ Some whole
  sum_is xs some as_many each =
      let first : (k : ℕ) → k ≡ 0 + k = λ k. omega arith in
      let (all, is, adds) = have_sum xs 0 (λ k d within. each k d within ∙ ap (λ n. Some (share count whole n)) (first k)) in
      let end : 0 + length xs ≡ count = omega arith in
      let sum : all ≡ whole = omega (arith, adds, no_shares count whole, all_shares count whole some, ap (first_shares count whole) end) in
      is ∙ ap Some sum
