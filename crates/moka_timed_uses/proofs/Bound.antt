-- What the segments of a cache keep together.
use Rattle.std.proofs.Common.{◌≡◌, ◌≤◌, ℕ, List, Option, Some, None, IfSome, arith}
use Rattle.moka_cache.specs.Synchronous.{Synchronous}
use Rattle.moka_segments.specs.Whole.{IsWithinWhole, saturated, total}

module _ {K V S X L P W : Type 0} where
  -- the weight that is told is within the capacity that is told
  pub within_all : (segments : List (Synchronous K V S X L P W)) (capacity most : Option ℕ) (weight : ℕ) →
      weight ≡ total (λ s. s.engine.state.weight) segments → most ≡ saturated capacity → IsWithinWhole capacity segments → IfSome most (λ n. weight ≤ n)
  within_all segments (Some whole) most weight told most_is within = rw most_is (omega (arith, told, within))
  within_all segments None most weight told most_is within = rw most_is tt
