-- What a look-up answered, where clones of values are equal.
use Rattle.std.proofs.Common.{◌≡◌, ℕ, Option, Result, sym, subst}
use Rattle.moka_engine.specs.parts.Instant.{Instant}
use Rattle.moka_engine.specs.parts.OutOfMemory.{OutOfMemory}
use Rattle.moka_engine.specs.Copies.{IsCopiedAnswer}
use Rattle.moka_engine.specs.Runs.{Engine}
use Rattle.moka_engine.specs.State.{Meaning}
use Rattle.moka_engine.proofs.Copies.{answer-same}
use Rattle.moka_cache.specs.Synchronous.{GetsValue, Makes}
use Rattle.moka_uses.specs.Made.{LooksUp}

module _ {K V S X L P W C : Type 0} (m : Meaning K V X L P W C (Unit {0})) (key : K) (hash : ℕ) (now : Instant) (old : Engine K V S X L P W) (clock : C) (new : Engine K V S X L P W) (clock_after : C) where
  pub looked_up : (own result : Result (Option V) OutOfMemory) → IsCopiedAnswer (λ a b. b ≡ a) own result → Makes m (GetsValue key hash now own) old clock new clock_after → LooksUp m key now old clock new clock_after result
  looked_up own result copy makes = (hash, subst (λ o. Makes m (GetsValue key hash now o) old clock new clock_after) (sym (answer-same (λ a b. b ≡ a) (λ x y same. same) own result copy)) makes)
