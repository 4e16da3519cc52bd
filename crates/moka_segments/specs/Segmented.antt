-- Synchronous caches side by side, and what a call makes of one of them.
use Rattle.std.specs.Prelude.{◌≡◌, ℕ, List}
use Rattle.moka_calls.specs.Synchronous.{Synchronous}
use Rattle.moka_router.specs.Routing.{Routing}
pub use Rattle.moka_router.specs.Lending.{IsAt, StepsAt}

-- the segments, and which keys are whose
pub record Segmented (K V S X L P W : Type 0) : Type 0 where
  pub routing : Routing S
  pub segments : List (Synchronous K V S X L P W)

-- the same of the segments of a cache
pub record Steps {K V S X L P W : Type 0} (index : ℕ)
    (Step : Synchronous K V S X L P W → Synchronous K V S X L P W → Type 0)
    (old new : Segmented K V S X L P W) : Type 0 where
  pub routing : new.routing ≡ old.routing
  pub one : StepsAt index Step old.segments new.segments

-- this is so of the element at the index
pub record Holds {A : Type 0} (index : ℕ) (Is : A → Type 0) (xs : List A) : Type 0 where
  pub one : A
  pub there : IsAt xs index one
  pub is : Is one

-- this is so of the element at the index, if there is one
pub record HoldsIfThere {A : Type 0} (index : ℕ) (Is : A → Type 0) (xs : List A) : Type 0 where
  pub at : (x : A) → IsAt xs index x → Is x
