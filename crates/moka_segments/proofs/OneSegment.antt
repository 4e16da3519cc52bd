-- A step of a segment that is lent is one of the cache.
use Rattle.std.proofs.Common.{ℕ, slice_set, refl}
use Rattle.moka_calls.specs.Synchronous.{Synchronous}
use Rattle.moka_segments.specs.Segmented.{Segmented, IsAt, Steps}

pub steps_in : {K V S X L P W : Type 0} (s : Segmented K V S X L P W) (index : ℕ) (Step : Synchronous K V S X L P W → Synchronous K V S X L P W → Type 0) (x y : Synchronous K V S X L P W) → IsAt s.segments index x → Step x y → Steps index Step s (record s { segments = slice_set s.segments index y })
steps_in s index Step x y there step = record { routing = refl; one = record { before = x; after = y; there = there; step = step; others = refl } }
