-- What a call that concerns all segments makes of them, and what it tells of their sum.
use Rattle.std.specs.Prelude.{ℕ, ◌≤◌, min, List, [], ◌∷◌, Option, Some, None, sum_by, ⊤}
use Rattle.moka_records.specs.Time.{greatest, plus}
use Rattle.moka_parts.specs.declared.stats.Stats.{Stats}
use Rattle.moka_calls.specs.Synchronous.{Synchronous}
pub use Rattle.moka_cache.specs.Each.{Hides, Ran, AllRan}
pub use Rattle.moka_router.specs.Capacity.{both, saturated}

-- what two count, each sum saturating
abbrev pub both_stats : Stats → Stats → Stats
both_stats one other = record {
  hits = plus one.hits other.hits;
  misses = plus one.misses other.misses;
  loads = plus one.loads other.loads;
}

module _ {K V S X L P W : Type 0} where
  -- the sum of what each segment tells, saturating
  abbrev pub total : (Synchronous K V S X L P W → ℕ) → List (Synchronous K V S X L P W) → ℕ
  total tells segments = min (sum_by tells segments) greatest

  -- hits, misses and loads of all
  abbrev pub total_stats : List (Synchronous K V S X L P W) → Stats
  total_stats segments = record {
    hits = total (λ s. s.stats.hits) segments;
    misses = total (λ s. s.stats.misses) segments;
    loads = total (λ s. s.stats.loads) segments;
  }

  -- the capacity of all, if each has one
  abbrev pub whole_capacity : List (Synchronous K V S X L P W) → Option ℕ
  whole_capacity [] = Some 0
  whole_capacity (s ∷ ss) = both s.engine.state.capacity (whole_capacity ss)

  -- the weight of all is within the capacity of all, if each has one
  abbrev pub IsWithinWhole : Option ℕ → List (Synchronous K V S X L P W) → Type 0
  IsWithinWhole None segments = ⊤
  IsWithinWhole (Some whole) segments = sum_by (λ s. s.engine.state.weight) segments ≤ whole
