-- A segment that is lent, to be written.
use Rattle.std.specs.Prelude.{ℕ, slice_set}
use Rattle.std.specs.Borrow.{Fml, Lends, MutBor, RattleType}
use Rattle.std.specs.declared.cmp.PartialEq as partial_eq
use Rattle.std.specs.declared.hash.BuildHasher as build_hasher
use Rattle.std.specs.declared.hash.Hash as hash
use Rattle.std.specs.declared.hash.Hasher as hasher
use Rattle.moka_types.specs.declared.policy.Expiry as expiry
use Rattle.moka_calls.specs.Synchronous.{Synchronous}
use Rattle.moka_cache.specs.contracts.cache.Cache.{the_row as cache_row}
use Rattle.moka_segments.specs.Segmented.{Segmented}
use Rattle.moka_segments.specs.contracts.segmented.SegmentedCache.{the_row}

module _ (K V X L P W S H : RattleType) (equal : partial_eq.Ghosts K.Denot) (hashed : hash.Ghosts K.Denot)
    (expires : expiry.Ghosts X.Denot K.Denot V.Denot) (build : build_hasher.Ghosts S.Denot H.Denot)
    (hashes : hasher.Ghosts H.Denot) where
  -- the segment at the index is what was written, and all else is as it was
  abbrev pub LendsSegment : MutBor (Segmented K.Denot V.Denot S.Denot X.Denot L.Denot P.Denot W.Denot) → ℕ →
      MutBor (Synchronous K.Denot V.Denot S.Denot X.Denot L.Denot P.Denot W.Denot) → Fml
  LendsSegment cache index segment =
      Lends (the_row K V X L P W S H equal hashed expires build hashes)
      (cache_row K V X L P W S H equal hashed expires build hashes) cache segment
      (λ written. record cache.now { segments = slice_set cache.now.segments index written })
