-- A cache in front of a source.
use Rattle.std.specs.Prelude.{◌≡◌, ℕ, Bool, Result}
use Rattle.moka_engine.specs.parts.Instant.{Instant}
use Rattle.moka_engine.specs.State.{Meaning}
use Rattle.moka_cache.specs.parts.GetWithRefused.{GetWithRefused}
use Rattle.moka_cache.specs.parts.CountingListener.{CountingListener}
use Rattle.moka_cache.specs.Removed.{counting}
use Rattle.moka_cache.specs.Synchronous.{Synchronous, GetsWith}
use Rattle.moka_uses.specs.Made.{plain_meaning}

-- what the parts of such a cache mean whose listener counts, and tells nobody else
abbrev pub counting_meaning : {K V X L P W C : Type 0} → (K → K → Bool) → (C → Instant → C → Type 0) →
    Meaning K V X (CountingListener L) P W C (Unit {0})
counting_meaning eq reads =
    record (plain_meaning eq reads) { tells = counting (λ before _ _ _ after. after ≡ before) }

-- the cache made a look-up of the key, and only if it found nothing an insert of the value that was made then; the
-- answer is what a get with a maker hands out
abbrev pub ReadsThrough : {K V S X L P W C : Type 0} → Meaning K V X L P W C (Unit {0}) → (V → V → Type 0) → K →
    Instant → Synchronous K V S X L P W → C → Synchronous K V S X L P W → C → (V → Type 0) →
    Result V (GetWithRefused K V) → Type 0
ReadsThrough m is_clone key now old clock new clock_after Answers result =
    (hash : ℕ) × GetsWith m is_clone key hash now old clock new clock_after Answers result
