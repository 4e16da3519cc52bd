-- What a look-up of many keys makes.
use Rattle.std.proofs.Common.{◌≡◌, refl, ℕ, List, [], ◌∷◌, ◌++◌, Option, Result, Ok, Err}
use Rattle.moka_types.specs.declared.error.OutOfMemory.{OutOfMemory}
use Rattle.moka_records.specs.declared.instant.Instant.{Instant}
use Rattle.moka_parts.specs.Copies.{IsCopiedAnswer}
use Rattle.moka_parts.specs.State.{Meaning}
use Rattle.moka_parts.specs.Runs.{Engine}
use Rattle.moka_parts.specs.declared.stats.Stats.{Stats}
use Rattle.moka_parts.specs.Counters.{after_look_up, after_look_ups}
use Rattle.moka_calls.specs.Many.{GetsItem}
use Rattle.moka_calls.specs.Synchronous.{GetsValue, Makes}

-- one look-up more is counted
pub counts_one_more : {V : Type 0} (found : List (Option V)) (one : Option V) (s : Stats) → after_look_ups (found ++ one ∷ []) s ≡ after_look_up {V = V} {E = OutOfMemory} (Ok one) (after_look_ups found s)
counts_one_more [] one s = refl
counts_one_more {V} (f ∷ fs) one s = counts_one_more fs one (after_look_up {V = V} {E = OutOfMemory} (Ok f) s)

module _ {K V S X L P W C : Type 0} (m : Meaning K V X L P W C (Unit {0})) (is_clone : V → V → Type 0) (hash_of : K → ℕ) (now : Instant) (key : K) (old new : Engine K V S X L P W) (c1 c2 : C) where
  -- a look-up with an answer finds a clone
  pub got_item : (own : Result (Option V) OutOfMemory) (found : Option V) → IsCopiedAnswer is_clone own (Ok found) → Makes m (GetsValue key (hash_of key) now own) old c1 new c2 → Makes m (GetsItem is_clone hash_of now (key, found)) old c1 new c2
  got_item (Ok own) found copied (calls, replies, gets, made) = (calls, replies, (own, copied, gets), made)
  got_item (Err e) found copied made = absurd (cc)

  -- one that is refused is refused by the engine
  pub refused_get : (own : Result (Option V) OutOfMemory) (e : OutOfMemory) → IsCopiedAnswer is_clone own (Err e) → Makes m (GetsValue key (hash_of key) now own) old c1 new c2 → (refused : OutOfMemory) × Makes m (GetsValue key (hash_of key) now (Err refused)) old c1 new c2
  refused_get (Ok own) e copied made = absurd copied
  refused_get (Err refused) e copied made = (refused, made)
