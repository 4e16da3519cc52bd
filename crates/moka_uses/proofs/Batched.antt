-- What comes back of calls for many keys.
use Rattle.std.proofs.Common.{◌≡◌, refl, ℕ, List, [], ◌∷◌, ◌++◌, map, length, Option, Result, Ok, Err, ap, sym, ◌∙◌}
use Rattle.std.specs.Prelude.{IfOk, IfErr}
use Rattle.std.specs.Vec.Iter.{into_iter_items}
use Rattle.std.specs.declared.alloc.Global.{Global}
use Rattle.std.specs.declared.vec.Vec.{Vec}
use Rattle.moka_engine.specs.parts.Instant.{Instant}
use Rattle.moka_engine.specs.Runs.{Engine}
use Rattle.moka_engine.specs.State.{Meaning}
use Rattle.moka_cache.specs.parts.GetManyRefused.{GetManyRefused}
use Rattle.moka_cache.specs.parts.InsertManyRefused.{InsertManyRefused}
use Rattle.moka_cache.specs.parts.InvalidateManyRefused.{InvalidateManyRefused}
use Rattle.moka_cache.specs.Many.{GetsMany, InsertsMany, InvalidatesMany}
use Rattle.moka_cache.specs.Synchronous.{Makes}

same_length : {A B : Type 0} (pairs : List (A × B)) → length (map (λ p. p.1) pairs) ≡ length (map (λ p. p.0) pairs)
same_length [] = refl
same_length (p ∷ ps) = rw (same_length ps) refl

module _ {K V S X L P W C : Type 0} (m : Meaning K V X L P W C (Unit {0})) (hash_of : K → ℕ) (now : Instant) (old new : Engine K V S X L P W) (clock clock_after : C) where
  -- of an insert of many that was refused the rest comes back
  pub rest_back : (rows : List (K × V)) (result : Result (Unit {0}) (InsertManyRefused K V)) → Makes m (InsertsMany hash_of now rows result) old clock new clock_after
      → IfErr result (λ e. (put : List (K × V)) × (rows ≡ put ++ (e.refused.key, e.refused.value) ∷ into_iter_items e.rest) × (e.done ≡ length put))
  rest_back rows (Ok all) makes = tt
  rest_back rows (Err e) (calls, replies, (put, are, done, inserts), made) = (put, are, done)

  -- there is an answer for each key
  pub one_answer_each : (is_clone : V → V → Type 0) (keys : List K) (result : Result (Vec (Option V) Global) (GetManyRefused V)) → Makes m (GetsMany is_clone hash_of now keys result) old clock new clock_after → IfOk result (λ found. length found.items ≡ length keys)
  one_answer_each is_clone keys (Ok found) (calls, replies, (got, keys_are, found_are, gets), made) = ap length found_are ∙ same_length got ∙ sym (ap length keys_are)
  one_answer_each is_clone keys (Err e) makes = tt

  -- an invalidation of many stopped at a key
  pub stopped_at : (keys : List K) (result : Result (Unit {0}) (InvalidateManyRefused V)) → Makes m (InvalidatesMany hash_of now keys result) old clock new clock_after
      → IfErr result (λ e. (before : List K) × (key : K) × (after : List K) × (keys ≡ before ++ key ∷ after) × (e.done ≡ length before))
  stopped_at keys (Ok all) makes = tt
  stopped_at keys (Err e) (calls, replies, (before, key, after, are, done, removes), made) = (before, key, after, are, done)
