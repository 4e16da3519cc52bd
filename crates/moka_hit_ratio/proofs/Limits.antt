-- What a read and an insert of a synchronous cache leave of its limits.
use Rattle.std.proofs.Common.{◌∙◌, ℕ, List, Option, Result}
use Rattle.moka_engine.specs.parts.Call.{Call}
use Rattle.moka_engine.specs.parts.Instant.{Instant}
use Rattle.moka_engine.specs.parts.InsertRefused.{InsertRefused}
use Rattle.moka_engine.specs.parts.OutOfMemory.{OutOfMemory}
use Rattle.moka_engine.specs.parts.Reply.{Reply}
use Rattle.moka_engine.specs.Runs.{Engine}
use Rattle.moka_engine.specs.State.{Meaning, State}
use Rattle.moka_cache.specs.Keyed.{Gets, Inserts}
use Rattle.moka_cache.specs.Limits.{HasSameLimits, SetNone}
use Rattle.moka_cache.specs.Synchronous.{Just, Makes, Synchronous, own_run}
use Rattle.moka_cache.proofs.Limits.{calls_set_none, keeps_limits}

module _ {K V X P W : Type 0} where
  -- one after the other
  pub limits_then : (s t u : State K V X P W) → HasSameLimits s t → HasSameLimits t u → HasSameLimits s u
  limits_then s t u first second = record { settings = second.settings ∙ first.settings; capacity = second.capacity ∙ first.capacity }

module _ {K V S X L P W C : Type 0} (m : Meaning K V X L P W C (Unit {0})) where
  kept_over : (Fit : List (Call K V P) → List (Reply K V P) → Type 0) → SetNone Fit → (old new : Engine K V S X L P W) (clock clock_after : C) → Makes m Fit old clock new clock_after → HasSameLimits old.state new.state
  kept_over Fit none old new clock clock_after (calls, replies, fits, made) = keeps_limits m S calls replies old new clock clock_after made (none calls replies fits)

  -- a run of maintenance keeps them
  pub run_keeps : (now : Instant) (reply : Reply K V P) (old new : Engine K V S X L P W) (clock clock_after : C) → Makes m (Just (own_run now) reply) old clock new clock_after → HasSameLimits old.state new.state
  run_keeps now reply old new clock clock_after (calls, replies, (asked, replied), made) = keeps_limits m S calls replies old new clock clock_after made (rw asked (tt, tt))

  module _ (hash_of : S → K → ℕ) (key : K) (now : Instant) (old new : Synchronous K V S X L P W) (clock clock_after : C) where
    -- and so does a get
    pub get_keeps : (is_clone : V → V → Type 0) (result : Result (Option V) OutOfMemory) → Gets m hash_of key now clock clock_after is_clone result old new → HasSameLimits old.engine.state new.engine.state
    get_keeps is_clone result got =
        let (own, copied, made) = got.made in
        kept_over _ ((calls_set_none K V P (Unit {0}) key (hash_of old.engine.hasher key) now).get own) old.engine new.engine clock clock_after made

    -- and an insert
    pub insert_keeps : (value : V) (result : Result (Unit {0}) (InsertRefused K V)) → Inserts m hash_of key now clock clock_after value result old new → HasSameLimits old.engine.state new.engine.state
    insert_keeps value result inserted = kept_over _ ((calls_set_none K V P (Unit {0}) key (hash_of old.engine.hasher key) now).insert value result) old.engine new.engine clock clock_after inserted.made
