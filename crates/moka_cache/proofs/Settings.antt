-- No look-up and no removal changes the settings.
use Rattle.std.proofs.Common.{◌≡◌, ℕ, List, Option, Result}
use Rattle.moka_records.specs.declared.instant.Instant.{Instant}
use Rattle.moka_types.specs.declared.calls.Call.{Call}
use Rattle.moka_types.specs.declared.calls.Reply.{Reply}
use Rattle.moka_types.specs.declared.error.OutOfMemory.{OutOfMemory}
use Rattle.moka_parts.specs.Runs.{Engine}
use Rattle.moka_parts.specs.State.{Meaning}
use Rattle.moka_calls.specs.Limits.{SetNone}
use Rattle.moka_calls.specs.Synchronous.{Makes, GetsValue, RemovesEntry}
use Rattle.moka_calls.proofs.Limits.{calls_set_none, keeps_limits}

module _ {K V S X L P W C : Type 0} (m : Meaning K V X L P W C (Unit {0})) (old new : Engine K V S X L P W) (clock clock_after : C) where
  kept : (Fit : List (Call K V P) → List (Reply K V P) → Type 0) → SetNone Fit → Makes m Fit old clock new clock_after → new.state.settings ≡ old.state.settings
  kept Fit none (calls, replies, fits, made) = (keeps_limits m S calls replies old new clock clock_after made (none calls replies fits)).settings

  pub kept_by_get : (key : K) (hash : ℕ) (now : Instant) (own : Result (Option V) OutOfMemory) → Makes m (GetsValue key hash now own) old clock new clock_after → new.state.settings ≡ old.state.settings
  kept_by_get key hash now own = kept _ ((calls_set_none K V P (Unit {0}) key hash now).get own)

  pub kept_by_removal : (key : K) (hash : ℕ) (now : Instant) (taken : Option (V × Result (Unit {0}) OutOfMemory)) → Makes m (RemovesEntry key hash now taken) old clock new clock_after → new.state.settings ≡ old.state.settings
  kept_by_removal key hash now taken = kept _ ((calls_set_none K V P (Unit {0}) key hash now).remove taken)
