-- What a call of each of several caches makes of them.
use Rattle.std.specs.Prelude.{◌≡◌, Bool, false, ◌||◌, List, [], ◌∷◌, Some}
use Rattle.moka_types.specs.declared.calls.Reply.TheVariants as reply
use Rattle.moka_parts.specs.declared.notification.RemovalCause.{RemovalCause}
use Rattle.moka_records.specs.declared.instant.Instant.{Instant}
use Rattle.moka_parts.specs.Calls.{no_events}
use Rattle.moka_parts.specs.Exact.{IsExact, IsWithin}
use Rattle.moka_parts.specs.Runs.{Befalls}
use Rattle.moka_parts.specs.State.{Meaning}
use Rattle.moka_cache.specs.Saves.{HasOnlyMembers}
use Rattle.moka_calls.specs.Synchronous.{Synchronous, Makes, Just, own_run}

-- a cache hides what was written or read before the moment
pub record Hides {K V S X L P W : Type 0} (tells : L → K → V → RemovalCause → L → Type 0) (now : Instant)
    (old new : Synchronous K V S X L P W) : Type 0 where
  pub step : new.engine.state ≡ record old.engine.state { invalid_before = Some now }
  pub events : Befalls tells no_events old.engine new.engine
  pub counted : new.stats ≡ old.stats

-- a cache ran, and told whether more is left
pub record Ran {K V S X L P W C : Type 0} (m : Meaning K V X L P W C (Unit {0})) (now : Instant) (clock : C)
    (more : Bool) (clock_after : C) (old new : Synchronous K V S X L P W) : Type 0 where
  pub made : Makes m (Just (own_run now) (reply.Run more)) old.engine clock new.engine clock_after
  pub exact : IsExact new.engine.state
  pub within : IsWithin new.engine.state.capacity new.engine.state.access
  pub members : HasOnlyMembers new.engine.state
  pub counted : new.stats ≡ old.stats

-- the caches ran one after the other, and more is left if one told so
abbrev pub AllRan : {K V S X L P W C : Type 0} → Meaning K V X L P W C (Unit {0}) → Instant → C → Bool → C →
    List (Synchronous K V S X L P W) → List (Synchronous K V S X L P W) → Type 0
AllRan m now clock more clock_after [] [] = (more ≡ false) × (clock_after ≡ clock)
AllRan {C = C} m now clock more clock_after (x ∷ xs) (y ∷ ys) =
    (first : Bool) × (between : C) × (rest : Bool) × Ran m now clock first between x y
    × AllRan m now between rest clock_after xs ys × (more ≡ (first || rest))
AllRan m now clock more clock_after xs ys = ⊥
