-- Why values leave, and what a notifier hears.
use Rattle.std.specs.Prelude.{Bool, true, false, [], ◌∷◌, Option, is_some}
use Rattle.moka_parts.specs.declared.notification.RemovalCause.{RemovalCause}
use Rattle.moka_parts.specs.declared.notification.RemovalCause.TheVariants.{Expired, Explicit, Replaced, Size}
use Rattle.moka_parts.specs.Notices.{when_listening}
use Rattle.moka_parts.specs.Surroundings.{Heard}

-- the value was not taken out by a caller
abbrev pub was_evicted : RemovalCause → Bool
was_evicted Expired = true
was_evicted Explicit = false
was_evicted Replaced = false
was_evicted Size = true

-- one notice is one step of the listener, and nothing if none is set
abbrev pub HearsOnce : {K V L : Type 0} → (L → K → V → RemovalCause → L → Type 0) → Option L → K → V → RemovalCause →
    Option L → Type 0
HearsOnce tells before key value cause after =
    Heard tells before (when_listening (is_some before) ((key, value, cause) ∷ [])) after
