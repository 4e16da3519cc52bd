-- What the cache's surroundings go through: the listener, the clock, the source of identifiers, and a caller's own
-- test.
use Rattle.std.specs.Prelude.{◌≡◌, Bool, false, List, [], ◌∷◌, Option, Some, None}
use Rattle.moka_parts.specs.declared.notification.RemovalCause.{RemovalCause}
use Rattle.moka_parts.specs.Notices.{Notice}

-- the steps of an object, one per item, lead from the first state to the second
abbrev pub Leads : {S A : Type 0} → (S → A → S → Type 0) → S → List A → S → Type 0
Leads step before [] after = after ≡ before
Leads {S} step before (x ∷ xs) after = (mid : S) × step before x mid × Leads step mid xs after

-- a notice as a step of the listener
abbrev pub NoticeStep : {K V L : Type 0} → (L → K → V → RemovalCause → L → Type 0) → L → Notice K V → L → Type 0
NoticeStep tells before n after = tells before n.0 n.1 n.2 after

-- the listener's own steps, one per notice; without one there is nothing to hear
abbrev pub Heard : {K V L : Type 0} → (L → K → V → RemovalCause → L → Type 0) → Option L → List (Notice K V) →
    Option L → Type 0
Heard tells None notices None = notices ≡ []
Heard tells (Some before) notices (Some after) = Leads (NoticeStep tells) before notices after
Heard tells None notices (Some after) = ⊥
Heard tells (Some before) notices None = ⊥

-- a caller's own test is asked once of the value that is found, and never else; true means that the record is ignored
abbrev pub IsAskedOnce : {V I : Type 0} → (I → V → Bool → I → Type 0) → Option I → Option V → Bool → Option I → Type 0
IsAskedOnce asks None found ignored after = (ignored ≡ false) × (after ≡ None)
IsAskedOnce asks (Some before) None ignored after = (ignored ≡ false) × (after ≡ Some before)
IsAskedOnce asks (Some before) (Some value) ignored (Some after) = asks before value ignored after
IsAskedOnce asks (Some before) (Some value) ignored None = ⊥
