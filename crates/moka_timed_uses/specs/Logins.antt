-- Sessions of users who may have several.
use Rattle.std.specs.Prelude.{◌≡◌, ℕ, Bool, false, ◌==◌, ◌≤◌, List, Some}
use Rattle.moka_engine.specs.parts.Instant.{Instant}
use Rattle.moka_engine.specs.parts.Record.{Record}
use Rattle.moka_engine.specs.parts.Uuid.{Uuid}
use Rattle.moka_engine.specs.Calls.{ContainsStep}
use Rattle.moka_engine.specs.Laws.{NeverGoesBack, InsertsNever, last_moment}
use Rattle.moka_engine.specs.Maintenance.{MaintenanceRun}
use Rattle.moka_engine.specs.Records.{record_of_key}
use Rattle.moka_engine.specs.Runs.{Engine, Step, AreSteps, last_state}
use Rattle.moka_engine.specs.State.{State, Meaning}
use Rattle.moka_uses.specs.Made.{simple_meaning}
use Rattle.moka_timed_uses.specs.declared.logins.OfUser.{OfUser}
use Rattle.moka_timed_uses.specs.declared.logins.Session.{Session}

-- whether a session is the user's
abbrev pub is_of : OfUser → ℕ → Session → Bool → Type 0
is_of of _ session answer = answer ≡ (session.user == of.0)

-- what the parts of the cache mean: there is no listener, no expiry but by times, and each session weighs 1
abbrev pub meaning : {X L W C I : Type 0} → (C → Instant → C → Type 0) → (I → Uuid → I → Type 0) →
    Meaning ℕ Session X L OfUser W C I
meaning reads gives = simple_meaning (λ a b. a == b) is_of reads gives

module _ {X W : Type 0} (s : State ℕ Session X OfUser W) (number : ℕ) where
  -- the number has a session of the user, which was begun at that moment or before
  abbrev pub IsOfUser : ℕ → ℕ → Type 0
  IsOfUser user now = (r : Record ℕ Session) × (record_of_key (λ a b. a == b) s.records number ≡ Some r)
      × (r.value.user ≡ user) × (r.written.0 ≤ now)

  -- the number has a session of another user
  abbrev pub IsOfOther : ℕ → Type 0
  IsOfOther user = (r : Record ℕ Session) × (record_of_key (λ a b. a == b) s.records number ≡ Some r)
      × ((r.value.user == user) ≡ false)

  -- the number has no session that is shown, at whatever moment
  abbrev pub HasEnded : Type 0
  HasEnded = (later : ℕ) (shown : Bool) → ContainsStep is_of (λ a b. a == b) s number later shown → shown ≡ false

-- nor is one shown after calls none of which begins a session under the number, if moments never go back
abbrev pub StaysEnded : {X L W C I : Type 0} → Meaning ℕ Session X L OfUser W C I → State ℕ Session X OfUser W → ℕ → ℕ →
    Type 0
StaysEnded {X} {L} {W} m s number now = (steps : List (Step ℕ Session X OfUser W)) (later : ℕ) (shown : Bool) →
    AreSteps m (MaintenanceRun is_of) s steps → NeverGoesBack now s steps → InsertsNever (λ a b. a == b) number steps →
    last_moment now steps ≤ later →
    ContainsStep is_of (λ a b. a == b) (last_state s steps) number later shown → shown ≡ false

-- what a log-out of a user at a moment leads to
pub record LogsOut {S X L W C I : Type 0} (m : Meaning ℕ Session X L OfUser W C I)
    (old new : Engine ℕ Session S X L OfUser W) (user now : ℕ) : Type 0 where
  -- none of the user's sessions is shown
  pub ended : (number : ℕ) → IsOfUser old.state number user now → HasEnded new.state number
  -- nor after further calls
  pub stays : (number : ℕ) → IsOfUser old.state number user now → StaysEnded m new.state number now
  -- the sessions of others are shown as before
  pub others : (number : ℕ) → IsOfOther old.state number user → (later : ℕ) (shown : Bool) →
      ContainsStep is_of (λ a b. a == b) old.state number later shown →
      ContainsStep is_of (λ a b. a == b) new.state number later shown
