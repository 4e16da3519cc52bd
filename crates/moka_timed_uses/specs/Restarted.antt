-- Sessions that were saved, and put back.
use Rattle.std.specs.Prelude.{◌≡◌, ◌==◌, ◌≤◌, ℕ, Bool, false, List, [], Some, None, Contains}
use Rattle.std.specs.FinMap.{get, empty}
use Rattle.std.specs.List.{AllByRecursion, AllZip}
use Rattle.moka_engine.specs.parts.Call.{Call}
use Rattle.moka_engine.specs.parts.Instant.{Instant}
use Rattle.moka_engine.specs.parts.Record.{Record}
use Rattle.moka_engine.specs.parts.Reply.{Reply}
use Rattle.moka_engine.specs.parts.Reply.TheVariants as reply
use Rattle.moka_engine.specs.Config.{Config, default_config}
use Rattle.moka_engine.specs.Runs.{Engine}
use Rattle.moka_engine.specs.State.{State, Meaning, is_disabled}
use Rattle.moka_engine.specs.parts.Restored.{Restored}
use Rattle.moka_cache.specs.Saves.{AddsOnly, AreThere, IsOfItem, IsRestored, IsRoomyFor, PutsAllBack, TakesOnlyExpired, has_expired}
use Rattle.moka_cache.specs.Synchronous.{Synchronous, Just, Made, Makes, own_run}
use Rattle.moka_cache.specs.Unsent.{HidesNoMore}
use Rattle.moka_restore_laws.specs.Again.{AnswerAlike}
use Rattle.moka_restore_laws.specs.Looks.{AreInTime, IsAnswered, LookAlike}
use Rattle.moka_uses.specs.Made.{IsNew, plain_meaning}

-- the cache made a run of maintenance at the moment, and no other call
abbrev pub Runs : {K V S X L P W C : Type 0} → Meaning K V X L P W C (Unit {0}) → Instant → Engine K V S X L P W → C →
    Engine K V S X L P W → C → Type 0
Runs m now old clock new clock_after = (more : Bool) × Makes m (Just (own_run now) (reply.Run more)) old clock
    new clock_after

-- what the parts of a cache of sessions mean, whose clock reads so
abbrev pub sessions_meaning : {X L P W C : Type 0} → (C → Instant → C → Type 0) → Meaning ℕ ℕ X L P W C (Unit {0})
sessions_meaning reads = plain_meaning (λ a b. a == b) reads

-- the default configuration with this idle time
abbrev pub idling : {X L W : Type 0} → ℕ → Config X L W
idling idle = record default_config { time_to_idle = Some idle }

-- this is so at the second moment that the clock tells
abbrev pub AtSecond : {C : Type 0} → (C → Instant → C → Type 0) → C → (Instant → Type 0) → Type 0
AtSecond {C} reads clock Is = (begun : Instant) × (ticked : C) × reads clock begun ticked
    × (now : Instant) × (read : C) × reads ticked now read × Is now

-- new sessions of this configuration were begun at the moment that the clock told, and those that were saved put back
-- into them at the next; no other call
abbrev pub AreBegunAgain : {S X L P W C : Type 0} → Meaning ℕ ℕ X L P W C (Unit {0}) → Config X L W → C →
    List (Restored ℕ ℕ) → Synchronous ℕ ℕ S X L P W → C → Type 0
AreBegunAgain {S} {X} {L} {P} {W} {C} m config clock saved sessions clock_after =
    (begun : Synchronous ℕ ℕ S X L P W) × (ticked : C) × IsNew m.observes config clock begun ticked
    × (now : Instant) × (read : C) × m.observes ticked now read
    × ((hash_of : S → ℕ → ℕ) × PutsAllBack m hash_of now saved begun.engine read sessions.engine clock_after)

-- each session that is there is one of those that were saved: with its token, and used when that was
abbrev pub AreAmong : {X P W : Type 0} → State ℕ ℕ X P W → List (Restored ℕ ℕ) → Type 0
AreAmong s saved = (n : ℕ) (r : Record ℕ ℕ) → get s.records n ≡ Some r → (item : Restored ℕ ℕ) × Contains saved item
    × IsOfItem item r

-- each session that was saved is there, unless it has ended at the moment
abbrev pub AreBack : {X P W : Type 0} → State ℕ ℕ X P W → List (Restored ℕ ℕ) → ℕ → Type 0
AreBack s saved now =
    AllByRecursion (λ item. has_expired s.settings now item ≡ false → IsRestored (λ a b. a == b) s item) saved

-- they were put back at the moment into new sessions with this idle time
pub record ArePutBack {X P W : Type 0} (weighs : W → ℕ → ℕ → ℕ → Type 0) (saved : List (Restored ℕ ℕ)) (put idle : ℕ)
    (s : State ℕ ℕ X P W) : Type 0 where
  pub begun : State ℕ ℕ X P W
  pub no_records : begun.records ≡ empty
  pub roomy : IsRoomyFor weighs saved begun
  pub live : begun.settings.time_to_live ≡ None
  pub idles : begun.settings.time_to_idle ≡ Some idle
  pub expiry : begun.settings.expiry ≡ None
  pub lasts : TakesOnlyExpired weighs saved put begun s
  pub there : AreThere weighs (λ a b. a == b) put saved begun s
  pub adds : AddsOnly saved begun s
  pub hides : HidesNoMore begun s

-- the sessions of the first are those of the second, if those end by this idle time alone: at each moment that is
-- before neither of the two, each user has the same in both
abbrev pub AreHandedOver : {X P W : Type 0} → (P → ℕ → ℕ → Bool → Type 0) → ℕ → ℕ → ℕ → State ℕ ℕ X P W →
    State ℕ ℕ X P W → Type 0
AreHandedOver says idle saved put first second = first.settings.time_to_idle ≡ Some idle →
    first.settings.time_to_live ≡ None →
    (user now : ℕ) → saved ≤ now → put ≤ now → AnswerAlike (λ a b. a == b) says (λ a b. b ≡ a) first second user now

-- nothing but this idle time takes a session out
pub record EndsByIdling {X P W : Type 0} (idle : ℕ) (s : State ℕ ℕ X P W) : Type 0 where
  pub idles : s.settings.time_to_idle ≡ Some idle
  pub live : s.settings.time_to_live ≡ None
  pub expiry : s.settings.expiry ≡ None
  pub enabled : is_disabled s.capacity ≡ false
  pub bound : s.invalid_before ≡ None
  pub predicates : s.predicates ≡ []

-- if so, both answer the same look-ups alike, however many and though each counts as a use, from those moments on
abbrev pub AreUsedAlike : {S X L P W : Type 0} → Meaning ℕ ℕ X L P W (Unit {0}) (Unit {0}) → ℕ → ℕ → ℕ →
    Engine ℕ ℕ S X L P W → Engine ℕ ℕ S X L P W → Type 0
AreUsedAlike {S} {X} {L} {P} {W} m idle saved put first second = EndsByIdling idle first.state → (now : ℕ)
    (after other_after : Engine ℕ ℕ S X L P W) (calls others : List (Call ℕ ℕ P))
    (replies answers : List (Reply ℕ ℕ P)) → saved ≤ now → put ≤ now → AllZip LookAlike calls others →
    AreInTime now calls → Made m calls replies first tt after tt → Made m others answers second tt other_after tt →
    AllByRecursion IsAnswered replies → AllByRecursion IsAnswered answers → answers ≡ replies
