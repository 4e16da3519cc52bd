-- Lists of look-ups of a cache, and the same of one that was made again of it.
use Rattle.std.specs.Prelude.{◌≡◌, ℕ, ◌≤◌, Bool, false, List, [], ◌∷◌, Some, None, Err, ◌⊎◌, ⊤}
use Rattle.std.specs.FinMap.{get, empty}
use Rattle.std.specs.List.{AllByRecursion, AllZip}
use Rattle.moka_types.specs.declared.calls.Call.{Call}
use Rattle.moka_types.specs.declared.calls.Call.TheVariants as call
use Rattle.moka_types.specs.declared.calls.Reply.{Reply}
use Rattle.moka_types.specs.declared.calls.Reply.TheVariants as reply
use Rattle.moka_records.specs.declared.instant.Instant.{Instant}
use Rattle.moka_records.specs.declared.records.Record.{Record}
use Rattle.moka_parts.specs.Copies.{ClonesAreEqual}
use Rattle.moka_parts.specs.Laws.{IsNoEarlier, later_of, moment_in}
use Rattle.moka_parts.specs.Runs.{Engine}
use Rattle.moka_parts.specs.Settling.{IsValid}
use Rattle.moka_parts.specs.State.{State, Meaning, is_disabled}
use Rattle.moka_engine.specs.parts.Restored.{Restored}
use Rattle.moka_calls.specs.Synchronous.{Made, Makes, Just, own_run}
use Rattle.moka_cache.specs.Saves.{IsRoomyFor, TakesOnlyExpired}
use Rattle.moka_restore_laws.specs.Again.{IsMadeAgain}

module _ {K V P : Type 0} where
  -- both look the same key up in the same way at the same moment, each by a hash of its own
  abbrev pub LookAlike : Call K V P → Call K V P → Type 0
  LookAlike (call.Get key hash need_key now) (call.Get k h need n) = (k ≡ key) × (need ≡ need_key) × (n ≡ now)
  LookAlike (call.Contains key hash now) (call.Contains k h n) = (k ≡ key) × (n ≡ now)
  LookAlike (call.Scan key now) (call.Scan k n) = (k ≡ key) × (n ≡ now)
  LookAlike c d = ⊥

  -- no look-up is earlier than the moment, nor than the one before it
  abbrev pub AreInTime : ℕ → List (Call K V P) → Type 0
  AreInTime moment [] = ⊤
  AreInTime moment (c ∷ calls) = IsNoEarlier moment (moment_in c) × AreInTime (later_of moment (moment_in c)) calls

  -- it was not refused memory
  abbrev pub IsAnswered : Reply K V P → Type 0
  IsAnswered (reply.Get (Err refused)) = ⊥
  IsAnswered (reply.Scan (Err refused)) = ⊥
  IsAnswered r = ⊤

-- each record was written no later than the moment
abbrev pub AreWrittenBy : {K V X P W : Type 0} → State K V X P W → ℕ → Type 0
AreWrittenBy {K} {V} s moment = (n : ℕ) (r : Record K V) → get s.records n ≡ Some r → r.written.0 ≤ moment

-- a cache, and one that was made again of it with the same expiry, if there is one; and nothing but time takes an entry
-- out of either
pub record IsLikeFirst {K V X P W : Type 0} (weighs : W → K → V → ℕ → Type 0) (eq : K → K → Bool)
    (says : P → K → V → Bool → Type 0) (is_key_clone : K → K → Type 0) (is_value_clone : V → V → Type 0) (saved put : ℕ)
    (items : List (Restored K V)) (first start second : State K V X P W) : Type 0 where
  pub made_again : IsMadeAgain weighs eq says is_key_clone is_value_clone saved put items first start second
  pub lasts : TakesOnlyExpired weighs items put start second
  pub roomy : IsRoomyFor weighs [] first
  pub expiry : start.settings.expiry ≡ first.settings.expiry
  pub written : (first.settings.expiry ≡ None) ⊎ AreWrittenBy first saved

-- both answer the same list of look-ups alike, reply by reply, from the moments on at which it was saved and put back
abbrev pub LooksAnswerAlike : {K V X L P W C : Type 0} → (S : Type 0) → Meaning K V X L P W C (Unit {0}) →
    (K → K → Type 0) → (V → V → Type 0) → Type 0
LooksAnswerAlike {K} {V} {X} {L} {P} {W} {C} S m is_key_clone is_value_clone =
    ClonesAreEqual is_key_clone → ClonesAreEqual is_value_clone →
    (saved put now : ℕ) (items : List (Restored K V)) (first second after other_after : Engine K V S X L P W)
    (start : State K V X P W) (clock clock_after other other_clock : C) (calls others : List (Call K V P))
    (replies answers : List (Reply K V P)) → IsValid m.eq first.state → IsValid m.eq second.state →
    IsLikeFirst m.weighs m.eq m.says is_key_clone is_value_clone saved put items first.state start second.state →
    saved ≤ now → put ≤ now → AllZip LookAlike calls others → AreInTime now calls →
    Made m calls replies first clock after clock_after → Made m others answers second other other_after other_clock →
    AllByRecursion IsAnswered replies → AllByRecursion IsAnswered answers → answers ≡ replies

-- a run that the cache asks for leaves room for all that it holds, if no predicate and no invalidation of all is left
abbrev pub RunLeavesRoom : {K V X L P W C : Type 0} → (S : Type 0) → Meaning K V X L P W C (Unit {0}) → Type 0
RunLeavesRoom {K} {V} {X} {L} {P} {W} {C} S m = (now : Instant) (more : Bool) (old new : Engine K V S X L P W)
    (clock clock_after : C) → old.state.outstanding ≡ empty → is_disabled new.state.capacity ≡ false →
    Makes m (Just (own_run now) (reply.Run more)) old clock new clock_after →
    new.state.invalid_before ≡ None → new.state.predicates ≡ [] → IsRoomyFor m.weighs [] new.state
