-- A cache that is made again of what was saved of another.
use Rattle.std.specs.Prelude.{◌≡◌, ℕ, ◌≤◌, Bool, false, List, [], Some, None, ◌↔◌}
use Rattle.std.specs.FinMap.{empty}
use Rattle.moka_records.specs.declared.records.Record.{Record}
use Rattle.moka_records.specs.Records.{record_of_key}
use Rattle.moka_parts.specs.Runs.{IsEmpty}
use Rattle.moka_parts.specs.Settling.{IsValid}
use Rattle.moka_parts.specs.State.{State, is_disabled}
use Rattle.moka_parts.specs.Visibility.{IsVisible}
use Rattle.moka_engine.specs.parts.Restored.{Restored}
use Rattle.moka_engine.specs.Snapshot.{scene_of}
use Rattle.moka_cache.specs.Saves.{AddsOnly, AreSaved, AreThere, HasOnlyMembers, IsRoomyFor, WeighAtMost}
use Rattle.moka_cache.specs.Unsent.{HidesNoMore}
use Rattle.moka_cache.specs.Visible.{ClonesAreSameKeys}

-- a record that was visible at one moment, and one with the same value, moments and expiry in a cache with the same
-- times and no invalidation: whenever one is visible the other is
abbrev pub AnswersAlike : {K V P : Type 0} → (X W : Type 0) → (P → K → V → Bool → Type 0) → Type 0
AnswersAlike {K} {V} {P} X W says = (first second : State K V X P W) (r q : Record K V) (seen now : ℕ) →
    second.settings.time_to_live ≡ first.settings.time_to_live →
    second.settings.time_to_idle ≡ first.settings.time_to_idle → second.invalid_before ≡ None → second.predicates ≡ [] →
    q.written ≡ r.written → q.read ≡ r.read → q.expires ≡ r.expires → IsVisible says first r seen
    → IsVisible says first r now ↔ IsVisible says second q now

-- ---- a cache made again

-- the second cache was made again of the first: what `save` lists of it at one moment was put back at another, as
-- `restore` promises, into an empty cache with the same times and room for all
pub record IsMadeAgain {K V X P W : Type 0} (weighs : W → K → V → ℕ → Type 0) (eq : K → K → Bool)
    (says : P → K → V → Bool → Type 0) (is_key_clone : K → K → Type 0) (is_value_clone : V → V → Type 0) (saved put : ℕ)
    (items : List (Restored K V)) (first start second : State K V X P W) : Type 0 where
  pub items_saved : AreSaved says is_key_clone is_value_clone (scene_of first saved) first.access items
  pub all_saved : HasOnlyMembers first
  pub no_records : start.records ≡ empty
  pub roomy : IsRoomyFor weighs items start
  pub time_to_live : start.settings.time_to_live ≡ first.settings.time_to_live
  pub time_to_idle : start.settings.time_to_idle ≡ first.settings.time_to_idle
  pub there : AreThere weighs eq put items start second
  pub adds : AddsOnly items start second
  pub hides : HidesNoMore start second

-- a look-up of the key finds this record at the moment
abbrev pub IsSeen : {K V X P W : Type 0} → (K → K → Bool) → (P → K → V → Bool → Type 0) → State K V X P W → K → ℕ →
    Record K V → Type 0
IsSeen eq says s key now r = (record_of_key eq s.records key ≡ Some r) × IsVisible says s r now

-- both caches answer a look-up of the key at the moment alike: what one finds the other finds, and the value in the
-- second is a clone of that in the first
pub record AnswerAlike {K V X P W : Type 0} (eq : K → K → Bool) (says : P → K → V → Bool → Type 0)
    (is_value_clone : V → V → Type 0) (first second : State K V X P W) (key : K) (now : ℕ) : Type 0 where
  pub forth : (r : Record K V) → IsSeen eq says first key now r → (q : Record K V) × IsSeen eq says second key now q
      × is_value_clone r.value q.value
  pub back : (q : Record K V) → IsSeen eq says second key now q → (r : Record K V) × IsSeen eq says first key now r
      × is_value_clone r.value q.value

-- a cache made again answers each look-up as the first does, at each moment that is before neither of the two
abbrev pub MadeAgainAnswersAlike : {K V P W : Type 0} → (X : Type 0) → (W → K → V → ℕ → Type 0) → (K → K → Bool) →
    (P → K → V → Bool → Type 0) → (K → K → Type 0) → (V → V → Type 0) → Type 0
MadeAgainAnswersAlike {K} {V} {P} {W} X weighs eq says is_key_clone is_value_clone = ClonesAreSameKeys eq is_key_clone →
    (saved put : ℕ) (items : List (Restored K V)) (first start second : State K V X P W) → IsValid eq first →
    IsValid eq second → IsMadeAgain weighs eq says is_key_clone is_value_clone saved put items first start second →
    (key : K) (now : ℕ) → saved ≤ now → put ≤ now → AnswerAlike eq says is_value_clone first second key now

-- an empty cache without predicates and an invalidation of all has room for entries that weigh no more than its
-- capacity
abbrev pub EmptyHasRoom : {K V W : Type 0} → (X P : Type 0) → (W → K → V → ℕ → Type 0) → Type 0
EmptyHasRoom {K} {V} {W} X P weighs = (items : List (Restored K V)) (start : State K V X P W) (capacity total : ℕ) →
    IsEmpty start → start.invalid_before ≡ None → start.predicates ≡ [] → start.capacity ≡ Some capacity →
    is_disabled (Some capacity) ≡ false →
    WeighAtMost weighs start.settings.weigher items total → total ≤ capacity → IsRoomyFor weighs items start
