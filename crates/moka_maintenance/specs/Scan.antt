-- A scan along the order of writing for what registered predicates cover, and the drop of predicates that cover
-- nothing.
use Rattle.std.specs.Prelude.{◌≡◌, ℕ, ◌≤◌, nat_le, ◌<◌, nat_lt, Bool, true, false, ◌&&◌, ◌⊎◌, ◌==◌, if◌then◌else◌, List, [], ◌∷◌, ◌++◌, length, Option, Some, None, is_none, slice_get, Contains, MatchBool}
use Rattle.std.specs.FinMap.{get}
use Rattle.std.specs.List.{IsDistinct}
use Rattle.moka_parts.specs.declared.notification.RemovalCause.{RemovalCause}
use Rattle.moka_parts.specs.declared.notification.RemovalCause.TheVariants.{Explicit}
use Rattle.moka_records.specs.declared.records.Record.{Record}
use Rattle.moka_parts.specs.declared.records.Registered.{Registered}
use Rattle.moka_records.specs.Records.{is_member, is_settled}
pub use Rattle.moka_records.specs.Records.{settled_numbers}
use Rattle.moka_parts.specs.State.{Contents}
use Rattle.moka_parts.specs.Visibility.{Covers, SomeCovers, NoneCovers}
use Rattle.moka_parts.specs.Maintenance.{Choice, Removes, MovesToBack, Drops, Tests, kept_by_choices, AreJustified}
use Rattle.moka_parts.specs.Grounds.{AreDrops, EndsScan}
use Rattle.moka_parts.specs.Scan.{AreUncovered}
use Rattle.moka_store.specs.Store.{Kept}
use Rattle.moka_maintenance.specs.Expel.{Expels}
use Rattle.moka_maintenance.specs.Steps.{Stock, contents_in, stock_in, AreAllMembers, HasNoSettled, IsStepped}
use Rattle.moka_maintenance.specs.Upkeep.{SetsNoTimer}

-- the numbers from the cursor on, which is at the front if it is at none
abbrev pub from_cursor : Option ℕ → List ℕ → List ℕ
from_cursor None ns = ns
from_cursor (Some n) [] = []
from_cursor (Some n) (m ∷ ns) = if m == n then m ∷ ns else from_cursor (Some n) ns

-- the numbers before the cursor
abbrev pub before_cursor : Option ℕ → List ℕ → List ℕ
before_cursor None ns = []
before_cursor (Some n) [] = []
before_cursor (Some n) (m ∷ ns) = if m == n then [] else m ∷ before_cursor (Some n) ns

-- once round: from the cursor to the end, and then from the front to the cursor
abbrev pub round_from : Option ℕ → List ℕ → List ℕ
round_from cursor ns = from_cursor cursor ns ++ before_cursor cursor ns

-- the second list is the first without some of its numbers
abbrev pub LeavesSome : List ℕ → List ℕ → Type 0
LeavesSome [] kept = kept ≡ []
LeavesSome (n ∷ ns) kept = LeavesSome ns kept ⊎ ((rest : List ℕ) × (kept ≡ n ∷ rest) × LeavesSome ns rest)

module _ {K V P : Type 0} (says : P → K → V → Bool → Type 0) where
  -- the predicate covers a record of the map
  abbrev pub CoversSome : Contents K V → Registered P → Type 0
  CoversSome c p = (n : ℕ) × (r : Record K V) × (get c.records n ≡ Some r) × Covers says p r

  -- predicates leave, each of which covers no record
  pub record AreDropped (c : Contents K V) (ps qs : List (Registered P)) : Type 0 where
    pub steps : List Choice
    pub drops : AreDrops steps
    pub justified : (q : Tests) → AreJustified says q c ps steps
    pub kept : qs ≡ kept_by_choices ps steps

  -- all of them do
  pub record AllDropped (c : Contents K V) (ps qs : List (Registered P)) : Type 0 where
    pub dropped : AreDropped c ps qs
    pub used : (p : Registered P) → Contains qs p → CoversSome c p

  -- a scan may remove a settled member that one of the predicates covers
  abbrev pub MayScan : List (Registered P) → Stock K V → Choice → Type 0
  MayScan ps c (Removes n cause) = (r : Record K V) × (get c.contents.records n ≡ Some r)
      × (is_member n c.contents.access && is_settled c.contents.records n ≡ true)
      × SomeCovers says ps r × (cause ≡ Explicit)
  MayScan ps c (MovesToBack n) = ⊥
  MayScan ps c (Drops i) = ⊥

  -- once round at most: the members passed, how many of them were looked at, and where the next round begins
  pub record GoesRound {S : Type 0} (ps : List (Registered P)) (batch : ℕ) (old new : Kept K V S)
      (looked : ℕ) : Type 0 where
    -- those passed are the first of the round, and none of them twice
    pub walked : List ℕ
    pub ahead : List ℕ
    pub round : round_from old.cursor old.written ≡ walked ++ ahead
    pub once : IsDistinct (◌==◌) walked
    -- those of them that are settled were looked at, and no predicate covers one that stays
    pub looks : looked ≡ length (settled_numbers old.records walked)
    pub uncovered : AreUncovered says ps new.records walked
    pub most : looked ≤ batch
    -- if there is a predicate, the batch is used up unless the round is through
    pub used : 0 < length ps → (looked ≡ batch) ⊎ (ahead ≡ [])
    -- the next round begins behind those passed, and ends with those of them that stay
    pub kept : List ℕ
    pub stay : LeavesSome walked kept
    pub next : round_from new.cursor new.written ≡ ahead ++ kept

-- how far a walk went that passes `most` members at most and looks at `batch` of them: to the end, unless one of these
-- was reached
pub record IsStretch {K V S : Type 0} (most batch : ℕ) (old new : Kept K V S) (looked passed : ℕ)
    (end : Bool) : Type 0 where
  pub ended : end ≡ is_none new.cursor
  pub stopped : end ≡ false → (most ≤ passed) ⊎ (batch ≤ looked)
  pub few : passed ≤ most
  pub used : looked ≤ batch
  pub once : IsDistinct (◌==◌) new.written
  pub upkeep : SetsNoTimer old new

module _ {K V L P : Type 0} (tells : L → K → V → RemovalCause → L → Type 0) (says : P → K → V → Bool → Type 0)
    (ps : List (Registered P)) where
  -- a member is looked at: one that is not settled stays; a settled one stays if no predicate covers it, and else
  -- leaves
  abbrev pub LooksAt : {S : Type 0} → Kept K V S → Kept K V S → Option L → Option L → ℕ → Bool → Type 0
  LooksAt old new l m n false = (is_settled old.records n ≡ false) × (new ≡ old) × (m ≡ l)
  LooksAt old new l m n true = (is_settled old.records n ≡ true)
      × (((new ≡ old) × (m ≡ l) × ((r : Record K V) → get old.records n ≡ Some r → NoneCovers says ps r))
      ⊎ (MayScan says ps (stock_in old) (Removes n Explicit) × Expels tells n Explicit old new l m))

  -- a walk along the members of `rest`, which stand behind `before`, up to the one before the next
  pub record IsWalked {S : Type 0} (old new : Kept K V S) (l m : Option L) (before rest : List ℕ) (next : Option ℕ)
      (looked passed : ℕ) : Type 0 where
    pub walked : List ℕ
    pub kept : List ℕ
    pub ahead : List ℕ
    pub split : rest ≡ walked ++ ahead
    pub list : new.written ≡ before ++ (kept ++ ahead)
    pub at : next ≡ slice_get ahead 0
    pub count : passed ≡ length walked
    pub stay : LeavesSome walked kept
    -- those that are settled were looked at
    pub looks : looked ≡ length (settled_numbers old.records walked)
    pub by : IsStepped tells (MayScan says ps) (stock_in old) (stock_in new) l m
    -- each member that leaves was looked at
    pub few : length by.steps ≤ looked
    pub uncovered : AreUncovered says ps new.records walked

  -- a walk from the cursor, at most once round: the members looked at, and whether it came to the end
  pub record IsRound {S : Type 0} (batch : ℕ) (old new : Kept K V S) (l m : Option L) (looked : ℕ)
      (end : Bool) : Type 0 where
    pub by : IsStepped tells (MayScan says ps) (stock_in old) (stock_in new) l m
    pub goes : GoesRound says ps batch old new looked
    -- the end is reached if all from the cursor on are passed
    pub ended : end ≡ nat_le (length (from_cursor old.cursor old.written)) (length goes.walked)
    pub few : length by.steps ≤ looked
    pub unlooked : old.ordered ≡ true → 1 ≤ batch → looked ≡ 0 → HasNoSettled (stock_in old)
    -- with a batch for all members it is a whole one
    pub whole : old.ordered ≡ true → length old.access ≤ batch → AreUncovered says ps new.records old.written
        × (end ≡ true)
    pub upkeep : SetsNoTimer old new

  -- a scan with the drop behind it, and whether it leaves more
  pub record IsScanned {S : Type 0} (batch : ℕ) (old new : Kept K V S) (qs : List (Registered P)) (l m : Option L)
      (left : Bool) : Type 0 where
    pub by : IsStepped tells (MayScan says ps) (stock_in old) (stock_in new) l m
    pub dropped : AreDropped says (contents_in new) ps qs
    pub looked : ℕ
    pub goes : GoesRound says ps batch old new looked
    -- once all from the cursor on are passed, the predicates that cover no record leave, and before that none does
    pub drops : MatchBool (nat_le (length (from_cursor old.cursor old.written)) (length goes.walked))
        (AllDropped says (contents_in new) ps qs) (qs ≡ ps)
    -- each member that leaves was looked at
    pub few : length by.steps ≤ looked
    -- without predicates nothing is done
    pub unregistered : ps ≡ [] → (by.steps ≡ []) × (left ≡ false)
    -- it ends as a pass is to
    pub ends : old.ordered ≡ true → EndsScan (NoneCovers says ps) batch (length by.steps) (contents_in new)
    -- more is left exactly if a member was looked at and a predicate is left
    pub leaves : left ≡ (nat_lt 0 looked && nat_lt 0 (length qs))
    -- so wherever a predicate is left beside a settled member
    pub unfinished : old.ordered ≡ true → 1 ≤ batch → 0 < length qs → (left ≡ true) ⊎ HasNoSettled (stock_in new)
    -- with a batch for all members, no predicate is left once every record is settled
    pub whole : old.ordered ≡ true → length old.access ≤ batch → AreAllMembers (stock_in old) → qs ≡ []
    pub upkeep : SetsNoTimer old new
