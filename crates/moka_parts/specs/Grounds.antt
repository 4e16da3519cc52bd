-- The grounds on which a pass removes records: the cause that each tells, and their order.
use Rattle.std.specs.Prelude.{◌≡◌, ℕ, zero, suc, Bool, true, false, ◌&&◌, ◌==◌, ◌+◌, ◌≤◌, ◌⊎◌, List, [], ◌∷◌, ◌++◌, length, Option, Some, None, slice_get, if◌then◌else◌, ⊤}
use Rattle.std.specs.FinMap.{get}
use Rattle.std.specs.List.{IsDistinct}
use Rattle.moka_parts.specs.declared.notification.RemovalCause.{RemovalCause}
use Rattle.moka_parts.specs.declared.notification.RemovalCause.TheVariants.{Expired, Explicit, Size}
use Rattle.moka_records.specs.declared.records.Record.{Record}
use Rattle.moka_parts.specs.Order.{IsAtRestByWrite, written_after_choice, written_after_choices}
use Rattle.moka_records.specs.Records.{is_applied, is_listed, is_member, is_settled, settled_members, settled_numbers}
use Rattle.moka_parts.specs.State.{Contents}
use Rattle.moka_parts.specs.Visibility.{is_expired, is_written_before, is_read_before}
use Rattle.moka_parts.specs.Exact.{IsWithin}
use Rattle.moka_parts.specs.Maintenance.{Choice, Removes, MovesToBack, Drops, Tests, after_choice, after_choices, is_front, is_over, is_past_read, is_past_write}

-- the step of a pass in which a record leaves
pub data Ground : Type 0 where
  -- its timer is due
  ByTimer : Ground
  -- by the moment of its last write
  ByWrite : Ground
  -- by the moment of its last read
  ByRead : Ground
  -- a predicate covers it
  ByPredicate : Ground
  -- the capacity is exceeded
  BySurplus : Ground

-- the steps of a pass, in order
abbrev pub grounds_of_pass : List Ground
grounds_of_pass = ByTimer ∷ ByWrite ∷ ByRead ∷ ByPredicate ∷ BySurplus ∷ []

-- those of so many passes
abbrev pub grounds_of : ℕ → List Ground
grounds_of zero = []
grounds_of (suc passes) = grounds_of_pass ++ grounds_of passes

-- the step goes along an order, in which an unsettled front goes to the back
abbrev pub is_sweep : Ground → Bool
is_sweep ByTimer = false
is_sweep ByWrite = true
is_sweep ByRead = true
is_sweep ByPredicate = false
is_sweep BySurplus = true

-- the step is made of at most a batch of choices; all timers that are due are served
abbrev pub is_batched : Ground → Bool
is_batched ByTimer = false
is_batched ByWrite = true
is_batched ByRead = true
is_batched ByPredicate = true
is_batched BySurplus = true

module _ {K V : Type 0} (q : Tests) where
  -- why a record leaves by its last write, if it does: that it is past its time to live is told before that it is
  -- invalidated
  abbrev pub cause_by_write : Record K V → Option RemovalCause
  cause_by_write r = if is_past_write q r then Some Expired
      else (if is_written_before q.invalid_before r then Some Explicit else None)

  -- why a record leaves by its last read, if it does: that it is past its time to idle is told before that it is
  -- invalidated
  abbrev pub cause_by_read : Record K V → Option RemovalCause
  cause_by_read r = if is_past_read q r then Some Expired
      else (if is_read_before q.invalid_before r then Some Explicit else None)

  -- the record at the front of the access list is not past its time to idle, nor read before the invalidation of all
  abbrev pub IsAtRestByRead : Contents K V → Type 0
  IsAtRestByRead c = (n : ℕ) (r : Record K V) → is_front n c.access ≡ true → get c.records n ≡ Some r
      → (is_past_read q r ≡ false) × (is_read_before q.invalid_before r ≡ false)

  -- the number is the one to which the step has come: a sweep takes the front of its order, one by the last write only
  -- if that order is kept, and one of the surplus only while the capacity is exceeded
  abbrev pub IsTurnOf : Bool → Ground → Contents K V → List ℕ → ℕ → Type 0
  IsTurnOf ordered ByTimer c write_list n = ⊤
  IsTurnOf ordered ByWrite c write_list n = (ordered ≡ true) × (slice_get write_list 0 ≡ Some n)
  IsTurnOf ordered ByRead c write_list n = is_front n c.access ≡ true
  IsTurnOf ordered ByPredicate c write_list n = ⊤
  IsTurnOf ordered BySurplus c write_list n = (is_front n c.access && is_over q.capacity c.access) ≡ true

  -- the choice is made of the number to which the step has come
  abbrev pub IsInTurn : Bool → Ground → Contents K V → List ℕ → Choice → Type 0
  IsInTurn ordered g c write_list (Removes n cause) = IsTurnOf ordered g c write_list n
  IsInTurn ordered g c write_list (MovesToBack n) = IsTurnOf ordered g c write_list n
  IsInTurn ordered g c write_list (Drops i) = ⊥

-- `Spared` says which records no predicate covers
module _ {K V : Type 0} (Spared : Record K V → Type 0) where
  -- how far a scan went, whose choices are the removals of some that it passed
  pub record EndsScan (batch choices : ℕ) (c : Contents K V) : Type 0 where
    pub passed : List ℕ
    pub once : IsDistinct (◌==◌) passed
    -- no predicate covers a settled record among them
    pub spared : (n : ℕ) (r : Record K V) → is_listed n passed ≡ true → get c.records n ≡ Some r → is_applied r ≡ true →
        Spared r
    -- it looked at a batch of settled records, those that it removed among them, or passed all members
    pub used : (batch ≤ choices + length (settled_numbers c.records passed))
        ⊎ ((n : ℕ) → is_member n c.access ≡ true → is_listed n passed ≡ true)

  -- where the step ended: a sweep came to rest, or no member is settled, or it made all its choices; by timers no
  -- settled member is left whose own expiry has come, if those are on time; a scan goes along the order of writing, if
  -- that is kept, and the sweep by the last write goes by this list
  module _ (OnTime : Type 0) (ordered : Bool) (q : Tests) where
    abbrev pub EndsStep : Ground → ℕ → ℕ → Contents K V → List ℕ → Type 0
    EndsStep ByTimer batch choices c write_list = OnTime → (n : ℕ) (r : Record K V) → get c.records n ≡ Some r
        → is_member n c.access ≡ true → is_applied r ≡ true → is_expired r q.now ≡ false
    EndsStep ByWrite batch choices c write_list = ordered ≡ true → IsAtRestByWrite q c.records write_list
        ⊎ ((settled_members c.records c.access ≡ []) ⊎ (batch ≤ choices))
    EndsStep ByRead batch choices c write_list = IsAtRestByRead q c
        ⊎ ((settled_members c.records c.access ≡ []) ⊎ (batch ≤ choices))
    EndsStep ByPredicate batch choices c write_list = ordered ≡ true → EndsScan batch choices c
    EndsStep BySurplus batch choices c write_list = IsWithin q.capacity c.access
        ⊎ ((settled_members c.records c.access ≡ []) ⊎ (batch ≤ choices))

-- `Covered` says which records are covered by a predicate
module _ {K V : Type 0} (Covered : Record K V → Type 0) (q : Tests) where
  -- the step removes the record, and tells this cause
  abbrev pub LeavesBy : Ground → Contents K V → ℕ → Record K V → RemovalCause → Type 0
  LeavesBy ByTimer c n r cause = (is_expired r q.now ≡ true) × (cause ≡ Expired)
  LeavesBy ByWrite c n r cause = cause_by_write q r ≡ Some cause
  LeavesBy ByRead c n r cause = (is_front n c.access ≡ true) × (cause_by_read q r ≡ Some cause)
  LeavesBy ByPredicate c n r cause = Covered r × (cause ≡ Explicit)
  LeavesBy BySurplus c n r cause = ((is_front n c.access && is_over q.capacity c.access) ≡ true) × (cause ≡ Size)

  -- a choice that the step may make: a settled member leaves on its ground, or an unsettled one goes to the back
  abbrev pub MayTake : Ground → Contents K V → Choice → Type 0
  MayTake g c (Removes n cause) = (r : Record K V) × (get c.records n ≡ Some r)
      × (is_member n c.access && is_settled c.records n ≡ true) × LeavesBy g c n r cause
  MayTake g c (MovesToBack n) = (is_sweep g ≡ true) × (is_member n c.access ≡ true) × (is_settled c.records n ≡ false)
  MayTake g c (Drops i) = ⊥

  -- all choices are the step's
  abbrev pub AreTaken : Bool → Ground → Contents K V → List ℕ → List Choice → Type 0
  AreTaken ordered g c write_list [] = ⊤
  AreTaken ordered g c write_list (x ∷ xs) = (IsInTurn q ordered g c write_list x × MayTake g c x)
      × AreTaken ordered g (after_choice c x) (written_after_choice write_list x) xs

  module _ (Spared : Record K V → Type 0) (OnTime : Type 0) (ordered : Bool) (batch : ℕ) where
    -- the choices are those of these steps, one step after the other
    abbrev pub FollowsGrounds : List Ground → Contents K V → List ℕ → List Choice → Type 0
    FollowsGrounds [] c write_list xs = xs ≡ []
    FollowsGrounds (g ∷ gs) c write_list xs = (first later : List Choice) × (xs ≡ first ++ later)
        × AreTaken ordered g c write_list first
        × ((is_batched g ≡ true → length first ≤ batch)
        × EndsStep Spared OnTime ordered q g batch (length first) (after_choices c first)
        (written_after_choices write_list first))
        × FollowsGrounds gs (after_choices c first) (written_after_choices write_list first) later

-- each choice drops a predicate
abbrev pub AreDrops : List Choice → Type 0
AreDrops [] = Unit {0}
AreDrops (Removes n cause ∷ xs) = ⊥
AreDrops (MovesToBack n ∷ xs) = ⊥
AreDrops (Drops i ∷ xs) = AreDrops xs
