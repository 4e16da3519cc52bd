-- The steps by which maintenance removes records, what they leave in a store, and what the listener is told of them.
use Rattle.std.specs.Prelude.{◌≡◌, ℕ, Bool, true, false, ◌&&◌, not, List, [], ◌∷◌, Option, Some, None, is_some}
use Rattle.std.specs.FinMap.{get}
use Rattle.moka_parts.specs.declared.notification.RemovalCause.{RemovalCause}
use Rattle.moka_parts.specs.declared.notification.RemovalCause.TheVariants.{Expired, Explicit, Replaced, Size}
use Rattle.moka_records.specs.declared.records.Record.{Record}
use Rattle.moka_parts.specs.declared.records.Registered.{Registered}
use Rattle.moka_parts.specs.Notices.{Notice, when_listening}
use Rattle.moka_records.specs.Records.{is_member, is_settled, settled_members, is_applied}
use Rattle.moka_parts.specs.State.{Contents}
use Rattle.moka_parts.specs.Surroundings.{Heard}
use Rattle.moka_parts.specs.Maintenance.{Choice, Removes, MovesToBack, Drops, Tests, IsJustified, after_choice, after_choices, left_by_choices}
use Rattle.moka_parts.specs.Order.{written_after_choice, written_after_choices}
use Rattle.moka_parts.specs.Frequency.{SketchTable}
use Rattle.moka_store.specs.Store.{Kept}

-- what steps work on: contents, whose sketch they do not see, and the write list
pub record Stock (K V : Type 0) : Type 0 where
  pub contents : Contents K V
  -- the members' numbers in the order of writing, if that is kept
  pub written : List ℕ

module _ {K V : Type 0} where
  -- what queues work on, in a store with a sketch
  abbrev pub contents_with : {S : Type 0} → Option SketchTable → Kept K V S → Contents K V
  contents_with sketch k = record { records = k.records; access = k.access; sketch = sketch }

  -- the same without a sketch
  abbrev pub contents_in : {S : Type 0} → Kept K V S → Contents K V
  contents_in k = contents_with None k

  -- what steps work on, in a store
  abbrev pub stock_in : {S : Type 0} → Kept K V S → Stock K V
  stock_in k = record { contents = contents_in k; written = k.written }

  -- no number gains a row, and none moves
  abbrev pub AddsNoPlace : {S : Type 0} → Kept K V S → Kept K V S → Type 0
  AddsNoPlace old new = (n p : ℕ) → get new.places n ≡ Some p → get old.places n ≡ Some p

  -- a number that has kept its row without a record had none before
  abbrev pub LeavesNoRow : {S : Type 0} → Kept K V S → Kept K V S → Type 0
  LeavesNoRow old new = (n p : ℕ) → get new.places n ≡ Some p → get new.records n ≡ None → get old.records n ≡ None

  -- ---- one step

  -- what a step leaves
  abbrev pub after_step : Stock K V → Choice → Stock K V
  after_step c x =
      record { contents = after_choice c.contents x; written = written_after_choice c.written x }

  -- what all steps leave
  abbrev pub after_steps : Stock K V → List Choice → Stock K V
  after_steps c xs =
      record { contents = after_choices c.contents xs; written = written_after_choices c.written xs }

  -- a settled member leaves, or an unsettled one goes to the back
  abbrev pub MayLeave : Stock K V → Choice → Type 0
  MayLeave c (Removes n cause) = (r : Record K V) × (get c.contents.records n ≡ Some r)
      × (is_member n c.contents.access && is_settled c.contents.records n ≡ true)
  MayLeave c (MovesToBack n) = (is_member n c.contents.access ≡ true) × (is_settled c.contents.records n ≡ false)
  MayLeave c (Drops i) = ⊥

  -- a step may be taken by the tests or by the predicates: a settled member leaves on a ground of its own, an unsettled
  -- one goes to the back
  abbrev pub MayRun : {P : Type 0} → (P → K → V → Bool → Type 0) → List (Registered P) → Tests → Stock K V → Choice →
      Type 0
  MayRun says ps q c (Removes n cause) = IsJustified says q c.contents ps (Removes n cause)
  MayRun says ps q c (MovesToBack n) = IsJustified says q c.contents ps (MovesToBack n)
  MayRun says ps q c (Drops i) = ⊥

  -- each step may be taken when it is
  abbrev pub MayAll : (Stock K V → Choice → Type 0) → Stock K V → List Choice → Type 0
  MayAll May c [] = Unit {0}
  MayAll May c (x ∷ xs) = May c x × MayAll May (after_step c x) xs

  -- ---- members

  -- a member is not settled
  pub record HasUnsettled (c : Stock K V) : Type 0 where
    pub number : ℕ
    pub is_in : is_member number c.contents.access ≡ true
    pub unsettled : is_settled c.contents.records number ≡ false

  -- each record is a settled member
  abbrev pub AreAllMembers : Stock K V → Type 0
  AreAllMembers c = (n : ℕ) (r : Record K V) → get c.contents.records n ≡ Some r → (is_applied r ≡ true)
      × (is_member n c.contents.access ≡ true)

  -- no member is settled
  abbrev pub HasNoSettled : Stock K V → Type 0
  HasNoSettled c = settled_members c.contents.records c.contents.access ≡ []

-- the cause is not that the capacity is exceeded
abbrev pub is_timely : RemovalCause → Bool
is_timely Expired = true
is_timely Explicit = true
is_timely Replaced = true
is_timely Size = false

-- the step removes a record since the capacity is exceeded
abbrev pub makes_room : Choice → Bool
makes_room (Removes n cause) = not (is_timely cause)
makes_room (MovesToBack n) = false
makes_room (Drops i) = false

module _ {K V L : Type 0} (tells : L → K → V → RemovalCause → L → Type 0) where
  -- the listener, if one is set, is told what left
  abbrev pub Told : Option L → List (Notice K V) → Option L → Type 0
  Told before left after = Heard tells before (when_listening (is_some before) left) after

  -- steps that may be taken lead from the first to the second, and the listener is told what they take out
  pub record IsStepped (May : Stock K V → Choice → Type 0) (before after : Stock K V) (l m : Option L) : Type 0 where
    pub steps : List Choice
    pub may : MayAll May before steps
    pub led : after ≡ after_steps before steps
    pub told : Told l (left_by_choices before.contents steps) m
