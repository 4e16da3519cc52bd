-- What applying the queued operations makes of a store, and what the listener is told.
use Rattle.std.specs.Prelude.{◌≡◌, ◌≢◌, ℕ, Bool, true, List, Option, Contains, Some, None}
use Rattle.std.specs.FinMap.{get}
use Rattle.moka_parts.specs.declared.notification.RemovalCause.{RemovalCause}
use Rattle.moka_types.specs.declared.policy.EvictionPolicy.{EvictionPolicy}
use Rattle.moka_records.specs.declared.records.Record.{Record}
use Rattle.moka_records.specs.declared.records.Operation.{Operation}
use Rattle.moka_records.specs.declared.records.Operation.TheVariants.{Upsert, Removal}
use Rattle.moka_records.specs.declared.records.Ticketed.{Ticketed}
use Rattle.moka_parts.specs.State.{Contents}
use Rattle.moka_parts.specs.Candidates.{are_unsettled, victims_for}
use Rattle.moka_parts.specs.Writes.{after_fate, left_by_fate, fate_by_frequency, after_write, after_writes, left_by_write, left_by_writes, AreMoves, AreAllMoves}
use Rattle.moka_parts.specs.Maintenance.{with_sketch}
use Rattle.moka_parts.specs.Reads.{after_reads}
use Rattle.moka_parts.specs.Order.{written_after_fate, written_after_write, written_after_writes}
use Rattle.moka_parts.specs.Frequency.{SketchTable}
use Rattle.moka_store.specs.Store.{Kept}
use Rattle.moka_maintenance.specs.declared.admission.PlacedUpsert.{PlacedUpsert}
use Rattle.moka_maintenance.specs.declared.bounds.Bounds.{Bounds}
use Rattle.moka_maintenance.specs.declared.queued.QueuedRead.{QueuedRead}
use Rattle.moka_maintenance.specs.Queued.{IsRenewedBy, reads_of}
use Rattle.moka_maintenance.specs.Timers.{Serves}
use Rattle.moka_maintenance.specs.Steps.{Told, contents_in, contents_with}
use Rattle.moka_maintenance.specs.Upkeep.{Upkeep}

-- a store has what these reads make of it, while the sketch stands beside it
pub record AppliesReads {K V S : Type 0} (reads : List QueuedRead) (old new : Kept K V S) : Type 0 where
  pub applied : contents_in new ≡ after_reads (contents_in old) (reads_of reads)
  pub served : Serves (IsRenewedBy reads) old new

module _ {K V L : Type 0} (tells : L → K → V → RemovalCause → L → Type 0) (ordered : Bool) where
  -- a candidate of this number was compared, as one for which there is no room, and has the fate that its frequency
  -- decides
  pub record IsCompared (before after : Contents K V) (ns ms : List ℕ) (number generation weight hash : ℕ)
      (r : Record K V) (l m : Option L) : Type 0 where
    pub moved : List ℕ
    pub unsettled : are_unsettled before.records moved ≡ true
    pub led : after
        ≡ after_fate before number generation weight moved r (fate_by_frequency before hash (victims_for before weight))
    pub listed : ordered ≡ true →
        ms ≡ written_after_fate true number ns (fate_by_frequency before hash (victims_for before weight))
    pub told : Told tells l
        (left_by_fate before generation r (fate_by_frequency before hash (victims_for before weight))) m

module _ {K V L : Type 0} (tells : L → K → V → RemovalCause → L → Type 0) (capacity : Option ℕ)
    (policy : EvictionPolicy) (ordered : Bool) where
  -- one operation is applied; the order of writing goes from one list to the other, if it is kept
  pub record IsApplied (before after : Contents K V) (ns ms : List ℕ) (o : Operation) (l m : Option L) : Type 0 where
    pub moved : List ℕ
    pub may : AreMoves capacity policy before o moved
    pub led : after ≡ after_write capacity policy before o moved
    pub listed : ordered ≡ true → ms ≡ written_after_write true capacity policy before ns o
    pub told : Told tells l (left_by_write capacity policy before o) m

  -- the operations are applied in order, with a list of moves for each
  pub record AreApplied (before after : Contents K V) (ns ms : List ℕ) (os : List Ticketed)
      (l m : Option L) : Type 0 where
    pub moves : List (List ℕ)
    pub may : AreAllMoves capacity policy before os moves
    pub led : after ≡ after_writes capacity policy before os moves
    pub listed : ordered ≡ true → ms ≡ written_after_writes true capacity policy before ns os moves
    pub told : Told tells l (left_by_writes capacity policy before os moves) m

module _ {K V L : Type 0} (tells : L → K → V → RemovalCause → L → Type 0) (capacity : Option ℕ)
    (policy : EvictionPolicy) (ordered has_weigher : Bool) where
  -- the operations are applied in order, and then the sketch is enabled if it is due
  pub record ArePrepared (before after : Contents K V) (ns ms : List ℕ) (os : List Ticketed)
      (l m : Option L) : Type 0 where
    pub between : Contents K V
    pub applied : AreApplied tells capacity policy ordered before between ns ms os l m
    -- memory for a longer table of the sketch was refused
    pub is_short : Bool
    pub enabled : after ≡ with_sketch capacity policy has_weigher is_short between

-- a number that has kept its row without a record had no record before, and the operation is no removal of it
abbrev pub LeavesNoRowAfter : {K V S : Type 0} → Operation → Kept K V S → Kept K V S → Type 0
LeavesNoRowAfter o old new = (n p : ℕ) → get new.places n ≡ Some p → get new.records n ≡ None
    → (get old.records n ≡ None) × ((generation : ℕ) → o ≢ Removal n generation)

-- a number that has kept its row without a record had no record before, and no removal of it was among the operations
abbrev pub LeavesNoRowBy : {K V S : Type 0} → List Ticketed → Kept K V S → Kept K V S → Type 0
LeavesNoRowBy os old new = (n p : ℕ) → get new.places n ≡ Some p → get new.records n ≡ None → (get old.records n ≡ None)
    × ((ticket generation : ℕ) → Contains os (record { ticket = ticket; operation = Removal n generation }) → ⊥)

module _ {K V S L : Type 0} (tells : L → K → V → RemovalCause → L → Type 0) (bounds : Bounds) (sketch : Option SketchTable)
    (old new : Kept K V S) where
  -- one operation is applied to a store, whose row is given back if it was a removal
  pub record AppliesWrite (o : Operation) (l m : Option L) : Type 0 where
    pub applied : IsApplied tells bounds.capacity bounds.policy old.ordered (contents_with sketch old)
        (contents_with sketch new) old.written new.written o l m
    pub upkeep : Upkeep old new
    pub rows : LeavesNoRowAfter o old new

  -- one upsert is
  abbrev pub AppliesUpsert : PlacedUpsert → Option L → Option L → Type 0
  AppliesUpsert u l m = AppliesWrite (Upsert u.handle.number u.generation u.weight u.hash) l m

  -- operations are, in order
  pub record AppliesWrites (os : List Ticketed) (l m : Option L) : Type 0 where
    pub applied : AreApplied tells bounds.capacity bounds.policy old.ordered (contents_with sketch old)
        (contents_with sketch new) old.written new.written os l m
    pub upkeep : Upkeep old new
    pub rows : LeavesNoRowBy os old new
