-- Which keys the segments hold.
use Rattle.std.specs.Prelude.{◌≡◌, ℕ, Bool, true, List, [], ◌∷◌, Some}
use Rattle.std.specs.FinMap.{empty, get}
use Rattle.moka_types.specs.declared.calls.Call.{Call}
use Rattle.moka_types.specs.declared.calls.Call.TheVariants as call
use Rattle.moka_records.specs.declared.records.Record.{Record}
use Rattle.moka_records.specs.Records.{Records}
use Rattle.moka_calls.specs.Synchronous.{Synchronous}
use Rattle.moka_router.specs.Routing.{Routing, segment_of}
use Rattle.moka_segments.specs.Segmented.{Segmented, IsAt}

-- this is so of the key of each record
abbrev pub EachKey : {K V : Type 0} → (K → Type 0) → Records K V → Type 0
EachKey {K} {V} Is records = (n : ℕ) (r : Record K V) → get records n ≡ Some r → Is r.key

-- this is so of the key, if the call inserts one
abbrev pub InsertsOne : {K V P : Type 0} → (K → Type 0) → Call K V P → Type 0
InsertsOne Is (call.Insert key hash value now) = Is key
InsertsOne Is c = Unit {0}

-- and of each key that the calls insert
abbrev pub InsertsOnly : {K V P : Type 0} → (K → Type 0) → List (Call K V P) → Type 0
InsertsOnly Is [] = Unit {0}
InsertsOnly Is (c ∷ calls) = InsertsOne Is c × InsertsOnly Is calls

-- no segment holds a key
abbrev pub HoldNone : {K V S X L P W : Type 0} → Segmented K V S X L P W → Type 0
HoldNone {K} {V} {S} {X} {L} {P} {W} c = (index : ℕ) (x : Synchronous K V S X L P W) → IsAt c.segments index x
    → x.engine.state.records ≡ empty

module _ {K S : Type 0} (hash_of : S → K → ℕ) where
  -- the key belongs to the segment at the index
  abbrev pub Belongs : Routing S → ℕ → K → Type 0
  Belongs routing index key = segment_of routing.count (hash_of routing.hasher key) ≡ index

  -- each segment holds only keys that belong to it
  abbrev pub KeysBelong : {V X L P W : Type 0} → Segmented K V S X L P W → Type 0
  KeysBelong {V} {X} {L} {P} {W} c = (index : ℕ) (x : Synchronous K V S X L P W) → IsAt c.segments index x
      → EachKey (Belongs c.routing index) x.engine.state.records

  -- what leads from one cache to another leaves keys where they belong
  abbrev pub KeepsKeys : {V X L P W : Type 0} → (Segmented K V S X L P W → Segmented K V S X L P W → Type 0) → Type 0
  KeepsKeys {V} {X} {L} {P} {W} Leads = (old new : Segmented K V S X L P W) → Leads old new → KeysBelong old
      → KeysBelong new

-- keys that are equal are in one segment at most
abbrev pub AreInOneSegment : {K V S X L P W : Type 0} → (K → K → Bool) → Segmented K V S X L P W → Type 0
AreInOneSegment {K} {V} {S} {X} {L} {P} {W} eq c = (i j n m : ℕ) (x y : Synchronous K V S X L P W) (r q : Record K V) →
    IsAt c.segments i x → IsAt c.segments j y →
    get x.engine.state.records n ≡ Some r → get y.engine.state.records m ≡ Some q → eq r.key q.key ≡ true → i ≡ j
