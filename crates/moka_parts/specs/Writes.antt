-- Queued writes applied.
use Rattle.std.specs.Prelude.{◌≡◌, ℕ, Bool, true, false, ◌==◌, nat_lt, List, [], ◌∷◌, ◌++◌, Option, Some, None, option_map, option_to_list, if◌then◌else◌}
use Rattle.std.specs.Option.{option_map_or}
use Rattle.std.specs.FinMap.{get, insert, remove}
use Rattle.moka_parts.specs.declared.notification.RemovalCause.TheVariants.{Size}
use Rattle.moka_types.specs.declared.policy.EvictionPolicy.{EvictionPolicy}
use Rattle.moka_types.specs.declared.policy.EvictionPolicy.TheVariants.{TinyLfu, Lru}
use Rattle.moka_records.specs.declared.records.Record.{Record}
use Rattle.moka_records.specs.declared.records.Member.{Member}
use Rattle.moka_records.specs.declared.records.Operation.{Operation}
use Rattle.moka_records.specs.declared.records.Operation.TheVariants.{Upsert, Removal}
use Rattle.moka_records.specs.declared.records.Ticketed.{Ticketed}
use Rattle.moka_records.specs.Records.{Records, member, is_member, to_back, without_member, without_members, all_to_back, total_weight, has_room}
use Rattle.moka_parts.specs.Notices.{Notice}
use Rattle.moka_parts.specs.State.{Contents}
use Rattle.moka_parts.specs.Candidates.{victims_for, is_preferred, are_unsettled}

-- what becomes of an upsert
pub data Fate : Type 0 where
  -- nothing: its record left the map, or is outside the access list and saw an operation as new
  Ignored : Fate
  -- its member goes to the back and no more, since an operation as new was applied
  Overtaken : Fate
  -- its member goes to the back with the new weight
  Counted : Fate
  -- its record enters the access list: there is room, or the least recently used will leave
  Admitted : Fate
  -- its record is rejected: it alone is heavier than the capacity
  TooHeavy : Fate
  -- TinyLFU prefers its record to these members, which leave
  Preferred : List Member → Fate
  -- TinyLFU rejects its record
  Refused : Fate

-- TinyLFU compared frequencies, and may have moved unsettled members on the way
abbrev pub is_compared : Fate → Bool
is_compared Ignored = false
is_compared Overtaken = false
is_compared Counted = false
is_compared Admitted = false
is_compared TooHeavy = false
is_compared (Preferred victims) = true
is_compared Refused = true

-- the eviction policy is TinyLFU
abbrev pub is_tiny_lfu : EvictionPolicy → Bool
is_tiny_lfu TinyLfu = true
is_tiny_lfu Lru = false

-- the record of this number has seen the operation of this generation
abbrev pub with_applied : {K V : Type 0} → Records K V → ℕ → Record K V → ℕ → Records K V
with_applied records number r generation = insert records number (record r { applied = generation })

-- the map without the members' records
abbrev pub without_records : {K V : Type 0} → List Member → Records K V → Records K V
without_records [] records = records
without_records (a ∷ gone) records = without_records gone (remove records a.number)

-- the notice of a record that is evicted by size
abbrev pub leaves_for_size : {K V : Type 0} → Record K V → Notice K V
leaves_for_size r = (r.key, r.value, Size)

-- what leaves the map with the members' records, in order
abbrev pub left_with : {K V : Type 0} → List Member → Records K V → List (Notice K V)
left_with [] records = []
left_with (a ∷ gone) records =
    option_to_list (option_map leaves_for_size (get records a.number)) ++ left_with gone (remove records a.number)

-- what a rejection takes out of the map
abbrev pub left_by_rejection : {K V : Type 0} → ℕ → Record K V → List (Notice K V)
left_by_rejection generation r = if r.generation == generation then leaves_for_size r ∷ [] else []

-- ---- which fate

module _ {K V : Type 0} where
  -- by TinyLFU's comparison with these victims, if they would make room
  abbrev pub fate_by_frequency : Contents K V → ℕ → Option (List Member) → Fate
  fate_by_frequency c hash None = Refused
  fate_by_frequency c hash (Some victims) = if is_preferred c hash victims then Preferred victims else Refused

  -- if there is no room, but the candidate alone would fit
  abbrev pub fate_by_policy : EvictionPolicy → Contents K V → ℕ → ℕ → Fate
  fate_by_policy Lru c weight hash = Admitted
  fate_by_policy TinyLfu c weight hash = fate_by_frequency c hash (victims_for c weight)

  -- if the record is outside the access list
  abbrev pub fate_of_newcomer : Option ℕ → EvictionPolicy → Contents K V → ℕ → ℕ → Fate
  fate_of_newcomer capacity policy c weight hash =
      if has_room capacity (total_weight c.access) weight then Admitted
      else (if has_room capacity 0 weight then fate_by_policy policy c weight hash else TooHeavy)

  -- if the record is in the map
  abbrev pub fate_of_record : Option ℕ → EvictionPolicy → Contents K V → ℕ → ℕ → ℕ → ℕ → Record K V → Fate
  fate_of_record capacity policy c number generation weight hash r =
      if nat_lt r.applied generation
      then (if is_member number c.access then Counted else fate_of_newcomer capacity policy c weight hash)
      else (if is_member number c.access then Overtaken else Ignored)

  -- the fate of an operation
  abbrev pub fate : Option ℕ → EvictionPolicy → Contents K V → Operation → Fate
  fate capacity policy c (Removal number generation) = Ignored
  fate capacity policy c (Upsert number generation weight hash) =
      option_map_or (fate_of_record capacity policy c number generation weight hash) (get c.records number) Ignored

-- ---- what a fate does

module _ {K V : Type 0} where
  -- those members moved to the back
  abbrev pub with_moved : List ℕ → Contents K V → Contents K V
  with_moved moved c = record c { access = all_to_back moved c.access }

  -- the victims leave map and access list
  abbrev pub without_victims : List Member → Contents K V → Contents K V
  without_victims victims c =
      record c { records = without_records victims c.records; access = without_members victims c.access }

  -- a member behind all others with the operation's weight, and the record has seen the operation
  abbrev pub entered : ℕ → ℕ → ℕ → Record K V → Contents K V → Contents K V
  entered number generation weight r c = record c {
    records = with_applied c.records number r generation;
    access = c.access ++ member number weight ∷ [];
  }

  -- the record leaves, unless it was updated since
  abbrev pub rejected : ℕ → ℕ → Record K V → Contents K V → Contents K V
  rejected number generation r c = record c {
    records = if r.generation == generation then remove c.records number
        else with_applied c.records number r generation;
  }

  -- the contents after an upsert of the record r with that fate, if those members were moved to the back
  abbrev pub after_fate : Contents K V → ℕ → ℕ → ℕ → List ℕ → Record K V → Fate → Contents K V
  after_fate c number generation weight moved r Ignored = c
  after_fate c number generation weight moved r Overtaken = record c { access = to_back number c.access }
  after_fate c number generation weight moved r Counted =
      entered number generation weight r (record c { access = without_member number c.access })
  after_fate c number generation weight moved r Admitted = entered number generation weight r c
  after_fate c number generation weight moved r TooHeavy = rejected number generation r c
  after_fate c number generation weight moved r (Preferred victims) =
      entered number generation weight r (without_victims victims (with_moved moved c))
  after_fate c number generation weight moved r Refused = rejected number generation r (with_moved moved c)

  -- what leaves the map by that fate, in order
  abbrev pub left_by_fate : Contents K V → ℕ → Record K V → Fate → List (Notice K V)
  left_by_fate c generation r Ignored = []
  left_by_fate c generation r Overtaken = []
  left_by_fate c generation r Counted = []
  left_by_fate c generation r Admitted = []
  left_by_fate c generation r TooHeavy = left_by_rejection generation r
  left_by_fate c generation r (Preferred victims) = left_with victims c.records
  left_by_fate c generation r Refused = left_by_rejection generation r

-- ---- one write, and all

module _ {K V : Type 0} (capacity : Option ℕ) (policy : EvictionPolicy) where
  -- the contents after a write, if those members were moved to the back: a removal takes its number out of the
  -- access list
  abbrev pub after_write : Contents K V → Operation → List ℕ → Contents K V
  after_write c (Removal number generation) moved = record c { access = without_member number c.access }
  after_write c (Upsert number generation weight hash) moved = option_map_or
      (λ r. after_fate c number generation weight moved r
      (fate capacity policy c (Upsert number generation weight hash))) (get c.records number) c

  -- what a write takes out of the map, in order
  abbrev pub left_by_write : Contents K V → Operation → List (Notice K V)
  left_by_write c (Removal number generation) = []
  left_by_write c (Upsert number generation weight hash) = option_map_or
      (λ r. left_by_fate c generation r (fate capacity policy c (Upsert number generation weight hash)))
      (get c.records number) []

  -- members are moved only by TinyLFU's comparison, and only unsettled ones
  abbrev pub AreMoves : Contents K V → Operation → List ℕ → Type 0
  AreMoves c o [] = Unit {0}
  AreMoves c o (n ∷ moved) = (is_compared (fate capacity policy c o) ≡ true)
      × (are_unsettled c.records (n ∷ moved) ≡ true)

  -- the contents after all writes, with a list of moves for each
  abbrev pub after_writes : Contents K V → List Ticketed → List (List ℕ) → Contents K V
  after_writes c [] ms = c
  after_writes c (h ∷ hs) [] = after_writes (after_write c h.operation []) hs []
  after_writes c (h ∷ hs) (moved ∷ ms) = after_writes (after_write c h.operation moved) hs ms

  -- what all writes take out of the map, in order
  abbrev pub left_by_writes : Contents K V → List Ticketed → List (List ℕ) → List (Notice K V)
  left_by_writes c [] ms = []
  left_by_writes c (h ∷ hs) [] = left_by_write c h.operation ++ left_by_writes (after_write c h.operation []) hs []
  left_by_writes c (h ∷ hs) (moved ∷ ms) =
      left_by_write c h.operation ++ left_by_writes (after_write c h.operation moved) hs ms

  -- there is one list of allowed moves for each write
  abbrev pub AreAllMoves : Contents K V → List Ticketed → List (List ℕ) → Type 0
  AreAllMoves c [] [] = Unit {0}
  AreAllMoves c [] (moved ∷ ms) = ⊥
  AreAllMoves c (h ∷ hs) [] = ⊥
  AreAllMoves c (h ∷ hs) (moved ∷ ms) = AreMoves c h.operation moved
      × AreAllMoves (after_write c h.operation moved) hs ms
