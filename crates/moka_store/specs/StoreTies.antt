-- How the parts of a `Store` hold together. No public clause cites this module.
use Rattle.std.specs.Prelude.{◌≡◌, ℕ, ◌+◌, ◌^◌, ◌-◌, ◌<◌, ◌≤◌, min, Bool, true, List, Option, Some, IsSome, is_some, count_by, length, map, nat_eq}
use Rattle.std.specs.FinMap.{FinMap, get, len}
use Rattle.std.specs.List.{IsDistinct}
use Rattle.std.specs.Map.{lookup, keys_of}
use Rattle.std.specs.Option.{option_map, option_and_then}
use Rattle.std.specs.Ordering.{nat_cmp}
use Rattle.moka_table.specs.RecordTable.{Row, row_at, membership_at, IsNumbered, records_of, places_of}
use Rattle.moka_structures.specs.Linked.{IsLinked}
use Rattle.moka_structures.specs.OrderList.{Order}
use Rattle.moka_wheel.specs.TimerWheel.{Timer}
use Rattle.moka_store.specs.WriteList.{Listing, IsCursor}
use Rattle.moka_store.specs.Timers.{Timing}
use Rattle.moka_store.specs.Store.{Kept}
use Rattle.moka_store.specs.Rows.{key_at, access_in, written_in, written_slot_at, timer_at, member_at, written_of, cursor_of, timers_of, row_room}
use Rattle.moka_store.specs.Weights.{IsWeighed}
use Rattle.moka_records.specs.declared.records.Record.{Record}

-- the hash under which a key is indexed, and the hash that the index has for each place
pub record KeyIndex (K : Type 0) : Type 0 where
  pub hash_of : K → ℕ
  pub entries : FinMap nat_cmp ℕ

-- the index has each place of a key under the key's hash, and no other place; no two places have equal keys
pub record IsIndex {K : Type 0} (eq : K → K → Bool) (key_at : ℕ → Option K) (index : KeyIndex K) : Type 0 where
  pub at : (place : ℕ) → get index.entries place ≡ option_map index.hash_of (key_at place)
  pub once : (p q : ℕ) (a b : K) → key_at p ≡ Some a → key_at q ≡ Some b → eq a b ≡ true → p ≡ q

-- each record has the number of its row
pub record IsNamed {K V : Type 0} (at : ℕ → Option (Row (Record K V))) : Type 0 where
  pub same : (p : ℕ) (row : Row (Record K V)) (r : Record K V) → at p ≡ Some row → row.stored ≡ Some r →
      r.number ≡ row.number

-- the slots in the rows are those of the nodes, and none stands twice
pub record HasSlots {K V : Type 0} (slot_in : Row (Record K V) → Option ℕ) (rows : List (Option (Row (Record K V))))
    (nodes : List (ℕ × ℕ)) : Type 0 where
  pub linked : IsLinked (λ place. option_and_then slot_in (row_at rows place)) (λ slot. lookup (nat_eq slot) nodes)
  pub distinct : IsDistinct nat_eq (keys_of nodes)

-- the parts belong together
pub record IsTied {K V : Type 0} (eq : K → K → Bool) (rows : List (Option (Row (Record K V)))) (index : KeyIndex K)
    (nodes : List (ℕ × ℕ)) : Type 0 where
  pub numbered : IsNumbered (row_at rows)
  pub named : IsNamed (row_at rows)
  pub indexed : IsIndex eq (key_at rows) index
  pub listed : HasSlots access_in rows nodes

-- the nodes of the write list are those of rows, where the list is kept of all members
pub record IsWritten {K V : Type 0} (rows : List (Option (Row (Record K V)))) (list : Listing) : Type 0 where
  pub listed : HasSlots written_in rows list.nodes
  pub cursor : IsCursor list.nodes list.cursor
  pub all : list.ordered ≡ true → (place : ℕ) → IsSome (membership_at rows place) → IsSome (written_slot_at rows place)

-- the slots in the rows are those of the timers, and only members have one
pub record IsTimed {K V : Type 0} (rows : List (Option (Row (Record K V))))
    (timers : FinMap nat_cmp Timer) : Type 0 where
  pub linked : IsLinked (timer_at rows) (λ slot. option_map (λ t. t.number) (get timers slot))
  pub members : (place : ℕ) → IsSome (timer_at rows place) → IsSome (membership_at rows place)

-- each row's place has 32 bits
abbrev pub AreNarrow : FinMap nat_cmp ℕ → Type 0
AreNarrow places = (n place : ℕ) → get places n ≡ Some place → place < 2 ^ 32

-- there is a key for each record, and a node and a timer for each row, the weight is that of all members, and places
-- are narrow
pub record IsStore {K V : Type 0} (eq : K → K → Bool) (rows : List (Option (Row (Record K V)))) (index : KeyIndex K)
    (keys : ℕ) (nodes : List (ℕ × ℕ)) (list : Listing) (timing : Timing) (most weight : ℕ) : Type 0 where
  pub tied : IsTied eq rows index nodes
  pub written : IsWritten rows list
  pub timed : IsTimed rows timing.timers
  pub keyed : keys ≡ len (records_of rows)
  pub fits : count_by is_some rows ≤ most
  pub few : length nodes < 2 ^ 32
  pub narrow : AreNarrow (places_of rows)
  pub weighed : IsWeighed (map (member_at rows) nodes) weight

-- for how many rows the nodes of both lists and the timers suffice
abbrev pub most_of : Order ℕ → Listing → Timing → ℕ
most_of access list timing = min (length access.members + access.room) (min list.most timing.most)

-- what a contract sees of the parts, where so many places of the index, rows and nodes fit with no memory
abbrev pub kept_of : {K V S : Type 0} → S → List (Option (Row (Record K V))) → List (ℕ × ℕ) → Listing → Timing → ℕ → ℕ →
    ℕ → Kept K V S
kept_of hasher rows nodes list timing spare room most = record {
  records = records_of rows;
  access = map (member_at rows) nodes;
  written = written_of rows list.nodes;
  timers = timers_of timing.timers rows;
  cursor = cursor_of rows list.cursor;
  places = places_of rows;
  room = min spare (min (row_room rows room) (most - count_by is_some rows));
  ordered = list.ordered;
  timed = timing.timed;
  hasher = hasher;
}
