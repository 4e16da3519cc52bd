-- The visible entries in the order of access.
use Rattle.std.specs.Prelude.{◌≡◌, ℕ, Bool, true, false, ◌==◌, List, [], ◌∷◌, ◌++◌, Option, Some, None, IsSome, option_map, ◌⊎◌, if◌then◌else◌}
use Rattle.std.specs.FinMap.{get}
use Rattle.moka_records.specs.declared.instant.Instant.{Instant}
use Rattle.moka_records.specs.declared.records.Member.{Member}
use Rattle.moka_records.specs.declared.records.Record.{Record}
use Rattle.moka_parts.specs.declared.records.Registered.{Registered}
use Rattle.moka_parts.specs.Expiry.{remaining}
use Rattle.moka_types.specs.Policy.{Expirations}
use Rattle.moka_records.specs.Records.{Records, counted_of}
use Rattle.moka_parts.specs.State.{State}
use Rattle.moka_parts.specs.Visibility.{has_lapsed, SomeCovers, NoneCovers}
use Rattle.moka_store.specs.declared.store.Handle.{Handle}
use Rattle.moka_store.specs.Store.{Kept, IsPlaced}
use Rattle.moka_lookups.specs.Expirations.{expirations_of, expiring_by}

-- ---- what a snapshot lists

-- the members from this number on
abbrev pub members_from : Option ℕ → List Member → List Member
members_from None members = []
members_from (Some n) [] = []
members_from (Some n) (a ∷ members) = if a.number == n then a ∷ members else members_from (Some n) members

-- what a snapshot looks at: the records, the members that are still to come, what hides records, and its moment
pub record Scene (K V X P : Type 0) : Type 0 where
  pub records : Records K V
  pub members : List Member
  pub expirations : Expirations X
  pub bound : Option Instant
  pub predicates : List (Registered P)
  pub now : ℕ

-- an entry as it is listed
pub record Seen (K V : Type 0) : Type 0 where
  pub key : K
  pub value : V
  pub written : Instant
  pub read : Instant
  pub expires : Option Instant
  -- how long it has left, in nanoseconds
  pub left : Option ℕ

-- the scene of a cache at the moment
abbrev pub scene_of : {K V X P W : Type 0} → State K V X P W → ℕ → Scene K V X P
scene_of s now = record {
  records = s.records;
  members = s.access;
  expirations = expirations_of s.settings;
  bound = s.invalid_before;
  predicates = s.predicates;
  now = now;
}

-- the same of what a store keeps, from the member at a handle on
abbrev pub scene_at : {K V S X P : Type 0} → Kept K V S → Expirations X → Option Instant → List (Registered P) → ℕ →
    Option Handle → Scene K V X P
scene_at kept expirations bound predicates now at = record {
  records = kept.records;
  members = members_from (option_map (λ h. h.number) at) kept.access;
  expirations = expirations;
  bound = bound;
  predicates = predicates;
  now = now;
}

-- the same of all its members
abbrev pub scene_from : {K V S X P : Type 0} → Kept K V S → Expirations X → Option Instant → List (Registered P) → ℕ →
    Scene K V X P
scene_from kept expirations bound predicates now = record {
  records = kept.records;
  members = kept.access;
  expirations = expirations;
  bound = bound;
  predicates = predicates;
  now = now;
}

-- the handle leads to a member
abbrev pub StandsIn : {K V S : Type 0} → Kept K V S → Handle → Type 0
StandsIn kept handle = IsPlaced kept handle × IsSome (counted_of handle.number kept.access)

module _ {K V X P : Type 0} (says : P → K → V → Bool → Type 0) (c : Scene K V X P) where
  -- the record is visible
  abbrev pub IsShownIn : Record K V → Type 0
  IsShownIn r = (has_lapsed (expiring_by c.expirations) c.bound r c.now ≡ false) × NoneCovers says c.predicates r

  -- the record is hidden
  abbrev pub IsHiddenIn : Record K V → Type 0
  IsHiddenIn r = (has_lapsed (expiring_by c.expirations) c.bound r c.now ≡ true) ⊎ SomeCovers says c.predicates r

  -- nothing is listed of the member: its record is hidden, or left the map
  abbrev pub IsPassed : Member → Type 0
  IsPassed a = (r : Record K V) → get c.records a.number ≡ Some r → IsHiddenIn r

  -- the same of each
  abbrev pub ArePassed : List Member → Type 0
  ArePassed [] = Unit {0}
  ArePassed (a ∷ members) = IsPassed a × ArePassed members

  -- the first of the members whose record is visible, and the scene behind it
  abbrev pub FindsNext : Option (Record K V) → Scene K V X P → Type 0
  FindsNext None d = ArePassed c.members × (d ≡ record c { members = [] })
  FindsNext (Some r) d = (hidden : List Member) × (a : Member) × (c.members ≡ hidden ++ a ∷ d.members)
      × (d ≡ record c { members = d.members }) × ArePassed hidden × (get c.records a.number ≡ Some r) × IsShownIn r

  -- the entry of a record, as it is listed
  abbrev pub seen : Record K V → Seen K V
  seen r = record {
    key = r.key;
    value = r.value;
    written = r.written;
    read = r.read;
    expires = r.expires;
    left = remaining (expiring_by c.expirations) r c.now;
  }

  -- the member's record is visible, and listed so
  pub record IsListed (a : Member) (item : Seen K V) : Type 0 where
    pub kept : Record K V
    pub there : get c.records a.number ≡ Some kept
    pub shown : IsShownIn kept
    pub same : item ≡ seen kept

  -- the next entry that is listed: that of the first member whose record is visible
  abbrev pub ListsNext : Option (Seen K V) → Scene K V X P → Type 0
  ListsNext None d = ArePassed c.members × (d ≡ record c { members = [] })
  ListsNext (Some item) d = (hidden : List Member) × (a : Member) × (c.members ≡ hidden ++ a ∷ d.members)
      × (d ≡ record c { members = d.members }) × ArePassed hidden × IsListed a item
