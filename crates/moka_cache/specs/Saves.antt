-- Entries that are saved, and put back into another cache.
use Rattle.std.specs.Prelude.{◌≡◌, ◌==◌, ◌+◌, ◌≤◌, ⊤, ℕ, Bool, Option, true, false, ◌||◌, List, [], ◌∷◌, ◌++◌, Some, ◌⊎◌, None, Result, Ok, Err, Contains}
use Rattle.std.specs.FinMap.{get}
use Rattle.std.specs.List.{AllByRecursion, IsDistinct}
use Rattle.std.specs.Vec.Iter.{into_iter_items}
use Rattle.moka_types.specs.declared.calls.Ticket.{Ticket}
use Rattle.moka_records.specs.declared.instant.Instant.{Instant}
use Rattle.moka_records.specs.declared.records.Member.{Member}
use Rattle.moka_records.specs.declared.records.Operation.TheVariants.{Upsert}
use Rattle.moka_records.specs.declared.records.Record.{Record}
use Rattle.moka_parts.specs.Calls.{no_events, Weighs}
use Rattle.moka_parts.specs.Exact.{weight_of_records}
use Rattle.moka_records.specs.Records.{counted_of, is_member, numbers_of, record_of_key}
use Rattle.moka_parts.specs.Runs.{Engine, Befalls}
use Rattle.moka_parts.specs.Settling.{IsWaiting}
use Rattle.moka_parts.specs.State.{State, Settings, Meaning, is_disabled}
use Rattle.moka_records.specs.Time.{has_passed, deadline, moment_of}
use Rattle.moka_parts.specs.Visibility.{has_lapsed}
use Rattle.moka_engine.specs.parts.Restored.{Restored}
use Rattle.moka_engine.specs.parts.RestoreRefused.{RestoreRefused}
use Rattle.moka_engine.specs.Restores.{RestoreStep}
use Rattle.moka_engine.specs.Snapshot.{Scene, Seen, IsListed, IsPassed}
use Rattle.moka_cache.specs.declared.cache.saves.RestoreManyRefused.{RestoreManyRefused}
use Rattle.moka_calls.specs.Synchronous.{Makes, Posts}

-- each record is a member of the access list
abbrev pub HasOnlyMembers : {K V X P W : Type 0} → State K V X P W → Type 0
HasOnlyMembers {K} {V} s = (n : ℕ) (r : Record K V) → get s.records n ≡ Some r → is_member n s.access ≡ true

-- an entry that is saved: clones of key and value, with the moments and the expiry
pub record IsSaved {K V : Type 0} (is_key_clone : K → K → Type 0) (is_value_clone : V → V → Type 0) (seen : Seen K V)
    (item : Restored K V) : Type 0 where
  pub key : is_key_clone seen.key item.key
  pub value : is_value_clone seen.value item.value
  pub written : item.last_modified ≡ seen.written
  pub read : item.last_accessed ≡ seen.read
  pub expires : item.expires ≡ seen.expires

-- the visible entries of these members are saved, in their order
abbrev pub AreSaved : {K V X P : Type 0} → (P → K → V → Bool → Type 0) → (K → K → Type 0) → (V → V → Type 0) →
    Scene K V X P → List Member → List (Restored K V) → Type 0
AreSaved says is_key_clone is_value_clone c [] items = items ≡ []
AreSaved {K} {V} says is_key_clone is_value_clone c (a ∷ members) items =
    (IsPassed says c a × AreSaved says is_key_clone is_value_clone c members items)
    ⊎ ((seen : Seen K V) × (item : Restored K V) × (rest : List (Restored K V)) × (items ≡ item ∷ rest)
    × IsListed says c a seen × IsSaved is_key_clone is_value_clone seen item
    × AreSaved says is_key_clone is_value_clone c members rest)

-- each record of the second was in the first, but for the applied generation
abbrev pub KeepsRecords : {K V X P W : Type 0} → State K V X P W → State K V X P W → Type 0
KeepsRecords {K} {V} s t = (n : ℕ) (q : Record K V) → get t.records n ≡ Some q → (r : Record K V)
    × (get s.records n ≡ Some r) × ((g : ℕ) × (q ≡ record r { applied = g }))

-- the record has the key and the value of the entry, its moments and its expiry
pub record IsOfItem {K V : Type 0} (item : Restored K V) (r : Record K V) : Type 0 where
  pub key_is : r.key ≡ item.key
  pub value_is : r.value ≡ item.value
  pub written_is : r.written ≡ item.last_modified
  pub read_is : r.read ≡ item.last_accessed
  pub expires_is : r.expires ≡ item.expires

-- the key of the entry has its record
pub record IsRestored {K V X P W : Type 0} (eq : K → K → Bool) (s : State K V X P W)
    (item : Restored K V) : Type 0 where
  pub kept : Record K V
  pub found : record_of_key eq s.records item.key ≡ Some kept
  pub of_item : IsOfItem item kept

-- each record of the second is one of the first, but for the applied generation, or has been put back of one of the
-- entries
abbrev pub AddsOnly : {K V X P W : Type 0} → List (Restored K V) → State K V X P W → State K V X P W → Type 0
AddsOnly {K} {V} items s t = (n : ℕ) (q : Record K V) → get t.records n ≡ Some q →
    ((r : Record K V) × (get s.records n ≡ Some r) × ((g : ℕ) × (q ≡ record r { applied = g })))
    ⊎ ((item : Restored K V) × Contains items item × IsOfItem item q)

-- ---- when nothing but time takes a record out

-- each member has its record, with the weight that is counted for it, and each upsert that waits has that of its record
pub record AreAsWeighed {K V X P W : Type 0} (s : State K V X P W) : Type 0 where
  pub once : IsDistinct (◌==◌) (numbers_of s.access)
  pub counted : (n w : ℕ) → counted_of n s.access ≡ Some w → (r : Record K V) × (get s.records n ≡ Some r)
      × (r.weight ≡ w)
  pub waiting : (n g w hash : ℕ) → IsWaiting s (Upsert n g w hash) → (r : Record K V) → get s.records n ≡ Some r →
      r.weight ≡ w

-- the limits are the same, and each record that has not expired at the moment is still there, but for the applied
-- generation
pub record KeepsUnexpired {K V X P W : Type 0} (now : ℕ) (s t : State K V X P W) : Type 0 where
  pub settings : t.settings ≡ s.settings
  pub capacity : t.capacity ≡ s.capacity
  pub there : (n : ℕ) (r : Record K V) → get s.records n ≡ Some r →
      has_lapsed s.settings s.invalid_before r now ≡ false → (g : ℕ)
      × (get t.records n ≡ Some (record r { applied = g }))

-- the entries weigh no more than this in all, whatever the weigher tells
abbrev pub WeighAtMost : {K V W : Type 0} → (W → K → V → ℕ → Type 0) → Option W → List (Restored K V) → ℕ → Type 0
WeighAtMost weighs weigher [] total = ⊤
WeighAtMost weighs weigher (item ∷ items) total =
    (own : ℕ) × (rest : ℕ) × (own + rest ≤ total) × ((w : ℕ) → Weighs weighs weigher item.key item.value w → w ≤ own)
    × WeighAtMost weighs weigher items rest

module _ {K V X P W : Type 0} (weighs : W → K → V → ℕ → Type 0) where
  -- there is no capacity, or it has room for all records and these entries
  abbrev pub HasRoomFor : Option ℕ → List (Restored K V) → State K V X P W → Type 0
  HasRoomFor None items s = ⊤
  HasRoomFor (Some capacity) items s = (is_disabled (Some capacity) ≡ false) × AreAsWeighed s
      × ((total : ℕ) × WeighAtMost weighs s.settings.weigher items total
      × (weight_of_records s.records + total ≤ capacity))

  -- nothing but time takes out a record, or one of these entries when it is put back: there is room for all, no
  -- predicate and no invalidation of all
  pub record IsRoomyFor (items : List (Restored K V)) (s : State K V X P W) : Type 0 where
    pub room : HasRoomFor s.capacity items s
    pub bound : s.invalid_before ≡ None
    pub predicates : s.predicates ≡ []

  -- while these entries are put back, nothing but time takes a record out; and then there is room for the others
  abbrev pub TakesOnlyExpired : List (Restored K V) → ℕ → State K V X P W → State K V X P W → Type 0
  TakesOnlyExpired items now s t = (others : List (Restored K V)) → IsRoomyFor (items ++ others) s
      → KeepsUnexpired now s t × IsRoomyFor others t

-- an entry that is put back has expired at the moment
abbrev pub has_expired : {K V X W : Type 0} → Settings X W → ℕ → Restored K V → Bool
has_expired settings now item = has_passed (moment_of item.expires) now
    || has_passed (deadline settings.time_to_live item.last_modified.0) now
    || has_passed (deadline settings.time_to_idle item.last_accessed.0) now

-- if there is room for all, each of the entries that has not expired at the moment has been put back
abbrev pub AreThere : {K V X P W : Type 0} → (W → K → V → ℕ → Type 0) → (K → K → Bool) → ℕ → List (Restored K V) →
    State K V X P W → State K V X P W → Type 0
AreThere weighs eq now items s t = IsRoomyFor weighs items s
    → AllByRecursion (λ item. has_expired s.settings now item ≡ false → IsRestored eq t item) items

-- ---- calls

module _ {K V S X L P W C : Type 0} (m : Meaning K V X L P W C (Unit {0})) (hash_of : S → K → ℕ) (now : Instant) where
  -- an entry is put back, and its ticket posted; a disabled map lets it go, and one that is refused comes back for that
  -- reason
  abbrev pub PutsBack : Restored K V → Result (Unit {0}) (RestoreRefused K V) → Engine K V S X L P W → C →
      Engine K V S X L P W → C → Type 0
  PutsBack item (Ok done) old clock new clock_after =
      ((is_disabled old.state.capacity ≡ true) × (new ≡ old) × (clock_after ≡ clock))
      ⊎ ((is_disabled old.state.capacity ≡ false) × (mid : Engine K V S X L P W) × (ticket : Ticket)
      × RestoreStep m.weighs m.eq old.state item (hash_of old.hasher item.key) (Ok ticket) mid.state
      × Befalls m.tells no_events old mid
      × Makes m (Posts now ticket) mid clock new clock_after)
  PutsBack item (Err refused) old clock new clock_after =
      (is_disabled old.state.capacity ≡ false)
      × RestoreStep m.weighs m.eq old.state item (hash_of old.hasher item.key) (Err refused) new.state
      × Befalls m.tells no_events old new × (clock_after ≡ clock)

  -- each is put back, one after the other
  abbrev pub PutsAllBack : List (Restored K V) → Engine K V S X L P W → C → Engine K V S X L P W → C → Type 0
  PutsAllBack [] old clock new clock_after = (new ≡ old) × (clock_after ≡ clock)
  PutsAllBack (item ∷ items) old clock new clock_after =
      (mid : Engine K V S X L P W) × (between : C) × PutsBack item (Ok tt) old clock mid between
      × PutsAllBack items mid between new clock_after

  -- each is put back; or those before the one that is refused, and those after it come back
  abbrev pub PutsManyBack : List (Restored K V) → Result (Unit {0}) (RestoreManyRefused K V) → Engine K V S X L P W →
      C → Engine K V S X L P W → C → Type 0
  PutsManyBack items (Ok all) old clock new clock_after = PutsAllBack items old clock new clock_after
  PutsManyBack items (Err e) old clock new clock_after =
      (done : List (Restored K V)) × (item : Restored K V) × (items ≡ done ++ item ∷ into_iter_items e.rest)
      × (mid : Engine K V S X L P W) × (between : C) × PutsAllBack done old clock mid between
      × PutsBack item (Err e.refused) mid between new clock_after
