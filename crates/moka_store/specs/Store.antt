-- What a contract sees of a `Store`.
use Rattle.std.specs.Prelude.{◌≡◌, ◌≢◌, ℕ, Bool, true, false, Option, Some, None, IsSome, List, [], ◌∷◌, ◌==◌, if◌then◌else◌, slice_get, map, IsPermutation, refl}
use Rattle.std.specs.Coded.{Coded, code_by, coded×, coded_ℕ, coded_bool, coded_list, coded_option}
use Rattle.std.specs.FinMap as finite
use Rattle.std.specs.List.{AllZip}
use Rattle.std.specs.FinMap.{FinMap}
use Rattle.std.specs.Ordering.{nat_cmp}
use Rattle.moka_store.specs.declared.store.Handle.{Handle}
use Rattle.moka_table.specs.RecordTable.{altered}
use Rattle.moka_records.specs.declared.instant.Instant.{Instant}
use Rattle.moka_records.specs.declared.records.Record.{Record}
use Rattle.moka_records.specs.declared.records.Member.{Member}
use Rattle.moka_records.specs.RecordParts.{record_code}
use Rattle.moka_records.specs.Records.{Records, counted_of, is_listed}

-- the records by number, both orders, the timers, the place of each number that has a row, and how many new records
-- need no memory
pub record Kept (K V S : Type 0) : Type 0 where
  pub records : Records K V
  pub access : List Member
  -- the members' numbers in the order of writing, where that is kept
  pub written : List ℕ
  -- the moment of each number's timer
  pub timers : FinMap nat_cmp ℕ
  -- where a scan of the order of writing goes on; none is the front
  pub cursor : Option ℕ
  pub places : FinMap nat_cmp ℕ
  pub room : ℕ
  -- these never change: the order of writing is kept, and timers are
  pub ordered : Bool
  pub timed : Bool
  pub hasher : S

-- a member is stored as the pair of its fields
abbrev pub member_code : Coded Member
member_code = code_by (ℕ × ℕ) (coded× coded_ℕ coded_ℕ) (λ m. (m.number, m.counted))
    (λ p. record { number = p.0; counted = p.1 }) (λ _. refl)

-- what a store keeps is stored as the tuple of its fields
abbrev pub kept_code : {K V S : Type 0} → Coded K → Coded V → Coded S → Coded (Kept K V S)
kept_code {K} {V} {S} k v s =
    code_by
    (Records K V × (List Member
    × (List ℕ × (FinMap nat_cmp ℕ × (Option ℕ × (FinMap nat_cmp ℕ × (ℕ × (Bool × (Bool × S)))))))))
    (coded× (finite.code coded_ℕ (record_code k v))
    (coded× (coded_list member_code) (coded× (coded_list coded_ℕ)
    (coded× (finite.code coded_ℕ coded_ℕ) (coded× (coded_option coded_ℕ)
    (coded× (finite.code coded_ℕ coded_ℕ) (coded× coded_ℕ (coded× coded_bool (coded× coded_bool s)))))))))
    (λ k. (
      k.records,
      (k.access, (k.written, (k.timers, (k.cursor, (k.places, (k.room, (k.ordered, (k.timed, k.hasher)))))))),
    ))
    (λ p. record {
      records = p.0;
      access = p.1.0;
      written = p.1.1.0;
      timers = p.1.1.1.0;
      cursor = p.1.1.1.1.0;
      places = p.1.1.1.1.1.0;
      room = p.1.1.1.1.1.1.0;
      ordered = p.1.1.1.1.1.1.1.0;
      timed = p.1.1.1.1.1.1.1.1.0;
      hasher = p.1.1.1.1.1.1.1.1.1;
    })
    (λ _. refl)

-- the one behind the first that passes a test
abbrev pub behind : {X : Type 0} → (X → Bool) → List X → Option X
behind test [] = None
behind test (x ∷ xs) = if test x then slice_get xs 0 else behind test xs

-- the member behind the one of a number
abbrev pub member_after : ℕ → List Member → Option Member
member_after n members = behind (λ a. a.number == n) members

-- the number behind this one
abbrev pub number_after : ℕ → List ℕ → Option ℕ
number_after n ns = behind (λ m. m == n) ns

-- where a cursor stands once the number has moved or left: at the one that stood behind it, else at the front
abbrev pub cursor_past : ℕ → List ℕ → Option ℕ → Option ℕ
cursor_past n ns None = None
cursor_past n ns (Some m) = if m == n then number_after n ns else Some m

-- the timers with this moment for the number, or with none
abbrev pub with_timer : FinMap nat_cmp ℕ → ℕ → Option ℕ → FinMap nat_cmp ℕ
with_timer = altered

module _ {K V : Type 0} where
  -- the number has a row at the place
  abbrev pub IsPlaced : {S : Type 0} → Kept K V S → Handle → Type 0
  IsPlaced s handle = finite.get s.places handle.number ≡ Some handle.place

  -- the handle leads to a record that is in the map
  pub record IsHandle {S : Type 0} (s : Kept K V S) (handle : Handle) : Type 0 where
    pub placed : IsPlaced s handle
    pub stored : IsSome (finite.get s.records handle.number)

  -- the record of the number is to expire when it did, unless that was renewed
  abbrev pub ExpiresAsBefore : {S : Type 0} → Kept K V S → ℕ → Option Instant → Bool → Type 0
  ExpiresAsBefore s n expires is_renewed = is_renewed ≡ false → (r : Record K V) → finite.get s.records n ≡ Some r
      → expires ≡ r.expires

  -- the handle leads to a member that stands in the order of writing
  pub record IsOrdered {S : Type 0} (s : Kept K V S) (handle : Handle) : Type 0 where
    pub placed : IsPlaced s handle
    pub member : IsSome (counted_of handle.number s.access)
    pub listed : is_listed handle.number s.written ≡ true

  -- the number stands nowhere in the order of writing, no timer is its, and the cursor is not at it
  pub record IsOff {S : Type 0} (s : Kept K V S) (n : ℕ) : Type 0 where
    pub unlisted : is_listed n s.written ≡ false
    pub untimed : finite.get s.timers n ≡ None
    pub passed : s.cursor ≢ Some n

  -- each record is under its own number, and a key has one record
  pub record IsOneEach (eq : K → K → Bool) (records : Records K V) : Type 0 where
    pub numbered : (n : ℕ) (r : Record K V) → finite.get records n ≡ Some r → r.number ≡ n
    pub one_each : (n m : ℕ) (p q : Record K V) → finite.get records n ≡ Some p → finite.get records m ≡ Some q →
        eq p.key q.key ≡ true → n ≡ m

  -- the record of a number becomes what f makes of it, and all else stays
  abbrev pub ChangesRecord : {S : Type 0} → ℕ → (Record K V → Record K V) → Kept K V S → Kept K V S → Type 0
  ChangesRecord number f before after = (r : Record K V) → finite.get before.records number ≡ Some r
      → after ≡ record before { records = finite.insert before.records number (f r) }

  -- clones of the keys of these records, in some order
  abbrev pub AreKeysOf : (K → K → Type 0) → Records K V → List K → Type 0
  AreKeysOf is_clone records keys = (own : List K) × IsPermutation (map (λ r. r.key) (finite.values records)) own
      × AllZip is_clone own keys
