-- What always holds of records, members and operations, and what a run settles.
use Rattle.std.specs.Prelude.{◌≡◌, ℕ, Bool, true, false, ◌==◌, not, ◌+◌, ◌<◌, ◌≤◌, ◌||◌, List, [], length, Option, Some, None, is_some, ◌⊎◌, Contains, ⊤}
use Rattle.std.specs.List.{IsDistinct, list_any}
use Rattle.std.specs.FinMap.{get, len, empty}
use Rattle.moka_records.specs.declared.records.Record.{Record}
use Rattle.moka_records.specs.declared.records.Member.{Member}
use Rattle.moka_parts.specs.declared.records.Registered.{Registered}
use Rattle.moka_records.specs.declared.records.Ticketed.{Ticketed}
use Rattle.moka_records.specs.declared.records.Operation.{Operation}
use Rattle.moka_records.specs.declared.records.Operation.TheVariants.{Upsert, Removal}
use Rattle.moka_records.specs.Records.{Records, Operations, counted_of, numbers_of, is_applied, is_member, is_settled}
use Rattle.moka_parts.specs.State.{State, is_disabled}
use Rattle.moka_parts.specs.Visibility.{is_expired, Covers}
use Rattle.moka_parts.specs.Maintenance.{Course, Terms, is_over, is_cut}
use Rattle.moka_parts.specs.Exact.{IsExact, IsWithin}

-- ---- operations that wait

-- the operation was handed out and not sent, or is queued
abbrev pub IsWaitingIn : Operations → List Ticketed → Operation → Type 0
IsWaitingIn outstanding writes o = ((ticket : ℕ) × (get outstanding ticket ≡ Some o))
    ⊎ ((ticket : ℕ) × Contains writes (record { ticket = ticket; operation = o }))

-- the same of a state
abbrev pub IsWaiting : {K V X P W : Type 0} → State K V X P W → Operation → Type 0
IsWaiting s o = IsWaitingIn s.outstanding s.writes o

-- the record number of an operation
abbrev pub number_of : Operation → ℕ
number_of (Upsert number generation weight hash) = number
number_of (Removal number generation) = number

-- what holds of a record in the map, given the weight that is counted for it, if it is a member, and the operations
-- that wait
pub record IsTracked {K V : Type 0} (Waits : Operation → Type 0) (n : ℕ) (r : Record K V)
    (counted : Option ℕ) : Type 0 where
  -- no operation was applied that is newer than the record
  pub applied : r.applied ≤ r.generation
  -- and outside the access list the present one was not
  pub outside : counted ≡ None → r.applied < r.generation
  -- if the present one was applied, its weight is counted
  pub weighed : (w : ℕ) → counted ≡ Some w → r.applied ≡ r.generation → w ≡ r.weight
  -- if it was not, it waits
  pub pending : r.applied < r.generation → (hash : ℕ) × Waits (Upsert n r.generation r.weight hash)
  -- no upsert that waits is newer than the record, and the present one carries its weight
  pub carried : (generation weight hash : ℕ) → Waits (Upsert n generation weight hash) → (generation ≤ r.generation)
      × (generation ≡ r.generation → weight ≡ r.weight)
  -- no removal of it waits
  pub stays : (generation : ℕ) → Waits (Removal n generation) → ⊥

-- what holds of a number: its record is tracked, or, if the record left the map, its member waits for its removal
abbrev pub IsSound : {K V : Type 0} → (Operation → Type 0) → ℕ → Option (Record K V) → Option ℕ → Type 0
IsSound Waits n (Some r) counted = IsTracked Waits n r counted
IsSound Waits n None (Some w) = (generation : ℕ) × Waits (Removal n generation)
IsSound Waits n None None = ⊤

-- what holds of records and access list at every moment, whatever was sent
pub record IsConsistent {K V : Type 0} (Waits : Operation → Type 0) (records : Records K V)
    (access : List Member) : Type 0 where
  -- no number stands twice in the access list
  pub once : IsDistinct (◌==◌) (numbers_of access)
  pub sound : (n : ℕ) → IsSound Waits n (get records n) (counted_of n access)

-- the same of a state
abbrev pub IsConsistentState : {K V X P W : Type 0} → State K V X P W → Type 0
IsConsistentState s = IsConsistent (IsWaiting s) s.records s.access

-- each record stands at its own number, which was given out, as was that of each operation that waits; and a key has
-- one record
pub record AreNumbered {K V : Type 0} (eq : K → K → Bool) (records : Records K V) (Waits : Operation → Type 0)
    (next_number : ℕ) : Type 0 where
  pub numbered : (n : ℕ) (r : Record K V) → get records n ≡ Some r → (r.number ≡ n) × (n < next_number)
  pub known : (o : Operation) → Waits o → number_of o < next_number
  pub one_each : (n m : ℕ) (p q : Record K V) → get records n ≡ Some p → get records m ≡ Some q →
      eq p.key q.key ≡ true → n ≡ m

-- each operation that waits has a ticket that was given out
pub record AreTicketed (outstanding : Operations) (writes : List Ticketed) (next_ticket : ℕ) : Type 0 where
  pub handed : (ticket : ℕ) (o : Operation) → get outstanding ticket ≡ Some o → ticket < next_ticket
  pub sent : (h : Ticketed) → Contains writes h → h.ticket < next_ticket

-- the operation waits under the ticket
abbrev pub WaitsAt : Operations → List Ticketed → ℕ → Operation → Type 0
WaitsAt outstanding writes ticket o = (get outstanding ticket ≡ Some o)
    ⊎ Contains writes (record { ticket = ticket; operation = o })

-- of a record's upserts that wait, the one under the later ticket has the later generation
pub record AreRising (outstanding : Operations) (writes : List Ticketed) : Type 0 where
  pub rising : (t u n g h w v x y : ℕ) → WaitsAt outstanding writes t (Upsert n g w x) →
      WaitsAt outstanding writes u (Upsert n h v y) → t < u → g < h

-- nothing is kept, and nothing reported
pub record IsBare {K V : Type 0} (records : Records K V) (access : List Member) (count weight : ℕ) : Type 0 where
  pub no_records : records ≡ empty
  pub no_members : access ≡ []
  pub no_count : count ≡ 0
  pub no_weight : weight ≡ 0

-- what numbers, tickets and keys are for; a disabled cache holds nothing
pub record IsWellNumbered {K V X P W : Type 0} (eq : K → K → Bool) (s : State K V X P W) : Type 0 where
  pub numbered : AreNumbered eq s.records (IsWaiting s) s.next_number
  pub ticketed : AreTicketed s.outstanding s.writes s.next_ticket
  pub disabled : is_disabled s.capacity ≡ true → IsBare s.records s.access s.count s.weight

-- what holds of a state at every moment
pub record IsValid {K V X P W : Type 0} (eq : K → K → Bool) (s : State K V X P W) : Type 0 where
  pub consistent : IsConsistentState s
  pub numbered : IsWellNumbered eq s
  pub rising : AreRising s.outstanding s.writes

-- ---- what a run leaves

-- a hit never changes an expiry, also if none is set
abbrev pub NeverRenews : {K V X : Type 0} → (X → K → V → ℕ → Option ℕ → ℕ → Option ℕ) → Option X → Type 0
NeverRenews {K} {V} {X} read expiry = (x : X) (k : K) (v : V) (now : ℕ) (told : Option ℕ) (written : ℕ)
    → expiry ≡ Some x → read x k v now told written ≡ told

module _ {K V X P W : Type 0} where
  -- a run that was not cut and may remove something
  abbrev pub IsWhole : State K V X P W → Terms → Course → Type 0
  IsWhole s terms course = (is_cut s.settings terms course ≡ false) × (1 ≤ terms.batch)

  -- every operation was sent
  abbrev pub IsAllSent : State K V X P W → Type 0
  IsAllSent s = s.outstanding ≡ empty

  -- the same of a state
  abbrev pub NeverRenewsOnRead : (X → K → V → ℕ → Option ℕ → ℕ → Option ℕ) → State K V X P W → Type 0
  NeverRenewsOnRead read s = NeverRenews read s.settings.expiry

  -- a member is not settled
  abbrev pub has_unsettled_member : State K V X P W → Bool
  has_unsettled_member s = list_any (λ a. not (is_settled s.records a.number)) s.access

  -- a member is settled
  abbrev pub has_settled_member : State K V X P W → Bool
  has_settled_member s = list_any (λ a. is_settled s.records a.number) s.access

  -- what a run of batch 0 leaves more: a time or an invalidation of all to test records by, or an exceeded capacity
  abbrev pub leaves_more_idle : State K V X P W → Bool
  leaves_more_idle s = is_some s.settings.time_to_live || is_some s.settings.time_to_idle || is_some s.invalid_before
      || is_over s.capacity s.access

-- what every run leaves, whatever was sent
pub record LeavesBehind {K V X P W : Type 0} (s : State K V X P W) (terms : Terms) (course : Course)
    (t : State K V X P W) : Type 0 where
  -- a whole run ends within the capacity, or with an unsettled member
  pub within : IsWhole s terms course → IsWithin t.capacity t.access ⊎ (has_unsettled_member t ≡ true)
  -- a cut run leaves more
  pub cut : is_cut s.settings terms course ≡ true → course.answer ≡ true
  -- a whole run leaves more only if a predicate is left
  pub more : IsWhole s terms course → course.answer ≡ true → 0 < length t.predicates
  -- and does so if one is left beside a settled member
  pub unfinished : IsWhole s terms course → 0 < length t.predicates → has_settled_member t ≡ true → course.answer ≡ true
  -- with a batch of 0 it leaves more if there is anything to test records by
  pub idle : is_disabled s.capacity ≡ false → terms.batch ≡ 0 → course.answer ≡ leaves_more_idle t
  -- the reported count is off by no more than the operations not sent
  pub count_high : t.count ≤ len t.records + len t.outstanding
  pub count_low : len t.records ≤ t.count + len t.outstanding

-- what a run settles
pub record Settles {K V X P W : Type 0} (says : P → K → V → Bool → Type 0)
    (read : X → K → V → ℕ → Option ℕ → ℕ → Option ℕ) (s : State K V X P W) (terms : Terms) (course : Course)
    (t : State K V X P W) : Type 0 where
  -- of the settled members none is left whose own expiry has come, whatever was sent, and however the run ended
  pub settled : NeverRenewsOnRead read s → (n : ℕ) (r : Record K V) → get t.records n ≡ Some r →
      is_member n t.access ≡ true → is_applied r ≡ true → is_expired r terms.now ≡ false
  -- once every operation was sent, counts and weights are exactly the records'
  pub exact : IsAllSent s → IsExact t
  -- and within the capacity, after a whole run
  pub within : IsWhole s terms course → IsAllSent s → IsWithin t.capacity t.access
  -- no record is left whose own expiry has come
  pub expired : IsAllSent s → NeverRenewsOnRead read s → (n : ℕ) (r : Record K V) →
      get t.records n ≡ Some r → is_expired r terms.now ≡ false
  -- with a batch for all records no predicate is left
  pub predicates : IsAllSent s → is_disabled s.capacity ≡ false → len s.records ≤ terms.batch → t.predicates ≡ []
  -- and none of the records that one covered
  pub covered : IsAllSent s → len s.records ≤ terms.batch → (p : Registered P) (n : ℕ) (r : Record K V) →
      Contains s.predicates p → get t.records n ≡ Some r → Covers says p r → ⊥
