-- States in which operations wait in the order of their writing, and what that gives.
use Rattle.std.specs.Prelude.{◌≡◌, ℕ, Bool, true, false, ◌==◌, ◌<◌, ◌≤◌, List, [], ◌∷◌, ◌++◌, length, map, filter, filter_map, Option, Some, None, option_map, option_and_then, Contains, slice_get, if◌then◌else◌, ⊤}
use Rattle.std.specs.List.Sorted.{IsNonDecreasing, IsStrictlyIncreasing}
use Rattle.std.specs.FinMap.{get, entries, contains_key}
use Rattle.moka_types.specs.declared.policy.EvictionPolicy.{EvictionPolicy}
use Rattle.moka_records.specs.declared.records.Record.{Record}
use Rattle.moka_records.specs.declared.records.Ticketed.{Ticketed}
use Rattle.moka_records.specs.declared.records.Operation.{Operation}
use Rattle.moka_records.specs.declared.records.Operation.TheVariants.{Upsert, Removal}
use Rattle.moka_types.specs.declared.calls.Call.{Call}
use Rattle.moka_types.specs.declared.calls.Call.TheVariants as call
pub use Rattle.moka_records.specs.Records.{IsListOf}
use Rattle.moka_records.specs.Records.{Records, is_settled, without_number, number_to_back, without_numbers, entered_by}
use Rattle.moka_parts.specs.State.{State, Contents, keeps_write_list}
use Rattle.moka_parts.specs.Visibility.{is_past_live, is_written_before}
use Rattle.moka_parts.specs.Writes.{Fate, Ignored, Overtaken, Counted, Admitted, TooHeavy, Preferred, Refused, fate, after_write}
use Rattle.moka_parts.specs.Maintenance.{Choice, Removes, MovesToBack, Drops, Freedom, Terms, Course, after_choices, after_queued_reads, before_steps, Tests, tests_of, is_past_write}
use Rattle.moka_parts.specs.Calls.{queue_length}
use Rattle.moka_parts.specs.Settling.{IsWhole, IsAllSent}

-- the operations handed out, by ticket, behind those queued
abbrev pub waiting_by_ticket : {K V X P W : Type 0} → State K V X P W → List Ticketed
waiting_by_ticket s =
    s.writes ++ map (λ (e : ℕ × Operation). record { ticket = e.0; operation = e.1 }) (entries s.outstanding)

module _ {K V : Type 0} (records : Records K V) where
  -- when the record of the number was written
  abbrev pub written_at : ℕ → Option ℕ
  written_at n = option_map (λ r. r.written.0) (get records n)

  -- the written moment of the record, if the generation is its present one
  abbrev pub written_if : ℕ → Record K V → Option ℕ
  written_if generation r = if generation == r.generation then Some r.written.0 else None

  -- the written moment of the record whose present generation the upsert has
  abbrev pub written_by : Operation → Option ℕ
  written_by (Removal number generation) = None
  written_by (Upsert number generation weight hash) = option_and_then (written_if generation) (get records number)

  -- an upsert of a record in the map was not applied, nor overtaken
  abbrev pub IsNewer : Operation → Type 0
  IsNewer (Removal number generation) = ⊤
  IsNewer (Upsert number generation weight hash) = (r : Record K V) → get records number ≡ Some r
      → r.applied < generation

-- the list has just the numbers of the state's members, each once
abbrev pub IsWriteList : {K V X P W : Type 0} → State K V X P W → List ℕ → Type 0
IsWriteList s write_list = IsListOf s.access write_list

-- with this write list, members stand and operations wait in the order of their writing
pub record IsInOrder {K V X P W : Type 0} (s : State K V X P W) (write_list : List ℕ) : Type 0 where
  pub listed : IsWriteList s write_list
  -- the queued tickets rise
  pub rising : IsStrictlyIncreasing (map (λ h. h.ticket) s.writes)
  -- below those not sent
  pub below : (h : Ticketed) (ticket : ℕ) → Contains s.writes h → contains_key s.outstanding ticket ≡ true →
      h.ticket < ticket
  -- none of them was applied or overtaken
  pub newer : (h : Ticketed) → Contains (waiting_by_ticket s) h → IsNewer s.records h.operation
  -- the settled members were written in the list's order, and then the waiting records in that of their tickets
  pub written : IsNonDecreasing (filter_map (written_at s.records)
      (filter (is_settled s.records) write_list) ++ filter_map (λ h. written_by s.records h.operation)
      (waiting_by_ticket s))

-- a call in the order of time: an insert no earlier than any write, or, if a send moves an operation, the oldest one
-- sent
abbrev pub IsOrderly : {K V X P W : Type 0} → State K V X P W → Call K V P → Type 0
IsOrderly s (call.Insert key hash value now) = (n : ℕ) (r : Record _ _) → get s.records n ≡ Some r → r.written.0 ≤ now.0
IsOrderly s (call.Send ticket) = contains_key s.outstanding ticket.0 ≡ true → length s.writes < queue_length → (n : ℕ)
    → contains_key s.outstanding n ≡ true → ticket.0 ≤ n
IsOrderly s c = ⊤

-- a whole run left no record past its time to live, and none written before the invalidation of all
pub record AgesOut {K V X P W : Type 0} (s : State K V X P W) (terms : Terms) (course : Course)
    (t : State K V X P W) : Type 0 where
  -- by the time to live
  pub live : IsWhole s terms course → IsAllSent s → keeps_write_list s.settings ≡ true → (n : ℕ) (r : Record K V) →
      get t.records n ≡ Some r → is_past_live t.settings r terms.now ≡ false
  -- by the invalidation of all
  pub invalid : IsWhole s terms course → IsAllSent s → keeps_write_list s.settings ≡ true → (n : ℕ) (r : Record K V) →
      get t.records n ≡ Some r → is_written_before t.invalid_before r ≡ false

module _ {K V X P W : Type 0} where
  -- if the write list is kept, a call in the order of time keeps a state in order
  abbrev pub KeepsOrder : State K V X P W → List ℕ → Call K V P → State K V X P W → List ℕ → Type 0
  KeepsOrder s before c t after = keeps_write_list s.settings ≡ true → IsOrderly s c → IsInOrder s before
      → IsInOrder t after

  -- from a state in order a run removes what is past its time
  abbrev pub AgesOutInOrder : State K V X P W → List ℕ → Terms → Course → State K V X P W → Type 0
  AgesOutInOrder s write_list terms course t = IsInOrder s write_list → AgesOut s terms course t

-- ---- the course of the write list

-- the list after an upsert of the number's record with that fate: what enters or is written again stands at the back,
-- victims leave
abbrev pub written_after_fate : Bool → ℕ → List ℕ → Fate → List ℕ
written_after_fate kept n ns Ignored = ns
written_after_fate kept n ns Overtaken = number_to_back n ns
written_after_fate kept n ns Counted = number_to_back n ns
written_after_fate kept n ns Admitted = entered_by kept n ns
written_after_fate kept n ns TooHeavy = ns
written_after_fate kept n ns (Preferred victims) = entered_by kept n (without_numbers victims ns)
written_after_fate kept n ns Refused = ns

module _ {K V : Type 0} (kept : Bool) (capacity : Option ℕ) (policy : EvictionPolicy) where
  -- the list after a write; what TinyLFU's comparison moves stays where it is
  abbrev pub written_after_write : Contents K V → List ℕ → Operation → List ℕ
  written_after_write c ns (Removal number generation) = without_number number ns
  written_after_write c ns (Upsert number generation weight hash) =
      written_after_fate kept number ns (fate capacity policy c (Upsert number generation weight hash))

  -- the list after all writes, with a list of moves for each
  abbrev pub written_after_writes : Contents K V → List ℕ → List Ticketed → List (List ℕ) → List ℕ
  written_after_writes c ns [] ms = ns
  written_after_writes c ns (h ∷ hs) [] =
      written_after_writes (after_write capacity policy c h.operation []) (written_after_write c ns h.operation) hs []
  written_after_writes c ns (h ∷ hs) (moved ∷ ms) = written_after_writes
      (after_write capacity policy c h.operation moved) (written_after_write c ns h.operation) hs ms

-- the list after one step of a run
abbrev pub written_after_choice : List ℕ → Choice → List ℕ
written_after_choice ns (Removes n cause) = without_number n ns
written_after_choice ns (MovesToBack n) = number_to_back n ns
written_after_choice ns (Drops i) = ns

-- the list after the steps
abbrev pub written_after_choices : List ℕ → List Choice → List ℕ
written_after_choices ns [] = ns
written_after_choices ns (x ∷ xs) = written_after_choices (written_after_choice ns x) xs

module _ {K V X P W : Type 0} (s : State K V X P W) (ns : List ℕ) where
  -- the list after the queues of a run
  abbrev pub write_list_before_steps : Freedom → List ℕ
  write_list_before_steps ch = written_after_writes (keeps_write_list s.settings) s.capacity s.settings.policy
      (after_queued_reads s) ns s.writes ch.moves

  -- and after a run by these choices
  abbrev pub write_list_at_end : Freedom → List ℕ
  write_list_at_end ch = written_after_choices (write_list_before_steps ch) ch.steps

-- the record at the front of the write list is not past its time to live, nor written before the invalidation of all
abbrev pub IsAtRestByWrite : {K V : Type 0} → Tests → Records K V → List ℕ → Type 0
IsAtRestByWrite {K} {V} q records write_list = (n : ℕ) (r : Record K V) → slice_get write_list 0 ≡ Some n
    → get records n ≡ Some r → (is_past_write q r ≡ false) × (is_written_before q.invalid_before r ≡ false)

-- it is so after some of the run's steps
abbrev pub ComesToRest : {K V X P W : Type 0} → State K V X P W → List ℕ → Freedom → ℕ → Type 0
ComesToRest s write_list ch now = (first second : List Choice) × (ch.steps ≡ first ++ second)
    × IsAtRestByWrite (tests_of s now) (after_choices (before_steps s ch) first).records
    (written_after_choices (write_list_before_steps s write_list ch) first)
