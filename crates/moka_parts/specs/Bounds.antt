-- What a run costs, in which order it works, and which surplus it removes.
use Rattle.std.specs.Prelude.{◌≡◌, ℕ, Bool, true, false, not, ◌+◌, ◌-◌, ◌*◌, ◌/◌, ◌≤◌, ◌⊎◌, List, [], ◌∷◌, ◌++◌, length, take, Option, Some, if◌then◌else◌}
use Rattle.std.specs.List.{list_all, list_any}
use Rattle.std.specs.FinMap.{get}
use Rattle.moka_records.specs.declared.records.Record.{Record}
use Rattle.moka_records.specs.declared.records.Member.{Member}
use Rattle.moka_records.specs.Records.{is_settled, numbers_of, settled_members, total_weight}
use Rattle.moka_parts.specs.State.{State, Contents, keeps_write_list}
use Rattle.moka_parts.specs.Visibility.{SomeCovers, NoneCovers, has_lapsed}
use Rattle.moka_parts.specs.Candidates.{prefix}
use Rattle.moka_parts.specs.Maintenance.{Choice, Freedom, Removes, MovesToBack, Drops, Terms, Course, is_timed, is_late, is_cut, after_choices, before_steps, at_end, kept_by_choices, tests_of}
use Rattle.moka_parts.specs.Exact.{IsWithin}
use Rattle.moka_parts.specs.Grounds.{AreDrops, FollowsGrounds, IsAtRestByRead, grounds_of}
use Rattle.moka_parts.specs.Order.{write_list_before_steps}
use Rattle.moka_parts.specs.Settling.{IsWhole, IsAllSent, NeverRenewsOnRead}

-- the numbers of the records that the steps remove, in order
abbrev pub removed_by : List Choice → List ℕ
removed_by [] = []
removed_by (Removes n cause ∷ xs) = n ∷ removed_by xs
removed_by (MovesToBack n ∷ xs) = removed_by xs
removed_by (Drops i ∷ xs) = removed_by xs

-- once the queues are applied, weight is the only ground for a removal
pub record IsPlainSurplus {K V X P W : Type 0} (s : State K V X P W) (now capacity : ℕ)
    (c : Contents K V) : Type 0 where
  pub limited : s.capacity ≡ Some capacity
  pub settled : list_all (λ a. is_settled c.records a.number) c.access ≡ true
  pub fresh : (n : ℕ) (r : Record K V) → get c.records n ≡ Some r → has_lapsed s.settings s.invalid_before r now ≡ false
  pub no_predicate : s.predicates ≡ []

-- where the last sweep of a kind ended in a run, after so many choices; unsettled members alone do not end it
pub record EndsSweep {K V X P W : Type 0} (s : State K V X P W) (terms : Terms) (course : Course)
    (IsAtRest : Contents K V → Type 0) (c : Contents K V) (choices : ℕ) : Type 0 where
  -- it came to rest, or no member is settled, or a batch of choices was made
  pub used : IsAtRest c ⊎ ((settled_members c.records c.access ≡ []) ⊎ (terms.batch ≤ choices))
  -- without predicates, a batch for each pass
  pub all_used : s.predicates ≡ [] →
      IsAtRest c ⊎ ((settled_members c.records c.access ≡ []) ⊎ (course.passes * terms.batch ≤ choices))
  -- in a whole run it came to rest, if all was sent or no member is unsettled
  pub rest : IsWhole s terms course →
      IsAllSent s ⊎ (list_any (λ a. not (is_settled c.records a.number)) c.access ≡ false) → IsAtRest c

-- what a run costs, in which order its steps stand, and what it removes, from this write list
pub record IsBounded {K V X P W : Type 0} (says : P → K → V → Bool → Type 0)
    (read : X → K → V → ℕ → Option ℕ → ℕ → Option ℕ) (write_list : List ℕ) (s : State K V X P W) (terms : Terms)
    (ch : Freedom) (course : Course) : Type 0 where
  -- the steps are gone through at least once
  pub made : 1 ≤ course.passes
  -- at most one pass more than the records that the steps remove
  pub passes : course.passes ≤ length (removed_by ch.steps) + 1
  -- each pass of a cut run removed a record
  pub removing : is_cut s.settings terms course ≡ true → course.passes ≤ length (removed_by ch.steps)
  -- one reading per pass, and one more if the run is cut
  pub timed : is_timed s.settings terms ≡ true →
      length course.readings ≡ course.passes + (if is_cut s.settings terms course then 1 else 0)
  pub untimed : is_timed s.settings terms ≡ false → course.readings ≡ []
  -- it ends with the first reading that is late
  pub ends : is_late terms.limit (take (length course.readings - 1) course.readings) ≡ false
  -- the steps of each pass stand in their order, each with its own grounds and causes, each but that of the timers is
  -- made of at most a batch of choices, and each ends as it is to; at last predicates are dropped, and what is spared
  -- is covered by none that is left
  pub in_order : (taken dropped : List Choice) × (ch.steps ≡ taken ++ dropped) × AreDrops dropped
      × FollowsGrounds (SomeCovers says s.predicates) (tests_of s terms.now)
      (NoneCovers says (kept_by_choices s.predicates dropped)) (NeverRenewsOnRead read s) (keeps_write_list s.settings)
      terms.batch (grounds_of course.passes) (before_steps s ch) (write_list_before_steps s write_list ch) taken
  -- without predicates its passes but the last make, together, at least a batch of choices for each of them
  pub full : s.predicates ≡ [] → (course.passes - 1) * terms.batch ≤ length ch.steps
  -- where the sweep by the last read ended, after some of the choices, and that of the surplus, after all
  pub reads_swept : (first second : List Choice) × (ch.steps ≡ first ++ second)
      × EndsSweep s terms course (IsAtRestByRead (tests_of s terms.now)) (after_choices (before_steps s ch) first)
      (length first)
  pub surplus_swept : EndsSweep s terms course (λ c. IsWithin s.capacity c.access) (at_end s ch) (length ch.steps)
  -- if weight is the only ground, a whole run makes no more passes than it needs
  pub needed : (capacity : ℕ) → IsPlainSurplus s terms.now capacity (before_steps s ch) → IsWhole s terms course →
      course.passes ≡ length (removed_by ch.steps) / terms.batch + 1
  -- a whole run removes just enough from the front
  pub surplus : (capacity : ℕ) → IsPlainSurplus s terms.now capacity (before_steps s ch) → IsWhole s terms course →
      (front : List Member) × (prefix (before_steps s ch).access (total_weight (before_steps s ch).access - capacity)
      ≡ Some front) × (removed_by ch.steps ≡ numbers_of front)
  -- one that is cut after its first pass removes a batch from the front
  pub cut_surplus : (capacity : ℕ) → IsPlainSurplus s terms.now capacity (before_steps s ch) →
      is_cut s.settings terms course ≡ true → course.passes ≡ 1 →
      removed_by ch.steps ≡ numbers_of (take terms.batch (before_steps s ch).access)

-- the same from some write list
abbrev pub HasBounds : {K V X P W : Type 0} → (P → K → V → Bool → Type 0) →
    (X → K → V → ℕ → Option ℕ → ℕ → Option ℕ) → State K V X P W → Terms → Freedom → Course → Type 0
HasBounds says read s terms ch course = (write_list : List ℕ) × IsBounded says read write_list s terms ch course
