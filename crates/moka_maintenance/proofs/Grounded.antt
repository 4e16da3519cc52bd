-- Steps by their grounds, and their order.
use Rattle.std.specs.Prelude.{slice_get}
use Rattle.std.proofs.Common.{◌≡◌, refl, ℕ, zero, suc, ◌+◌, ◌≤◌, Bool, true, false, true≢false, not, ◌&&◌, ◌||◌, List, [], ◌∷◌, ◌++◌, length, Option, Some, None, ◌⊎◌, inl, inr, ap, sym, subst, ◌∙◌, arith, append_assoc, append-nil, if◌then◌else◌}
use Rattle.moka_parts.specs.Frequency.{SketchTable}
use Rattle.moka_parts.specs.declared.notification.RemovalCause.{RemovalCause}
use Rattle.moka_parts.specs.declared.notification.RemovalCause.TheVariants.{Expired, Explicit}
use Rattle.moka_records.specs.declared.records.Record.{Record}
use Rattle.moka_parts.specs.declared.records.Registered.{Registered}
use Rattle.moka_parts.specs.State.{Contents}
use Rattle.moka_parts.specs.Order.{IsAtRestByWrite, written_after_choice, written_after_choices}
use Rattle.moka_records.specs.Records.{settled_members}
use Rattle.moka_parts.specs.Visibility.{SomeCovers, is_expired, is_written_before, is_read_before}
use Rattle.moka_parts.specs.Maintenance as parts
use Rattle.moka_parts.specs.Maintenance.{Choice, Removes, MovesToBack, Drops, HasCause, after_choice, after_choices, is_past_read, is_past_write}
use Rattle.moka_parts.specs.Grounds.{Ground, ByTimer, ByWrite, ByRead, ByPredicate, BySurplus, AreTaken, EndsStep, FollowsGrounds, IsInTurn, IsTurnOf, LeavesBy, MayTake, grounds_of, grounds_of_pass, is_batched, is_sweep}
use Rattle.moka_maintenance.specs.declared.sweep.Tests.{Tests}
use Rattle.moka_maintenance.specs.declared.sweep.Sweep.{Sweep}
use Rattle.moka_maintenance.specs.declared.sweep.Sweep.TheVariants.{Written, Read, Surplus}
use Rattle.moka_maintenance.specs.Scan.{MayScan}
use Rattle.moka_maintenance.specs.Steps.{Stock, MayAll, MayRun, after_step, after_steps}
use Rattle.moka_maintenance.specs.Sweep.{IsDone, IsNext, MayExpire, MayTurn, ground_of, tests_in}
use Rattle.moka_maintenance.proofs.Dropping.{choices-append, written-append}
use Rattle.moka_maintenance.proofs.Seen.{choices_sketched}
use Rattle.std.proofs.lemmas.Bool.{and_from, or_left, or_right}
use Rattle.std.proofs.lemmas.Option.{same_Some}

-- ---- the cause that a step tells fits the record

-- a cause is told by two tests of moments: what holds of each cause where its test decides holds of it
pub told_by_tests : (Holds : RemovalCause → Type 0) (past old : Bool) → (past ≡ true → Holds Expired) → (past ≡ false → old ≡ true → Holds Explicit) → (cause : RemovalCause) → (if past then Some Expired else (if old then Some Explicit else None)) ≡ Some cause → Holds cause
told_by_tests Holds true old expired explicit cause e = subst Holds (same_Some Expired cause e) (expired refl)
told_by_tests Holds false true expired explicit cause e = subst Holds (same_Some Explicit cause e) (explicit refl refl)
told_by_tests Holds false false expired explicit cause e = cc

module _ {K V P : Type 0} (q : parts.Tests) (c : Contents K V) (n : ℕ) (r : Record K V) (says : P → K → V → Bool → Type 0) (ps : List (Registered P)) where
  abbrev Fits : RemovalCause → Type 0
  Fits cause = HasCause says q c ps n r cause

  -- it has expired by its own moment or by its last write
  abbrev is_past : Bool
  is_past = is_expired r q.now || is_past_write q r

  cause_fits : (ground : Ground) (cause : RemovalCause) → LeavesBy (SomeCovers says ps) q ground c n r cause → Fits cause
  cause_fits ByTimer cause h = subst Fits (sym h.1) (or_left is_past (is_past_read q r) (or_left (is_expired r q.now) (is_past_write q r) h.0))
  cause_fits ByWrite cause h =
      told_by_tests Fits (is_past_write q r) (is_written_before q.invalid_before r)
      (λ past. or_left is_past (is_past_read q r) (or_right (is_expired r q.now) (is_past_write q r) past))
      (λ fresh old. inl (or_left (is_written_before q.invalid_before r && not (is_past_write q r)) (is_read_before q.invalid_before r && not (is_past_read q r)) (and_from _ _ old (ap not fresh)))) cause h
  cause_fits ByRead cause h =
      told_by_tests Fits (is_past_read q r) (is_read_before q.invalid_before r)
      (λ past. or_right is_past (is_past_read q r) past)
      (λ fresh old. inl (or_right (is_written_before q.invalid_before r && not (is_past_write q r)) (is_read_before q.invalid_before r && not (is_past_read q r)) (and_from _ _ old (ap not fresh)))) cause h.1
  cause_fits ByPredicate cause h = subst Fits (sym h.1) (inr h.0)
  cause_fits BySurplus cause h = subst Fits (sym h.1) h.0

-- ---- what a step may take by one condition, it may by another that covers as much, whatever sketch the contents have

module _ {K V : Type 0} (Covered Other : Record K V → Type 0) (also : (r : Record K V) → Covered r → Other r) (q : parts.Tests) (sketch : Option SketchTable) where
  leaves-also : (ground : Ground) (c : Contents K V) (n : ℕ) (r : Record K V) (cause : RemovalCause) → LeavesBy Covered q ground c n r cause → LeavesBy Other q ground (record c { sketch = sketch }) n r cause
  leaves-also ByTimer c n r cause h = h
  leaves-also ByWrite c n r cause h = h
  leaves-also ByRead c n r cause h = h
  leaves-also ByPredicate c n r cause h = (also r h.0, h.1)
  leaves-also BySurplus c n r cause h = h

  take-also : (ground : Ground) (c : Contents K V) (x : Choice) → MayTake Covered q ground c x → MayTake Other q ground (record c { sketch = sketch }) x
  take-also ground c (Removes n cause) h = (h.0, h.1, h.2, leaves-also ground c n h.0 cause h.3)
  take-also ground c (MovesToBack n) h = h
  take-also ground c (Drops i) h = h

  module _ (ordered : Bool) where
    -- by another write list, if it is the same where one is kept
    turn-also : (ground : Ground) (c : Contents K V) (ms ns : List ℕ) (n : ℕ) → (ordered ≡ true → ms ≡ ns) → IsTurnOf q ordered ground c ms n → IsTurnOf q ordered ground (record c { sketch = sketch }) ns n
    turn-also ByTimer c ms ns n same h = h
    turn-also ByWrite c ms ns n same h = (h.0, subst (λ xs. slice_get xs 0 ≡ Some n) (same h.0) h.1)
    turn-also ByRead c ms ns n same h = h
    turn-also ByPredicate c ms ns n same h = h
    turn-also BySurplus c ms ns n same h = h

    in-turn-also : (ground : Ground) (c : Contents K V) (ms ns : List ℕ) (x : Choice) → (ordered ≡ true → ms ≡ ns) → IsInTurn q ordered ground c ms x → IsInTurn q ordered ground (record c { sketch = sketch }) ns x
    in-turn-also ground c ms ns (Removes n cause) same h = turn-also ground c ms ns n same h
    in-turn-also ground c ms ns (MovesToBack n) same h = turn-also ground c ms ns n same h
    in-turn-also ground c ms ns (Drops i) same h = absurd h

    taken-also : (ground : Ground) (c : Contents K V) (ms ns : List ℕ) (xs : List Choice) → (ordered ≡ true → ms ≡ ns) → AreTaken Covered q ordered ground c ms xs → AreTaken Other q ordered ground (record c { sketch = sketch }) ns xs
    taken-also ground c ms ns [] same h = tt
    taken-also ground c ms ns (Removes n cause ∷ xs) same h = (
      (in-turn-also ground c ms ns (Removes n cause) same h.0.0, take-also ground c (Removes n cause) h.0.1),
      taken-also ground (after_choice c (Removes n cause)) (written_after_choice ms (Removes n cause)) (written_after_choice ns (Removes n cause)) xs (λ kept. ap (λ ys. written_after_choice ys (Removes n cause)) (same kept)) h.1,
    )
    taken-also ground c ms ns (MovesToBack n ∷ xs) same h = (
      (in-turn-also ground c ms ns (MovesToBack n) same h.0.0, h.0.1),
      taken-also ground (after_choice c (MovesToBack n)) (written_after_choice ms (MovesToBack n)) (written_after_choice ns (MovesToBack n)) xs (λ kept. ap (λ ys. written_after_choice ys (MovesToBack n)) (same kept)) h.1,
    )
    taken-also ground c ms ns (Drops i ∷ xs) same h = absurd h.0.0

    module _ (Spared Less : Record K V → Type 0) (less : (r : Record K V) → Spared r → Less r) (OnTime Timely : Type 0) (on_time : Timely → OnTime) where
      ends-also : (ground : Ground) (batch choices : ℕ) (c : Contents K V) (ms ns : List ℕ) → (ordered ≡ true → ms ≡ ns) → EndsStep Spared OnTime ordered q ground batch choices c ms → EndsStep Less Timely ordered q ground batch choices (record c { sketch = sketch }) ns
      ends-also ByTimer batch choices c ms ns same h = λ timely. h (on_time timely)
      ends-also ByWrite batch choices c ms ns same h = λ kept. subst (λ xs. IsAtRestByWrite q c.records xs ⊎ ((settled_members c.records c.access ≡ []) ⊎ (batch ≤ choices))) (same kept) (h kept)
      ends-also ByRead batch choices c ms ns same h = h
      ends-also ByPredicate batch choices c ms ns same h = λ is. (let e = h is in record { passed = e.passed; once = e.once; spared = λ n r there at applied. less r (e.spared n r there at applied); used = e.used })
      ends-also BySurplus batch choices c ms ns same h = h

      pub grounds-also : (batch : ℕ) (grounds : List Ground) (c : Contents K V) (ms ns : List ℕ) (xs : List Choice) → (ordered ≡ true → ms ≡ ns) → FollowsGrounds Covered q Spared OnTime ordered batch grounds c ms xs → FollowsGrounds Other q Less Timely ordered batch grounds (record c { sketch = sketch }) ns xs
      grounds-also batch [] c ms ns xs same h = h
      grounds-also batch (ground ∷ grounds) c ms ns xs same h =
          let after = sym (choices_sketched sketch c h.0) in
          let still : ordered ≡ true → written_after_choices ms h.0 ≡ written_after_choices ns h.0 = λ kept. ap (λ ys. written_after_choices ys h.0) (same kept) in (
            h.0,
            h.1,
            h.2,
            taken-also ground c ms ns h.0 same h.3,
            (h.4.0, subst (λ d. EndsStep Less Timely ordered q ground batch (length h.0) d (written_after_choices ns h.0)) after (ends-also ground batch (length h.0) (after_choices c h.0) (written_after_choices ms h.0) (written_after_choices ns h.0) still h.4.1)),
            subst (λ d. FollowsGrounds Other q Less Timely ordered batch grounds d (written_after_choices ns h.0) h.1) after (grounds-also batch grounds (after_choices c h.0) (written_after_choices ms h.0) (written_after_choices ns h.0) h.1 still h.5),
          )

-- ---- where no write list is kept, none is made of it

none_written : (x : Choice) → written_after_choice [] x ≡ []
none_written (Removes n cause) = refl
none_written (MovesToBack n) = refl
none_written (Drops i) = refl

-- the write list is empty where none is kept
abbrev pub IsKeptWith : {K V : Type 0} → Bool → Stock K V → Type 0
IsKeptWith ordered c = ordered ≡ false → c.written ≡ []

-- so it has a front only where it is kept
has_front : {K V : Type 0} (ordered : Bool) (c : Stock K V) (n : ℕ) → slice_get c.written 0 ≡ Some n → IsKeptWith ordered c → ordered ≡ true
has_front true c n next kept = refl
has_front false c n next kept = absurd (let no : None ≡ Some n = subst (λ ns. slice_get ns 0 ≡ Some n) (kept refl) next in cc)

module _ {K V : Type 0} (ordered : Bool) where
  kept-step : (c : Stock K V) (x : Choice) → IsKeptWith ordered c → IsKeptWith ordered (after_step c x)
  kept-step c x kept none = ap (λ ns. written_after_choice ns x) (kept none) ∙ none_written x

  kept-steps : (c : Stock K V) (xs : List Choice) → IsKeptWith ordered c → IsKeptWith ordered (after_steps c xs)
  kept-steps c [] kept = kept
  kept-steps c (x ∷ xs) kept = kept-steps (after_step c x) xs (kept-step c x kept)

  -- after some steps
  pub kept-on : (a b : Stock K V) (xs : List Choice) → b ≡ after_steps a xs → IsKeptWith ordered a → IsKeptWith ordered b
  kept-on a b xs led kept = subst (λ (c : Stock K V). IsKeptWith ordered c) (sym led) (kept-steps a xs kept)

module _ {K V P : Type 0} (says : P → K → V → Bool → Type 0) (ps : List (Registered P)) where
  -- each step of a pass is one of a run
  pub take_runs : (q : parts.Tests) (ground : Ground) (c : Stock K V) (x : Choice) → MayTake (SomeCovers says ps) q ground c.contents x → MayRun says ps q c x
  take_runs q ground c (Removes n cause) may = (may.0, may.1, may.2, cause_fits q c.contents n may.0 says ps ground cause may.3)
  take_runs q ground c (MovesToBack n) may = (may.1, may.2)
  take_runs q ground c (Drops i) may = absurd may

  sweeps : (sweep : Sweep) → is_sweep (ground_of sweep) ≡ true
  sweeps Written = refl
  sweeps Read = refl
  sweeps Surplus = refl

  -- a choice that the step may make, of what it has come to
  abbrev pub Takes : Tests → Bool → Ground → Stock K V → Choice → Type 0
  Takes q ordered ground c x = (IsKeptWith ordered c → IsInTurn (tests_in q) ordered ground c.contents c.written x) × MayTake (SomeCovers says ps) (tests_in q) ground c.contents x

  next_turn : (q : Tests) (ordered : Bool) (sweep : Sweep) (c : Stock K V) (n : ℕ) → IsNext q sweep c n → IsKeptWith ordered c → IsTurnOf (tests_in q) ordered (ground_of sweep) c.contents c.written n
  next_turn q ordered Written c n next kept = (has_front ordered c n next kept, next)
  next_turn q ordered Read c n next kept = next
  next_turn q ordered Surplus c n next kept = next

  pub turn_takes : (q : Tests) (ordered : Bool) (sweep : Sweep) (c : Stock K V) (x : Choice) → MayTurn q sweep c x → Takes q ordered (ground_of sweep) c x
  turn_takes q ordered sweep c (Removes n cause) may = (next_turn q ordered sweep c n may.0, take-also (λ _. ⊥) (SomeCovers says ps) (λ r none. absurd none) (tests_in q) c.contents.sketch (ground_of sweep) c.contents (Removes n cause) may.1)
  turn_takes q ordered sweep c (MovesToBack n) may = (next_turn q ordered sweep c n may.0, (sweeps sweep, may.1.0, may.1.1))
  turn_takes q ordered sweep c (Drops i) may = absurd may

  pub expiry_takes : (q : Tests) (ordered : Bool) (c : Stock K V) (x : Choice) → MayExpire q c x → Takes q ordered ByTimer c x
  expiry_takes q ordered c (Removes n cause) may = (λ _. tt, take-also (λ _. ⊥) (SomeCovers says ps) (λ r none. absurd none) (tests_in q) c.contents.sketch ByTimer c.contents (Removes n cause) may)
  expiry_takes q ordered c (MovesToBack n) may = absurd (true≢false (sym may.0))
  expiry_takes q ordered c (Drops i) may = absurd may

  pub scan_takes : (q : Tests) (ordered : Bool) (c : Stock K V) (x : Choice) → MayScan says ps c x → Takes q ordered ByPredicate c x
  scan_takes q ordered c (Removes n cause) may = (λ _. tt, (may.0, may.1, may.2, (may.3, may.4)))
  scan_takes q ordered c (MovesToBack n) may = absurd may
  scan_takes q ordered c (Drops i) may = absurd may

-- ---- steps of a stock

module _ {K V : Type 0} (Covered : Record K V → Type 0) (q : parts.Tests) (Spared : Record K V → Type 0) (OnTime : Type 0) (ordered : Bool) where
  all_taken : (May : Stock K V → Choice → Type 0) (ground : Ground) → ((c : Stock K V) (x : Choice) → May c x → (IsKeptWith ordered c → IsInTurn q ordered ground c.contents c.written x) × MayTake Covered q ground c.contents x) → (c : Stock K V) (xs : List Choice) → IsKeptWith ordered c → MayAll May c xs → AreTaken Covered q ordered ground c.contents c.written xs
  all_taken May ground takes c [] kept may = tt
  all_taken May ground takes c (x ∷ xs) kept may = (((takes c x may.0).0 kept, (takes c x may.0).1), all_taken May ground takes (after_step c x) xs (kept-step ordered c x kept) may.1)

  -- those of one ground
  pub grounds-one : (batch : ℕ) (May : Stock K V → Choice → Type 0) (ground : Ground) → ((c : Stock K V) (x : Choice) → May c x → (IsKeptWith ordered c → IsInTurn q ordered ground c.contents c.written x) × MayTake Covered q ground c.contents x) → (c : Stock K V) (xs : List Choice) → IsKeptWith ordered c → MayAll May c xs → (is_batched ground ≡ true → length xs ≤ batch) → EndsStep Spared OnTime ordered q ground batch (length xs) (after_choices c.contents xs) (written_after_choices c.written xs) → FollowsGrounds Covered q Spared OnTime ordered batch (ground ∷ []) c.contents c.written xs
  grounds-one batch May ground takes c xs kept may few ends = (xs, [], sym (append-nil xs), all_taken May ground takes c xs kept may, (few, ends), refl)

  abbrev Follows : ℕ → List Ground → Contents K V → List ℕ → List Choice → Type 0
  Follows batch gs c ns xs = FollowsGrounds Covered q Spared OnTime ordered batch gs c ns xs

  grounds-append : (batch : ℕ) (gs hs : List Ground) (c : Contents K V) (ns : List ℕ) (xs ys : List Choice) → Follows batch gs c ns xs → Follows batch hs (after_choices c xs) (written_after_choices ns xs) ys → Follows batch (gs ++ hs) c ns (xs ++ ys)
  grounds-append batch [] hs c ns xs ys none later =
      subst (λ zs. Follows batch hs c ns (zs ++ ys)) (sym none) (subst (λ zs. Follows batch hs (after_choices c zs) (written_after_choices ns zs) ys) none later)
  grounds-append batch (g ∷ gs) hs c ns xs ys h later = (
    h.0,
    h.1 ++ ys,
    ap (λ zs. zs ++ ys) h.2 ∙ append_assoc h.0 h.1 ys,
    h.3,
    h.4,
    grounds-append batch gs hs (after_choices c h.0) (written_after_choices ns h.0) h.1 ys h.5
        (subst (λ ms. Follows batch hs (after_choices (after_choices c h.0) h.1) ms ys) (ap (written_after_choices ns) h.2 ∙ written-append ns h.0 h.1)
        (subst (λ d. Follows batch hs d (written_after_choices ns xs) ys) (ap (after_choices c) h.2 ∙ choices-append c h.0 h.1) later)),
  )

  -- those of some grounds, and then those of others
  pub grounds-on : (batch : ℕ) (gs hs : List Ground) (a b : Stock K V) (xs ys : List Choice) → b ≡ after_steps a xs → Follows batch gs a.contents a.written xs → Follows batch hs b.contents b.written ys → Follows batch (gs ++ hs) a.contents a.written (xs ++ ys)
  grounds-on batch gs hs a b xs ys led first later = grounds-append batch gs hs a.contents a.written xs ys first (subst (λ (s : Stock K V). Follows batch hs s.contents s.written ys) led later)

-- where a sweep of the passes ended is where the step is to end
module _ {K V : Type 0} (Spared : Record K V → Type 0) (OnTime : Type 0) (ordered : Bool) (q : Tests) where
  abbrev Ends : Sweep → ℕ → ℕ → Stock K V → Type 0
  Ends sweep batch turns c = EndsStep Spared OnTime ordered (tests_in q) (ground_of sweep) batch turns c.contents c.written

  ends_done : (sweep : Sweep) (batch turns : ℕ) (c : Stock K V) → IsDone q sweep batch turns c → Ends sweep batch turns c
  ends_done Written batch turns c (inl stopped) = λ kept. inl stopped.0
  ends_done Written batch turns c (inr spent) = λ kept. inr spent
  ends_done Read batch turns c (inl stopped) = inl stopped.0
  ends_done Read batch turns c (inr spent) = inr spent
  ends_done Surplus batch turns c (inl stopped) = inl stopped.0
  ends_done Surplus batch turns c (inr spent) = inr spent

  pub ends-swept : (sweep : Sweep) (batch : ℕ) (a b : Stock K V) (xs : List Choice) → b ≡ after_steps a xs → IsDone q sweep batch (length xs) b → Ends sweep batch (length xs) (after_steps a xs)
  ends-swept sweep batch a b xs led h = subst (λ c. Ends sweep batch (length xs) c) led (ends_done sweep batch (length xs) b h)

-- one pass more
last_pass : (passes : ℕ) → grounds_of (suc passes) ≡ grounds_of passes ++ grounds_of_pass
last_pass zero = refl
last_pass (suc passes) = ap (λ gs. grounds_of_pass ++ gs) (last_pass passes)

pub grounds-next : (passes : ℕ) → grounds_of (passes + 1) ≡ grounds_of passes ++ grounds_of_pass
grounds-next passes = (let one : passes + 1 ≡ suc passes = omega arith in ap grounds_of one) ∙ last_pass passes
