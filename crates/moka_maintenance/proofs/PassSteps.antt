-- The steps of a pass joined.
use Rattle.std.proofs.Common.{◌≡◌, refl, ℕ, ◌+◌, ◌*◌, ◌<◌, ◌≤◌, ◌⊎◌, Bool, true, false, true≢false, not, ◌&&◌, ◌||◌, List, [], ◌∷◌, ◌++◌, length, Option, Some, None, is_some, inl, inr, ap, sym, subst, ◌∙◌, arith, append_assoc, length-append, nat_lt}
use Rattle.std.proofs.lemmas.Bool.{cases_eq, or_parts, and_parts, or_cases, and_left}
use Rattle.std.proofs.lemmas.List.Folds.{list_all-append}
use Rattle.std.proofs.lemmas.List.{nil_from_length}
use Rattle.std.specs.List.{list_all}
use Rattle.std.specs.Duration.{as_nanos}
use Rattle.std.specs.Option.{option_map}
use Rattle.moka_parts.specs.declared.notification.RemovalCause.{RemovalCause}
use Rattle.moka_records.specs.Time.{deadline, has_passed, is_before, moment_of}
use Rattle.moka_records.specs.declared.instant.Instant.{Instant}
use Rattle.moka_records.specs.declared.records.Record.{Record}
use Rattle.moka_records.specs.Records.{is_applied, is_member}
use Rattle.moka_parts.specs.State.{Contents}
use Rattle.moka_parts.specs.Order.{written_after_choices}
use Rattle.moka_parts.specs.Visibility.{SomeCovers, NoneCovers, is_expired, is_read_before, is_written_before}
use Rattle.moka_parts.specs.Maintenance.{Choice, Removes, MovesToBack, Drops, is_over, is_past_read, is_past_write, after_choices}
use Rattle.moka_parts.specs.Grounds.{EndsScan, ByTimer, ByWrite, ByRead, ByPredicate, BySurplus, FollowsGrounds, grounds_of_pass, Ground, EndsStep, is_batched}
use Rattle.moka_parts.specs.Bounds.{removed_by}
use Rattle.moka_parts.specs.declared.records.Registered.{Registered}
use Rattle.moka_store.specs.Store.{Kept}
use Rattle.std.specs.FinMap.{get}
use Rattle.moka_maintenance.specs.declared.sweep.Tests.{Tests}
use Rattle.moka_maintenance.specs.declared.sweep.Sweep.{Sweep}
use Rattle.moka_maintenance.specs.declared.sweep.Sweep.TheVariants.{Written, Read, Surplus}
use Rattle.moka_maintenance.specs.Scan.{MayScan, AreDropped, IsScanned}
use Rattle.moka_maintenance.specs.Steps.{Stock, MayLeave, MayRun, MayAll, AreAllMembers, HasNoSettled, HasUnsettled, IsStepped, after_step, after_steps, is_timely, makes_room, stock_in}
use Rattle.moka_maintenance.specs.Sweep.{tests_in, ground_of, is_taken, sweeps_reads, sweeps_writes, HasStopped, IsAtRest, IsDone, AreAllTurns, MayTurn, MayExpire, IsSwept, ExpiresDue}
use Rattle.moka_maintenance.specs.Passes.{IsPass, HasSwept}
use Rattle.moka_maintenance.proofs.Fronts.{within-not_over}
use Rattle.moka_maintenance.proofs.Grounded.{Takes, ends-swept, expiry_takes, grounds-on, grounds-one, IsKeptWith, kept-on, scan_takes, take_runs, turn_takes, told_by_tests}
use Rattle.moka_maintenance.proofs.Scanned.{dropped-later, both_more}
use Rattle.moka_maintenance.proofs.Stepped.{may-also, members-steps, none-steps, removed-on, removed-few, run_leaves, stepped-none, stepped-on, stepped-also, shorter, still_there}

-- ---- a step that is not taken

module _ {K V L : Type 0} (tells : L → K → V → RemovalCause → L → Type 0) (q : Tests) where
  pub swept-none : (sweep : Sweep) (batch : ℕ) (c : Stock K V) (l : Option L) → HasStopped q sweep c → IsSwept tells q sweep batch c c l l 0 false
  unfolding stepped-none
  swept-none sweep batch c l stopped = record {
    by = stepped-none tells (MayTurn q sweep) c l;
    few = omega arith;
    turns = inr stopped;
    count = refl;
    full = λ is. absurd (true≢false (sym is));
    more = λ used some. absurd (omega arith);
    rest = λ _. inr stopped.0;
  }

  -- one that is taken with a batch of 0
  pub left-idle : (sweep : Sweep) (batch : ℕ) (a b : Stock K V) (l m : Option L) (removed : ℕ) (left : Bool) → IsSwept tells q sweep batch a b l m removed left → batch ≡ 0 → removed ≡ batch
  left-idle sweep batch a b l m removed left h none = let few = h.few in let less = removed-few h.by.steps in let count = h.count in omega arith

  -- what a sweep comes to
  pub swept-done : (sweep : Sweep) (batch : ℕ) (a b : Stock K V) (l m : Option L) (removed : ℕ) (left : Bool) (h : IsSwept tells q sweep batch a b l m removed left) → IsDone q sweep batch (length h.by.steps) b
  swept-done sweep batch a b l m removed left h = go h.turns
    where
      all : (s a : ℕ) → s + a ≡ batch → a ≡ 0 → batch ≤ s
      all s a e none = omega arith

      go : AreAllTurns q batch (length h.by.steps) b ⊎ HasStopped q sweep b → IsDone q sweep batch (length h.by.steps) b
      go (inr stopped) = inl stopped
      go (inl (rounds, made, inr none)) = inr (inl none)
      go (inl (rounds, made, inl none)) = inr (inr (all (length h.by.steps) (rounds * length b.contents.access) made (ap (λ r. r * length b.contents.access) none ∙ omega arith)))

-- a step that is not taken has nothing to do
no_duration : {D : Type 0} (f : D → ℕ) (o : Option D) (t now : ℕ) → is_some o ≡ false → has_passed (deadline (option_map f o) t) now ≡ false
no_duration f None t now e = refl
no_duration f (Some d) t now e = cc

no_bound : (o : Option Instant) (t : ℕ) → is_some o ≡ false → is_before t (moment_of o) ≡ false
no_bound None t e = refl
no_bound (Some i) t e = cc

three : (a b c : Bool) → (a || b || c) ≡ false → (a ≡ false) × (b ≡ false) × (c ≡ false)
three a b c e = (let both = or_parts (a || b) c e in let first = or_parts a b both.0 in (first.0, first.1, both.1))

at_rest : {K V : Type 0} (q : Tests) (sweep : Sweep) (c : Stock K V) → is_taken q sweep c.contents.access ≡ false → IsAtRest q sweep c
at_rest q Read c e = λ n r front there. (let both = or_parts (is_some q.time_to_idle) (is_some q.valid_after) e in (no_duration as_nanos q.time_to_idle r.read.0 q.now.0 both.0, no_bound q.valid_after r.read.0 both.1))
at_rest q Written c e = λ n r front there. (let both = three (is_some q.time_to_live) (is_some q.time_to_idle) (is_some q.valid_after) e in (no_duration as_nanos q.time_to_live r.written.0 q.now.0 both.0, no_bound q.valid_after r.written.0 both.2))
at_rest q Surplus c e = within-not_over q.capacity c.contents.access e

pub not_taken : {K V : Type 0} (q : Tests) (sweep : Sweep) (c : Stock K V) → is_taken q sweep c.contents.access ≡ false → HasStopped q sweep c
not_taken q sweep c e = (at_rest q sweep c e, λ is. absurd (true≢false (sym is ∙ e)))

-- ---- steps that make no room

-- the sweep looks at moments
abbrev is_by_moment : Sweep → Bool
is_by_moment Written = true
is_by_moment Read = true
is_by_moment Surplus = false

timely_turn : {K V : Type 0} (q : Tests) (sweep : Sweep) → is_by_moment sweep ≡ true → (c : Stock K V) (x : Choice) → MayTurn q sweep c x → makes_room x ≡ false
timely_turn q Written timely c (Removes n cause) may = told_by_tests (λ k. not (is_timely k) ≡ false) (is_past_write (tests_in q) may.1.0) (is_written_before q.valid_after may.1.0) (λ _. refl) (λ _ _. refl) cause may.1.3
timely_turn q Read timely c (Removes n cause) may = told_by_tests (λ k. not (is_timely k) ≡ false) (is_past_read (tests_in q) may.1.0) (is_read_before q.valid_after may.1.0) (λ _. refl) (λ _ _. refl) cause may.1.3.1
timely_turn q Surplus timely c (Removes n cause) may = absurd (true≢false (sym timely))
timely_turn q sweep timely c (MovesToBack n) may = refl
timely_turn q sweep timely c (Drops i) may = refl

timely_expiry : {K V : Type 0} (q : Tests) (c : Stock K V) (x : Choice) → MayExpire q c x → makes_room x ≡ false
timely_expiry q c (Removes n cause) may = ap (λ k. not (is_timely k)) may.3.1
timely_expiry q c (MovesToBack n) may = refl
timely_expiry q c (Drops i) may = refl

timely_scan : {K V P : Type 0} (says : P → K → V → Bool → Type 0) (ps : List (Registered P)) (c : Stock K V) (x : Choice) → MayScan says ps c x → makes_room x ≡ false
timely_scan says ps c (Removes n cause) may = ap (λ k. not (is_timely k)) may.4
timely_scan says ps c (MovesToBack n) may = refl
timely_scan says ps c (Drops i) may = refl

module _ {K V : Type 0} (May : Stock K V → Choice → Type 0) where
  -- where no step may make room, all of them do only if there is none
  none_makes_room : ((c : Stock K V) (x : Choice) → May c x → makes_room x ≡ false) → (c : Stock K V) (xs : List Choice) → MayAll May c xs → list_all makes_room xs ≡ true → xs ≡ []
  none_makes_room timely c [] may all = refl
  none_makes_room timely c (x ∷ xs) may all = absurd (true≢false (sym all ∙ ap (λ b. b && list_all makes_room xs) (timely c x may.0)))

  -- as many records leave as there are removals
  all_removals : ((c : Stock K V) (n : ℕ) → May c (MovesToBack n) → ⊥) → ((c : Stock K V) (i : ℕ) → May c (Drops i) → ⊥) → (c : Stock K V) (xs : List Choice) → MayAll May c xs → length xs ≡ length (removed_by xs)
  all_removals moves drops c [] may = refl
  all_removals moves drops c (Removes n cause ∷ xs) may = let rest = all_removals moves drops (after_step c (Removes n cause)) xs may.1 in omega arith
  all_removals moves drops c (MovesToBack n ∷ xs) may = absurd (moves c n may.0)
  all_removals moves drops c (Drops i ∷ xs) may = absurd (drops c i may.0)

pub both_make_room : (xs ys : List Choice) → list_all makes_room (xs ++ ys) ≡ true → (list_all makes_room xs ≡ true) × (list_all makes_room ys ≡ true)
both_make_room xs ys all = and_parts (list_all makes_room xs) (list_all makes_room ys) (sym (list_all-append makes_room xs ys) ∙ all)

-- ---- a step of a pass, and steps one after the other

-- no settled member is left whose own expiry has come, where timers are on time
abbrev pub NoneLasts : {K V : Type 0} → Type 0 → Tests → Contents K V → Type 0
NoneLasts {K} {V} OnTime q c = OnTime → (n : ℕ) (r : Record K V) → get c.records n ≡ Some r → is_member n c.access ≡ true → is_applied r ≡ true → is_expired r q.now.0 ≡ false

-- steps on these grounds, which make no room: of at most so many turns beside timers, and where more is left a batch was
-- removed
pub record IsStage {K V L P : Type 0} (tells : L → K → V → RemovalCause → L → Type 0) (says : P → K → V → Bool → Type 0) (ps : List (Registered P)) (q : Tests) (batch : ℕ) (ordered : Bool) (OnTime : Type 0) (grounds : List Ground) (turns : ℕ) (a b : Stock K V) (l m : Option L) (removed : ℕ) (left : Bool) : Type 0 where
  pub by : IsStepped tells (MayRun says ps (tests_in q)) a b l m
  pub in_order : FollowsGrounds (SomeCovers says ps) (tests_in q) (NoneCovers says ps) OnTime ordered batch grounds a.contents a.written by.steps
  pub count : removed ≡ length (removed_by by.steps)
  pub many : length by.steps + length b.contents.access ≤ turns + length a.contents.access
  pub full : left ≡ true → batch ≤ removed
  pub none : list_all makes_room by.steps ≡ true → by.steps ≡ []

module _ {K V L P : Type 0} (tells : L → K → V → RemovalCause → L → Type 0) (says : P → K → V → Bool → Type 0) (ps : List (Registered P)) (q : Tests) (batch : ℕ) (ordered : Bool) (OnTime : Type 0) where
  module _ (May : Stock K V → Choice → Type 0) (ground : Ground) (takes : (c : Stock K V) (x : Choice) → May c x → Takes says ps q ordered ground c x) where
    runs : (c : Stock K V) (x : Choice) → May c x → MayRun says ps (tests_in q) c x
    runs c x may = take_runs says ps (tests_in q) ground c x (takes c x may).1

    stage_shorter : (a b : Stock K V) (l m : Option L) (h : IsStepped tells May a b l m) → length b.contents.access + length (removed_by h.steps) ≤ length a.contents.access
    stage_shorter = shorter tells May (λ c x may. run_leaves (tests_in q) says ps c x (runs c x may))

    module _ (timely : (c : Stock K V) (x : Choice) → May c x → makes_room x ≡ false) (a b : Stock K V) (kept : IsKeptWith ordered a) (l m : Option L) (h : IsStepped tells May a b l m) (few : is_batched ground ≡ true → length h.steps ≤ batch) (ends : EndsStep (NoneCovers says ps) OnTime ordered (tests_in q) ground batch (length h.steps) (after_choices a.contents h.steps) (written_after_choices a.written h.steps)) where
      -- of one ground
      stage-one : (removed turns : ℕ) (left : Bool) → removed ≡ length (removed_by h.steps) → length h.steps + length b.contents.access ≤ turns + length a.contents.access → (left ≡ true → batch ≤ removed) → IsStage tells says ps q batch ordered OnTime (ground ∷ []) turns a b l m removed left
      unfolding stepped-also
      stage-one removed turns left count many full = record {
        by = stepped-also tells May (MayRun says ps (tests_in q)) runs a b l m h;
        in_order = grounds-one (SomeCovers says ps) (tests_in q) (NoneCovers says ps) OnTime ordered batch May ground takes a h.steps kept h.may few ends;
        count = count;
        many = many;
        full = full;
        none = none_makes_room May timely a h.steps h.may;
      }

      -- of removals alone
      stage-removals : ((c : Stock K V) (n : ℕ) → May c (MovesToBack n) → ⊥) → ((c : Stock K V) (i : ℕ) → May c (Drops i) → ⊥) → IsStage tells says ps q batch ordered OnTime (ground ∷ []) 0 a b l m (length (removed_by h.steps)) false
      stage-removals moves drops =
          stage-one (length (removed_by h.steps)) 0 false refl (let less = stage_shorter a b l m h in let all = all_removals May moves drops a h.steps h.may in omega arith)
          (λ is. absurd (true≢false (sym is)))

  -- by timers
  stage-due : (a b : Stock K V) → IsKeptWith ordered a → (l m : Option L) (removed : ℕ) → ExpiresDue tells q a b l m removed → NoneLasts OnTime q b.contents → IsStage tells says ps q batch ordered OnTime (ByTimer ∷ []) 0 a b l m removed false
  stage-due a b kept l m removed h none =
      subst (λ n. IsStage tells says ps q batch ordered OnTime (ByTimer ∷ []) 0 a b l m n false) (sym h.count)
      (stage-removals (MayExpire q) ByTimer (expiry_takes says ps q ordered) (timely_expiry q) a b kept l m h.by (λ e. absurd (true≢false (sym e))) (subst (λ (s : Stock K V). NoneLasts OnTime q s.contents) h.by.led none) (λ c n may. true≢false (sym may.0)) (λ c i none. none))

  -- of the scan
  stage-scanned : (a b : Stock K V) → IsKeptWith ordered a → (l m : Option L) (h : IsStepped tells (MayScan says ps) a b l m) → length h.steps ≤ batch → (ordered ≡ true → EndsScan (NoneCovers says ps) batch (length h.steps) b.contents) → IsStage tells says ps q batch ordered OnTime (ByPredicate ∷ []) 0 a b l m (length (removed_by h.steps)) false
  stage-scanned a b kept l m h few ends =
      stage-removals (MayScan says ps) ByPredicate (scan_takes says ps q ordered) (timely_scan says ps) a b kept l m h (λ _. few)
      (λ is. subst (λ (c : Stock K V). EndsScan (NoneCovers says ps) batch (length h.steps) c.contents) h.led (ends is)) (λ c n none. none) (λ c i none. none)

  -- of a sweep by moments
  stage-swept : (sweep : Sweep) → is_by_moment sweep ≡ true → (a b : Stock K V) → IsKeptWith ordered a → (l m : Option L) (removed : ℕ) (left : Bool) → IsSwept tells q sweep batch a b l m removed left → IsStage tells says ps q batch ordered OnTime (ground_of sweep ∷ []) batch a b l m removed left
  stage-swept sweep timely a b kept l m removed left h =
      stage-one (MayTurn q sweep) (ground_of sweep) (turn_takes says ps q ordered sweep) (timely_turn q sweep timely) a b kept l m h.by (λ _. h.few) (ends-swept (NoneCovers says ps) OnTime ordered q sweep batch a b h.by.steps h.by.led (swept-done tells q sweep batch a b l m removed left h)) removed batch left h.count
      (let less = stage_shorter (MayTurn q sweep) (ground_of sweep) (turn_takes says ps q ordered sweep) a b l m h.by in let few = h.few in omega arith)
      (λ is. (let used = h.full is in omega arith))

  -- some, and then others
  stage-on : (gs hs : List Ground) (j k : ℕ) (a b c : Stock K V) (l m n : Option L) (r s : ℕ) (x y : Bool) → IsStage tells says ps q batch ordered OnTime gs j a b l m r x → IsStage tells says ps q batch ordered OnTime hs k b c m n s y → IsStage tells says ps q batch ordered OnTime (gs ++ hs) (j + k) a c l n (r + s) (x || y)
  unfolding stepped-on
  stage-on gs hs j k a b c l m n r s x y first second = record {
    by = stepped-on tells (MayRun says ps (tests_in q)) a b c l m n first.by second.by;
    in_order = grounds-on (SomeCovers says ps) (tests_in q) (NoneCovers says ps) OnTime ordered batch gs hs a b first.by.steps second.by.steps first.by.led first.in_order second.in_order;
    count = (let e = first.count in let f = second.count in let both = removed-on first.by.steps second.by.steps in omega arith);
    many = (let few = first.many in let fewer = second.many in let both = length-append first.by.steps second.by.steps in omega arith);
    full = λ is. elim (or_cases x y is) [ inl e ↦ (let used = first.full e in omega arith) | inr e ↦ (let used = second.full e in omega arith) ];
    none = λ all.
        (let rooms = both_make_room first.by.steps second.by.steps all in
        ap (λ zs. zs ++ second.by.steps) (first.none rooms.0) ∙ second.none rooms.1);
  }

-- ---- a pass

-- done after more turns
pub still_done : {K V : Type 0} (q : Tests) (sweep : Sweep) (batch some more : ℕ) (c : Stock K V) → some ≤ more → IsDone q sweep batch some c → IsDone q sweep batch more c
still_done q sweep batch some more c le (inl rest) = inl rest
still_done q sweep batch some more c le (inr (inl none)) = inr (inl none)
still_done q sweep batch some more c le (inr (inr all)) = inr (inr (omega arith))

idle_sweeps : (live idle invalid over : Bool) → ((live || idle || invalid) || (idle || invalid)) || over ≡ (live || idle || invalid) || over
idle_sweeps true idle invalid over = refl
idle_sweeps false true invalid over = refl
idle_sweeps false false true over = refl
idle_sweeps false false false over = refl

module _ {K V L P S : Type 0} (tells : L → K → V → RemovalCause → L → Type 0) (says : P → K → V → Bool → Type 0) (ps qs : List (Registered P)) (q : Tests) (batch : ℕ) (a b c : Stock K V) (d0 d1 : Kept K V S) (e : Stock K V) (l m n o u p : Option L) (due wrote read room : ℕ) (x y z scan : Bool) (OnTime : Type 0) (kept : IsKeptWith d0.ordered a)
    (by_timers : ExpiresDue tells q a b l m due) (none_lasts : NoneLasts OnTime q b.contents) (by_write : IsSwept tells q Written batch b c m n wrote x) (by_read : IsSwept tells q Read batch c (stock_in d0) n o read y) (by_scan : IsScanned tells says ps batch d0 d1 qs o u scan) (surplus : IsSwept tells q Surplus batch (stock_in d1) e u p room z) where
  abbrev d : Stock K V
  d = stock_in d0

  abbrev f : Stock K V
  f = stock_in d1

  abbrev gone : ℕ
  gone = length (removed_by by_scan.by.steps)

  scan_few : length by_scan.by.steps ≤ batch
  scan_few = let few = by_scan.few in let most = by_scan.goes.most in omega arith

  -- at each step the write list is as empty as before, where none is kept
  kept-b : IsKeptWith d0.ordered b
  kept-b = kept-on d0.ordered a b by_timers.by.steps by_timers.by.led kept

  kept-c : IsKeptWith d0.ordered c
  kept-c = kept-on d0.ordered b c by_write.by.steps by_write.by.led kept-b

  kept-d : IsKeptWith d0.ordered d
  kept-d = kept-on d0.ordered c d by_read.by.steps by_read.by.led kept-c

  kept-f : IsKeptWith d0.ordered f
  kept-f = kept-on d0.ordered d f by_scan.by.steps by_scan.by.led kept-d

  first : IsStage tells says ps q batch d0.ordered OnTime (ByTimer ∷ ByWrite ∷ []) (0 + batch) a c l n (due + wrote) (false || x)
  first = stage-on tells says ps q batch d0.ordered OnTime (ByTimer ∷ []) (ByWrite ∷ []) 0 batch a b c l m n due wrote false x (stage-due tells says ps q batch d0.ordered OnTime a b kept l m due by_timers none_lasts) (stage-swept tells says ps q batch d0.ordered OnTime Written refl b c kept-b m n wrote x by_write)

  moments : IsStage tells says ps q batch d0.ordered OnTime (ByTimer ∷ ByWrite ∷ ByRead ∷ []) (0 + batch + batch) a d l o (due + wrote + read) (x || y)
  moments = stage-on tells says ps q batch d0.ordered OnTime (ByTimer ∷ ByWrite ∷ []) (ByRead ∷ []) (0 + batch) batch a c d l n o (due + wrote) read x y first (stage-swept tells says ps q batch d0.ordered OnTime Read refl c d kept-c n o read y by_read)

  -- with the scan
  scanned : IsStage tells says ps q batch d0.ordered OnTime (ByTimer ∷ ByWrite ∷ ByRead ∷ ByPredicate ∷ []) (0 + batch + batch + 0) a f l u (due + wrote + read + gone) ((x || y) || false)
  scanned = stage-on tells says ps q batch d0.ordered OnTime (ByTimer ∷ ByWrite ∷ ByRead ∷ []) (ByPredicate ∷ []) (0 + batch + batch) 0 a d f l o u (due + wrote + read) gone (x || y) false moments (stage-scanned tells says ps q batch d0.ordered OnTime d f kept-d o u by_scan.by scan_few by_scan.ends)

  last : IsStepped tells (MayRun says ps (tests_in q)) f e u p
  last = stepped-also tells (MayTurn q Surplus) (MayRun says ps (tests_in q)) (λ c x may. take_runs says ps (tests_in q) BySurplus c x (turn_takes says ps q d0.ordered Surplus c x may).1) f e u p surplus.by

  -- all of them
  abbrev all_steps : List Choice
  all_steps = scanned.by.steps ++ last.steps

  ordered : FollowsGrounds (SomeCovers says ps) (tests_in q) (NoneCovers says ps) OnTime d0.ordered batch grounds_of_pass a.contents a.written all_steps
  unfolding last stepped-also
  ordered =
      grounds-on (SomeCovers says ps) (tests_in q) (NoneCovers says ps) OnTime d0.ordered batch (ByTimer ∷ ByWrite ∷ ByRead ∷ ByPredicate ∷ []) (BySurplus ∷ []) a f scanned.by.steps surplus.by.steps scanned.by.led scanned.in_order
      (grounds-one (SomeCovers says ps) (tests_in q) (NoneCovers says ps) OnTime d0.ordered batch (MayTurn q Surplus) BySurplus (turn_takes says ps q d0.ordered Surplus) f surplus.by.steps kept-f surplus.by.may (λ _. surplus.few) (ends-swept (NoneCovers says ps) OnTime d0.ordered q Surplus batch f e surplus.by.steps surplus.by.led (swept-done tells q Surplus batch f e u p room z surplus)))

  -- where more is left, a sweep removed a batch
  some : (x || y || z) ≡ true → 1 ≤ batch → 1 ≤ due + wrote + read + room
  some is more = elim (or_cases (x || y) z is) [ inl e ↦ (let used = moments.full e in omega arith) | inr e ↦ (let used = surplus.full e in omega arith) ]

  -- where all its steps make room, only the last made any
  room_alone : list_all makes_room all_steps ≡ true → due + wrote + read ≡ 0
  room_alone all =
      let none = scanned.none (both_make_room scanned.by.steps last.steps all).0 in
      let nothing : due + wrote + read + gone ≡ 0 = scanned.count ∙ ap (λ xs. length (removed_by xs)) none in
      omega arith

  only_last : (x || y || z) ≡ true → 1 ≤ due + wrote + read + room → list_all makes_room all_steps ≡ true → due + wrote + read + room ≡ batch
  only_last is removed all =
      let nothing = room_alone all in
      elim (or_cases (x || y) z is) [
        | inl e ↦ (let used = moments.full e in let few = surplus.few in let less = removed-few surplus.by.steps in let count = surplus.count in omega arith)
        | inr e ↦ (let used = surplus.full e in omega arith)
      ]

  -- and that made less than a batch where it left nothing
  less : (x || y || z) ≡ false → 1 ≤ batch → list_all makes_room all_steps ≡ true → due + wrote + read + room < batch
  less is batch_made all =
      let nothing = room_alone all in
      let few = surplus.few in
      let fewer = removed-few surplus.by.steps in
      let count = surplus.count in
      elim (cases_eq room batch) as (λ _. due + wrote + read + room < batch) [
        | inl used ↦ absurd (true≢false (sym (surplus.more used batch_made) ∙ (three x y z is).2))
        | inr other ↦ omega arith
      ]

  scanned_are : scanned.by.steps ≡ moments.by.steps ++ by_scan.by.steps
  unfolding scanned stage-on stage-scanned stage-removals stage-one stepped-on stepped-also
  scanned_are = refl

  many_steps : length all_steps ≡ length moments.by.steps + length by_scan.by.steps + length surplus.by.steps
  unfolding last stepped-also
  many_steps = let both = length-append scanned.by.steps last.steps in let some = ap length scanned_are ∙ length-append moments.by.steps by_scan.by.steps in omega arith

  -- each of a batch of turns was made
  used_up : (x || y || z) ≡ true → batch ≤ length all_steps
  used_up is =
      let all = many_steps in
      elim (or_cases (x || y) z is) [
        | inl e ↦ (let used = moments.full e in let less = removed-few moments.by.steps in let count = moments.count in omega arith)
        | inr e ↦ (let used = surplus.full e in let less = removed-few surplus.by.steps in let count = surplus.count in omega arith)
      ]

  wrote_steps : length by_write.by.steps ≤ length first.by.steps
  unfolding first stage-on stage-swept stage-one stepped-on stepped-also
  wrote_steps =
      let timers = stage-due tells says ps q batch d0.ordered OnTime a b kept l m due by_timers none_lasts in
      let both : length first.by.steps ≡ length timers.by.steps + length by_write.by.steps = length-append timers.by.steps by_write.by.steps in
      omega arith

  moments_are : moments.by.steps ≡ first.by.steps ++ by_read.by.steps
  unfolding moments stage-on stage-swept stage-one stepped-on stepped-also
  moments_are = refl

  read_steps : length by_read.by.steps ≤ length moments.by.steps
  read_steps = let both = ap length moments_are ∙ length-append first.by.steps by_read.by.steps in omega arith

  writes_swept : HasSwept q Written batch a all_steps ((x || y || z) ≡ false)
  writes_swept = record {
    first = first.by.steps;
    second = by_read.by.steps ++ (by_scan.by.steps ++ last.steps);
    split = ap (λ zs. zs ++ last.steps) (scanned_are ∙ ap (λ zs. zs ++ by_scan.by.steps) moments_are) ∙ append_assoc (first.by.steps ++ by_read.by.steps) by_scan.by.steps last.steps ∙ append_assoc first.by.steps by_read.by.steps (by_scan.by.steps ++ last.steps);
    done = subst (λ s. IsDone q Written batch (length first.by.steps) s) first.by.led (still_done q Written batch (length by_write.by.steps) (length first.by.steps) c wrote_steps (swept-done tells q Written batch b c m n wrote x by_write));
    rest = λ is. subst (λ s. HasUnsettled s ⊎ IsAtRest q Written s) first.by.led (by_write.rest (three x y z is).0);
  }

  reads_swept : HasSwept q Read batch a all_steps ((x || y || z) ≡ false)
  reads_swept = record {
    first = moments.by.steps;
    second = by_scan.by.steps ++ last.steps;
    split = ap (λ zs. zs ++ last.steps) scanned_are ∙ append_assoc moments.by.steps by_scan.by.steps last.steps;
    done = subst (λ s. IsDone q Read batch (length moments.by.steps) s) moments.by.led (still_done q Read batch (length by_read.by.steps) (length moments.by.steps) d read_steps (swept-done tells q Read batch c d n o read y by_read));
    rest = λ is. subst (λ s. HasUnsettled s ⊎ IsAtRest q Read s) moments.by.led (by_read.rest (three x y z is).1);
  }

  used_last : IsDone q Surplus batch (length all_steps) e
  used_last = still_done q Surplus batch (length surplus.by.steps) (length all_steps) e (let all = many_steps in omega arith) (swept-done tells q Surplus batch f e u p room z surplus)

  many_turns : length all_steps + length e.contents.access ≤ batch + batch + batch + length a.contents.access
  unfolding last stepped-also
  many_turns =
      let few = scanned.many in
      let fewer = surplus.few in
      let members = stage_shorter tells says ps q batch d0.ordered OnTime (MayTurn q Surplus) BySurplus (turn_takes says ps q d0.ordered Surplus) f e u p surplus.by in
      let both : length all_steps ≡ length scanned.by.steps + length surplus.by.steps = length-append scanned.by.steps last.steps in
      omega arith

  unmoved : batch ≡ 0 → f.contents.access ≡ e.contents.access
  unmoved none = ap (λ (s : Stock K V). s.contents.access) (sym (surplus.by.led ∙ ap (after_steps f) (nil_from_length surplus.by.steps (let few = surplus.few in omega arith))))

  counts : due + wrote + read + room ≤ length (removed_by all_steps)
  unfolding last stepped-also
  counts = let k = scanned.count in let g : room ≡ length (removed_by last.steps) = surplus.count in let both = removed-on scanned.by.steps last.steps in omega arith

  counts_all : list_all makes_room all_steps ≡ true → due + wrote + read + room ≡ length (removed_by all_steps)
  unfolding last stepped-also
  counts_all all =
      let none = scanned.none (both_make_room scanned.by.steps last.steps all).0 in
      let nothing : due + wrote + read + gone ≡ 0 = scanned.count ∙ ap (λ xs. length (removed_by xs)) none in
      let k = scanned.count in let g : room ≡ length (removed_by last.steps) = surplus.count in let both = removed-on scanned.by.steps last.steps in omega arith

  -- what the scan left is left after the surplus
  settled_none : HasNoSettled f → HasNoSettled e
  settled_none none = subst HasNoSettled (sym last.led) (none-steps f last.steps (may-also (MayRun says ps (tests_in q)) MayLeave (run_leaves (tests_in q) says ps) f last.steps last.may) none)

  unfinished_after : d0.ordered ≡ true → 1 ≤ batch → 0 < length qs → (scan ≡ true) ⊎ HasNoSettled e
  unfinished_after ordered some there = elim (by_scan.unfinished ordered some there) [ inl is ↦ inl is | inr none ↦ inr (settled_none none) ]

  gone_predicates : d0.ordered ≡ true → length a.contents.access ≤ batch → AreAllMembers a → qs ≡ []
  gone_predicates ordered large all =
      let less = shorter tells (MayRun says ps (tests_in q)) (run_leaves (tests_in q) says ps) a d l o moments.by in
      by_scan.whole ordered (omega arith) (subst AreAllMembers (sym moments.by.led) (members-steps a moments.by.steps all))

  dropped_after : AreDropped says e.contents ps qs
  dropped_after = dropped-later says f.contents e.contents (λ n r at. still_there f last.steps n r (sym (ap (λ (s : Stock K V). get s.contents.records n) last.led) ∙ at)) ps qs by_scan.dropped

  pub pass-five : (batch ≡ 0 → x ≡ is_taken q Written b.contents.access) → (batch ≡ 0 → y ≡ is_taken q Read c.contents.access) → (batch ≡ 0 → z ≡ is_taken q Surplus f.contents.access) → IsPass tells says q batch d0.ordered OnTime ps qs a e l p (due + wrote + read + room) (x || y || z) scan
  unfolding last stepped-on stepped-also
  pass-five wrote_due read_due over = record {
    by = stepped-on tells (MayRun says ps (tests_in q)) a f e l u p scanned.by last;
    dropped = dropped_after;
    in_order = ordered;
    count = counts;
    more = some;
    many = many_turns;
    counted = counts_all;
    fewer = less;
    batch_used = only_last;
    rest = λ is. surplus.rest (three x y z is).2;
    turned = used_up;
    used = used_last;
    writes_swept = writes_swept;
    reads_swept = reads_swept;
    idle = λ none.
        ap (λ t. t || y || z) (wrote_due none) ∙ ap (λ t. sweeps_writes q || t || z) (read_due none) ∙ ap (λ t. sweeps_writes q || sweeps_reads q || t) (over none ∙ ap (is_over q.capacity) (unmoved none))
        ∙ idle_sweeps (is_some q.time_to_live) (is_some q.time_to_idle) (is_some q.valid_after) (is_over q.capacity e.contents.access);
    unregistered = λ none. (by_scan.unregistered none).1;
    scan_idle = λ none. by_scan.leaves ∙ and_left (nat_lt 0 by_scan.looked) (nat_lt 0 (length qs)) (let most = by_scan.goes.most in grind (arith, most, none));
    scan_more = λ is. (both_more by_scan.looked (length qs) (sym by_scan.leaves ∙ is)).1;
    unfinished = unfinished_after;
    predicates = gone_predicates;
  }
