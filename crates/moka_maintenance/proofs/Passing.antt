-- Passes one after the other, and the clock between them.
use Rattle.std.proofs.Common.{◌≡◌, refl, ℕ, ◌+◌, ◌-◌, ◌*◌, ◌/◌, ◌≤◌, ◌⊎◌, Bool, true, false, true≢false, nat_lt, ◌&&◌, ◌||◌, List, [], ◌++◌, Contains, length, Option, inl, inr, ap, sym, subst, ◌∙◌, arith, append_assoc, if◌then◌else◌, length-append, nat_le, ◌∷◌, take, slice_get, Some, None, is_some}
use Rattle.std.proofs.Math.Bool.{or-false}
use Rattle.std.proofs.Math.Seq.{take-append_seam}
use Rattle.std.proofs.lemmas.Nat.{div-mul-add}
use Rattle.std.proofs.lemmas.Bool.{false_from_ne_true, or_left, or_right}
use Rattle.std.proofs.lemmas.List.Folds.{list_any-append}
use Rattle.std.specs.FinMap.{get}
use Rattle.std.specs.List.{list_all, list_any}
use Rattle.moka_parts.specs.declared.records.Registered.{Registered}
use Rattle.moka_parts.specs.declared.notification.RemovalCause.{RemovalCause}
use Rattle.moka_records.specs.declared.instant.Instant.{Instant}
use Rattle.moka_parts.specs.Maintenance.{is_late}
use Rattle.moka_records.specs.declared.records.Record.{Record}
use Rattle.moka_parts.specs.Visibility.{SomeCovers, NoneCovers}
use Rattle.moka_parts.specs.Bounds.{removed_by}
use Rattle.moka_parts.specs.Grounds.{FollowsGrounds, grounds_of, grounds_of_pass}
use Rattle.moka_parts.specs.Surroundings.{Leads}
use Rattle.moka_parts.proofs.RunsGoOn.{Leads-append}
use Rattle.moka_maintenance.specs.declared.sweep.Tests.{Tests}
use Rattle.moka_maintenance.specs.Scan.{AreDropped}
use Rattle.moka_maintenance.specs.Steps.{Stock, MayRun, AreAllMembers, HasUnsettled, IsStepped, after_steps, makes_room}
use Rattle.moka_maintenance.specs.declared.sweep.Sweep.{Sweep}
use Rattle.moka_maintenance.specs.declared.sweep.Sweep.TheVariants.{Written, Read, Surplus}
use Rattle.moka_maintenance.specs.Sweep.{tests_in, IsAtRest, IsDone}
use Rattle.moka_maintenance.specs.Passes.{IsPass, IsRan, HasSwept, Starts, Checks}
use Rattle.moka_maintenance.proofs.Grounded.{grounds-also, grounds-next, grounds-on}
use Rattle.moka_maintenance.proofs.Scanned.{covers_fewer, covers_none, dropped-later, dropped-none, dropped-on, kept_there, nothing_kept}
use Rattle.moka_maintenance.proofs.Stepped.{fewer_run, members-steps, steps-append, removed-on, run_leaves, stepped-also, stepped-none, stepped-on, shorter, still_there}
use Rattle.moka_maintenance.proofs.PassSteps.{both_make_room, still_done}

-- ---- the clock between passes

-- the readings at the start and at so many checks, of which the last alone may be late
pub record Clocked {C : Type 0} (reads : C → Instant → C → Type 0) (limit : Option ℕ) (started : Option Instant) (c d : C) (checks : ℕ) (late : Bool) : Type 0 where
  pub readings : List Instant
  pub read : Leads reads c readings d
  pub timed : is_some limit ≡ true → length readings ≡ checks + 1
  pub untimed : is_some limit ≡ false → readings ≡ []
  pub lateness : is_late limit readings ≡ late
  pub ends : is_late limit (take (length readings - 1) readings) ≡ false
  pub first : started ≡ slice_get readings 0

pub clocked-start : {C : Type 0} (reads : C → Instant → C → Type 0) (limit : Option ℕ) (started : Option Instant) (c d : C) → Starts reads limit c started d → Clocked reads limit started c d 0 false
clocked-start reads None started c d h = record { readings = []; read = h.1; timed = λ is. absurd (true≢false (sym is)); untimed = λ _. refl; lateness = refl; ends = refl; first = h.0 }
clocked-start reads (Some limit) started c d h = record { readings = h.0 ∷ []; read = (d, h.2, refl); timed = λ _. omega arith; untimed = λ is. absurd (true≢false is); lateness = refl; ends = refl; first = h.1 }

any-push : (f : Instant → Bool) (xs : List Instant) (x : Instant) → list_any f (xs ++ x ∷ []) ≡ (list_any f xs || f x)
any-push f xs x = list_any-append f xs (x ∷ []) ∙ ap (λ b. list_any f xs || b) (or-false (f x))

-- all but the last of these
but_last : (xs : List Instant) (x : Instant) → take (length (xs ++ x ∷ []) - 1) (xs ++ x ∷ []) ≡ xs
but_last xs x =
    let plus = length-append xs (x ∷ []) in
    let count : length (xs ++ x ∷ []) - 1 ≡ length xs = omega arith in
    ap (λ n. take n (xs ++ x ∷ [])) count ∙ take-append_seam xs (x ∷ [])

-- one more check
pub clocked-check : {C : Type 0} (reads : C → Instant → C → Type 0) (limit : Option ℕ) (started : Option Instant) (c d e : C) (checks : ℕ) (late : Bool) → Clocked reads limit started c d checks false → Checks reads started limit d late e → Clocked reads limit started c e (checks + 1) late
clocked-check reads None started c d e checks late h k =
    let same = unlimited started k in
    record { readings = h.readings; read = subst (λ x. Leads reads c h.readings x) (sym same.1) h.read; timed = λ is. absurd (true≢false (sym is)); untimed = h.untimed; lateness = sym same.0; ends = refl; first = h.first }
  where
    unlimited : (s : Option Instant) → Checks reads s None d late e → (late ≡ false) × (e ≡ d)
    unlimited None k = k
    unlimited (Some s) k = k
clocked-check {C} reads (Some limit) started c d e checks late h k = at h.readings h.read (h.timed refl) h.lateness h.first
  where
    at : (rs : List Instant) → Leads reads c rs d → length rs ≡ checks + 1 → is_late (Some limit) rs ≡ false → started ≡ slice_get rs 0 → Clocked reads (Some limit) started c e (checks + 1) late
    at [] read count early first = (let z : 0 ≡ checks + 1 = count in absurd (omega arith))
    at (r ∷ rs) read count early first =
        let k' : (x : Instant) × reads d x e × (late ≡ nat_le limit (x.0 - r.0)) = subst (λ s. Checks reads s (Some limit) d late e) first k in
        record {
          readings = r ∷ (rs ++ k'.0 ∷ []);
          read = Leads-append reads c d e (r ∷ rs) (k'.0 ∷ []) read (e, k'.1, refl);
          timed = λ _. (let plus = length-append rs (k'.0 ∷ []) in grind (arith, plus, count));
          untimed = λ is. absurd (true≢false is);
          ends = subst (λ xs. is_late (Some limit) xs ≡ false) (sym (but_last (r ∷ rs) k'.0)) early;
          lateness = any-push (λ t. nat_le limit (t.0 - r.0)) rs k'.0 ∙ ap (λ b. b || nat_le limit (k'.0.0 - r.0)) early ∙ sym k'.2;
          first = first;
        }

-- ---- whether another pass is due

-- another pass is due where more is left and a record was removed
pub is_due : (left : Bool) (removed : ℕ) → (left && nat_lt 0 removed) ≡ true → (left ≡ true) × (1 ≤ removed)
is_due true removed e = (refl, grind (arith, e))
is_due false removed e = absurd (true≢false (sym e))

pub not_due : (left : Bool) (removed : ℕ) → (left && nat_lt 0 removed) ≡ false → left ≡ true → removed ≡ 0
not_due true removed e is = grind (arith, e)
not_due false removed e is = absurd (true≢false (sym is))

-- ---- passes

-- passes each of which left more and removed a record beside the scan
pub record IsMoving {K V L P : Type 0} (tells : L → K → V → RemovalCause → L → Type 0) (says : P → K → V → Bool → Type 0) (q : Tests) (batch : ℕ) (ordered : Bool) (OnTime : Type 0) (ps qs : List (Registered P)) (first now : Stock K V) (l m : Option L) (passes : ℕ) : Type 0 where
  pub by : IsStepped tells (MayRun says ps (tests_in q)) first now l m
  pub dropped : AreDropped says now.contents ps qs
  pub in_order : FollowsGrounds (SomeCovers says ps) (tests_in q) (NoneCovers says qs) OnTime ordered batch (grounds_of passes) first.contents first.written by.steps
  pub few : passes ≤ length (removed_by by.steps)
  pub turned : ps ≡ [] → passes * batch ≤ length by.steps
  pub many : length by.steps + length now.contents.access ≤ passes * (batch + batch + batch) + length first.contents.access
  pub exact : ps ≡ [] → list_all makes_room by.steps ≡ true → length (removed_by by.steps) ≡ passes * batch
  pub none : passes ≡ 0 → by.steps ≡ []

module _ {K V L P : Type 0} (tells : L → K → V → RemovalCause → L → Type 0) (says : P → K → V → Bool → Type 0) (q : Tests) (batch : ℕ) (ordered : Bool) (OnTime : Type 0) where
  pub moving-none : (ps : List (Registered P)) (c : Stock K V) (l : Option L) → IsMoving tells says q batch ordered OnTime ps ps c c l l 0
  unfolding stepped-none
  moving-none ps c l = record { by = stepped-none tells (MayRun says ps (tests_in q)) c l; dropped = dropped-none says c.contents ps ps refl; in_order = refl; few = omega arith; turned = λ _. omega arith; many = omega arith; exact = λ _ _. omega arith; none = λ _. refl }

  -- there are no more passes than members
  pub moving-few : (ps qs : List (Registered P)) (first now : Stock K V) (l m : Option L) (passes : ℕ) → IsMoving tells says q batch ordered OnTime ps qs first now l m passes → passes ≤ length first.contents.access
  moving-few ps qs first now l m passes h = let s = shorter tells (MayRun says ps (tests_in q)) (run_leaves (tests_in q) says ps) first now l m h.by in let f = h.few in omega arith

times_next : (passes batch : ℕ) → (passes + 1) * batch ≡ passes * batch + batch
times_next passes batch = grind arith

one_less : (passes turns a b c x y z : ℕ) → a + y ≤ passes * turns + x → b + z ≤ turns + y → c ≡ a + b → c + z ≤ (passes + 1) * turns + x
one_less passes turns a b c x y z h k e = let plus : (passes + 1) * turns ≡ passes * turns + turns = times_next passes turns in omega arith

one_more : (passes batch a b c : ℕ) → passes * batch ≤ a → batch ≤ b → c ≡ a + b → (passes + 1) * batch ≤ c
one_more passes batch a b c h k e = let plus = times_next passes batch in omega arith

module _ {K V L P : Type 0} (tells : L → K → V → RemovalCause → L → Type 0) (says : P → K → V → Bool → Type 0) (q : Tests) (batch : ℕ) (ordered : Bool) (OnTime Timely : Type 0) (on_time : OnTime → Timely) (ps rs qs : List (Registered P)) (first now next : Stock K V) (l m n : Option L) (passes removed : ℕ) (more scan : Bool) (h : IsMoving tells says q batch ordered OnTime ps rs first now l m passes) (p : IsPass tells says q batch ordered Timely rs qs now next m n removed more scan) where
  -- the access list became shorter by what was removed
  fewer : length next.contents.access + removed ≤ length now.contents.access
  fewer = let s = shorter tells (MayRun says rs (tests_in q)) (run_leaves (tests_in q) says rs) now next m n p.by in let c = p.count in omega arith

  covered_before : (r : Record K V) → SomeCovers says rs r → SomeCovers says ps r
  covered_before = covers_fewer says ps rs (λ x there. kept_there ps h.dropped.steps x (subst (λ xs. Contains xs x) h.dropped.kept there))

  -- by predicates that were registered at the start
  later : IsStepped tells (MayRun says ps (tests_in q)) now next m n
  later = stepped-also tells (MayRun says rs (tests_in q)) (MayRun says ps (tests_in q)) (fewer_run (tests_in q) says ps rs covered_before) now next m n p.by

  dropped_all : AreDropped says next.contents ps qs
  dropped_all = dropped-on says next.contents ps rs qs (dropped-later says now.contents next.contents (λ k r at. still_there now p.by.steps k r (sym (ap (λ (s : Stock K V). get s.contents.records k) p.by.led) ∙ at)) ps rs h.dropped) p.dropped

  -- none that is left covers what none covered
  spares : (r : Record K V) → NoneCovers says rs r → NoneCovers says qs r
  spares = covers_none says rs qs (λ x there. kept_there rs p.dropped.steps x (subst (λ xs. Contains xs x) p.dropped.kept there))

  in_order_all : FollowsGrounds (SomeCovers says ps) (tests_in q) (NoneCovers says qs) OnTime ordered batch (grounds_of (passes + 1)) first.contents first.written (h.by.steps ++ p.by.steps)
  in_order_all =
      subst (λ gs. FollowsGrounds (SomeCovers says ps) (tests_in q) (NoneCovers says qs) OnTime ordered batch gs first.contents first.written (h.by.steps ++ p.by.steps)) (sym (grounds-next passes))
      (grounds-on (SomeCovers says ps) (tests_in q) (NoneCovers says qs) OnTime ordered batch (grounds_of passes) grounds_of_pass first now h.by.steps p.by.steps h.by.led
      (grounds-also (SomeCovers says ps) (SomeCovers says ps) (λ r covered. covered) (tests_in q) first.contents.sketch ordered (NoneCovers says rs) (NoneCovers says qs) spares OnTime OnTime (λ timely. timely) batch (grounds_of passes) first.contents first.written first.written h.by.steps (λ _. refl) h.in_order)
      (grounds-also (SomeCovers says rs) (SomeCovers says ps) covered_before (tests_in q) now.contents.sketch ordered (NoneCovers says rs) (NoneCovers says qs) spares Timely OnTime on_time batch grounds_of_pass now.contents now.written now.written p.by.steps (λ _. refl) p.in_order))

  -- no predicates are added
  none_yet : ps ≡ [] → rs ≡ []
  none_yet none = nothing_kept ps rs h.dropped.steps none h.dropped.drops h.dropped.kept

  counted : length (removed_by h.by.steps) + removed ≤ length (removed_by (h.by.steps ++ p.by.steps))
  counted = let c = p.count in let a = removed-on h.by.steps p.by.steps in omega arith

  counted_all : list_all makes_room p.by.steps ≡ true → length (removed_by (h.by.steps ++ p.by.steps)) ≡ length (removed_by h.by.steps) + removed
  counted_all rooms = let c = p.counted rooms in let a = removed-on h.by.steps p.by.steps in omega arith

  many_all : length (h.by.steps ++ p.by.steps) + length next.contents.access ≤ (passes + 1) * (batch + batch + batch) + length first.contents.access
  many_all = one_less passes (batch + batch + batch) (length h.by.steps) (length p.by.steps) (length (h.by.steps ++ p.by.steps)) (length first.contents.access) (length now.contents.access) (length next.contents.access) h.many p.many (length-append h.by.steps p.by.steps)

  full_all : ps ≡ [] → (passes + 1 - 1) * batch ≤ length (h.by.steps ++ p.by.steps)
  full_all none = let turned = h.turned none in let both = length-append h.by.steps p.by.steps in let same : passes + 1 - 1 ≡ passes = omega arith in subst (λ k. k * batch ≤ length (h.by.steps ++ p.by.steps)) (sym same) (omega arith)

  -- without predicates the sweeps alone leave more
  by_sweeps : ps ≡ [] → (more || scan) ≡ true → more ≡ true
  by_sweeps none is = sym (ap (λ b. more || b) (p.unregistered (none_yet none)) ∙ or-false more) ∙ is

  -- each record is still a settled member, and there are no more of them
  pub predicates_gone : ordered ≡ true → length first.contents.access ≤ batch → AreAllMembers first → qs ≡ []
  predicates_gone order large all =
      let less = shorter tells (MayRun says ps (tests_in q)) (run_leaves (tests_in q) says ps) first now l m h.by in
      p.predicates order (omega arith) (subst AreAllMembers (sym h.by.led) (members-steps first h.by.steps all))

  pub moving-on : 1 ≤ removed → (more || scan) ≡ true → IsMoving tells says q batch ordered OnTime ps qs first next l n (passes + 1)
  unfolding stepped-on later stepped-also
  moving-on some is = record {
    by = stepped-on tells (MayRun says ps (tests_in q)) first now next l m n h.by later;
    dropped = dropped_all;
    in_order = in_order_all;
    few = (let f = h.few in let c = counted in omega arith);
    turned = λ none. one_more passes batch (length h.by.steps) (length p.by.steps) (length (h.by.steps ++ p.by.steps)) (h.turned none) (p.turned (by_sweeps none is)) (length-append h.by.steps p.by.steps);
    many = many_all;
    exact = λ none all.
        (let rooms = both_make_room h.by.steps p.by.steps all in
        counted_all rooms.1 ∙ ap (λ k. k + removed) (h.exact none rooms.0) ∙ ap (λ k. passes * batch + k) (p.batch_used (by_sweeps none is) some rooms.1) ∙ sym (times_next passes batch));
    none = λ e. absurd (omega arith);
  }

  -- the access list became shorter
  pub moving-less : 1 ≤ removed → length next.contents.access + 1 ≤ length now.contents.access
  moving-less some = let f = fewer in omega arith

  turned_all : ps ≡ [] → (sweep : Sweep) (c : Stock K V) (turns more : ℕ) → more ≡ length h.by.steps + turns → IsDone q sweep batch turns c → IsDone q sweep ((passes + 1) * batch) more c
  turned_all none sweep c turns more e (inl rest) = inl rest
  turned_all none sweep c turns more e (inr (inl unsettled)) = inr (inl unsettled)
  turned_all none sweep c turns more e (inr (inr all)) = inr (inr (one_more passes batch (length h.by.steps) turns more (h.turned none) all e))

  used_all : IsDone q Surplus batch (length (h.by.steps ++ p.by.steps)) next × (ps ≡ [] → IsDone q Surplus ((passes + 1) * batch) (length (h.by.steps ++ p.by.steps)) next)
  used_all =
      let both = length-append h.by.steps p.by.steps in (
        still_done q Surplus batch (length p.by.steps) (length (h.by.steps ++ p.by.steps)) next (omega arith) p.used,
        λ none. turned_all none Surplus next (length p.by.steps) (length (h.by.steps ++ p.by.steps)) both p.used,
      )

  -- where the last sweep of that kind came to, after some steps of the last pass
  module _ (sweep : Sweep) (Whole : Type 0) (whole : Whole → more ≡ false) (at : HasSwept q sweep batch now p.by.steps (more ≡ false)) where
    met : after_steps now at.first ≡ after_steps first (h.by.steps ++ at.first)
    met = ap (λ c. after_steps c at.first) h.by.led ∙ sym (steps-append first h.by.steps at.first)

    swept_all : HasSwept q sweep batch first (h.by.steps ++ p.by.steps) Whole
    swept_all = record {
      first = h.by.steps ++ at.first;
      second = at.second;
      split = ap (λ zs. h.by.steps ++ zs) at.split ∙ sym (append_assoc h.by.steps at.first at.second);
      done = subst (λ c. IsDone q sweep batch (length (h.by.steps ++ at.first)) c) met (still_done q sweep batch (length at.first) (length (h.by.steps ++ at.first)) (after_steps now at.first) (let both = length-append h.by.steps at.first in omega arith) at.done);
      rest = λ is. subst (λ c. HasUnsettled c ⊎ IsAtRest q sweep c) met (at.rest (whole is));
    }

    swept_turned : ps ≡ [] → IsDone q sweep ((passes + 1) * batch) (length (h.by.steps ++ at.first)) (after_steps first (h.by.steps ++ at.first))
    swept_turned none = subst (λ c. IsDone q sweep ((passes + 1) * batch) (length (h.by.steps ++ at.first)) c) met (turned_all none sweep (after_steps now at.first) (length at.first) (length (h.by.steps ++ at.first)) (length-append h.by.steps at.first) at.done)

  -- the last pass: the limit has passed after it, or it left nothing or removed nothing beside its scan
  module _ {C : Type 0} (reads : C → Instant → C → Type 0) (limit : Option ℕ) (started : Option Instant) (c d : C) (checks : ℕ) (late left : Bool) (left_is : left ≡ (more || scan)) (checked : checks ≡ passes + (if late then 1 else 0)) (k : Clocked reads limit started c d checks late)
      (cut : late ≡ true → (left ≡ true) × (1 ≤ removed)) (ended : late ≡ false → left ≡ true → removed ≡ 0) where
    is_whole : is_late limit k.readings ≡ false → late ≡ false
    is_whole early = sym k.lateness ∙ early

    -- the sweeps leave nothing
    swept : (is_late limit k.readings ≡ false) × (1 ≤ batch) → more ≡ false
    swept whole = false_from_ne_true more (λ is. (let none = ended (is_whole whole.0) (left_is ∙ or_left more scan is) in let made = p.more is whole.1 in omega arith))

    pub ran : IsRan tells says q reads limit batch ordered OnTime ps qs first next l n c d (passes + 1) left
    unfolding stepped-on later stepped-also swept_all
    ran = record {
      by = stepped-on tells (MayRun says ps (tests_in q)) first now next l m n h.by later;
      dropped = dropped_all;
      in_order = in_order_all;
      made = omega arith;
      many = many_all;
      full = full_all;
      few = (let f = h.few in let c = counted in omega arith);
      readings = k.readings;
      read = k.read;
      timed = λ is. subst (λ b. length k.readings ≡ passes + 1 + (if b then 1 else 0)) (sym k.lateness) (let t = k.timed is in omega arith);
      untimed = k.untimed;
      ends = k.ends;
      whole = λ early some is. p.scan_more (sym (left_is ∙ ap (λ b. b || scan) (swept (early, some))) ∙ is);
      unfinished = λ order _ some there. elim (p.unfinished order some there) [ inl is ↦ inl (left_is ∙ or_right more scan is) | inr none ↦ inr none ];
      cut = λ late. (cut (sym k.lateness ∙ late)).0;
      removing = λ late. (let some = (cut (sym k.lateness ∙ late)).1 in let f = h.few in let c = counted in omega arith);
      rest = λ early some. p.rest (swept (early, some));
      used = used_all;
      writes_swept = swept_all Written ((is_late limit k.readings ≡ false) × (1 ≤ batch)) swept p.writes_swept;
      reads_swept = swept_all Read ((is_late limit k.readings ≡ false) × (1 ≤ batch)) swept p.reads_swept;
      writes_turned = swept_turned Written ((is_late limit k.readings ≡ false) × (1 ≤ batch)) swept p.writes_swept;
      reads_turned = swept_turned Read ((is_late limit k.readings ≡ false) × (1 ≤ batch)) swept p.reads_swept;
      idle = λ none. left_is ∙ ap (λ b. more || b) (p.scan_idle none) ∙ or-false more ∙ p.idle none;
      exact = λ early some none all.
          (let rooms = both_make_room h.by.steps p.by.steps all in
          let total = counted_all rooms.1 ∙ ap (λ k. k + removed) (h.exact none rooms.0) in
          let whole = ap (λ k. k / batch) total ∙ div-mul-add passes batch removed (p.fewer (swept (early, some)) some rooms.1) in
          sym (ap (λ k. k + 1) whole));
      batch_used = λ late one none all.
          (let was = cut (sym k.lateness ∙ late) in
          let same = ap (λ xs. xs ++ p.by.steps) (h.none (omega arith)) in
          let rooms = both_make_room h.by.steps p.by.steps all in
          ap (λ xs. length (removed_by xs)) same ∙ sym (p.counted rooms.1) ∙ p.batch_used (by_sweeps none (sym left_is ∙ was.0)) was.1 rooms.1);
      predicates = predicates_gone;
    }
