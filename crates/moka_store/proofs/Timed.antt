-- The timers of rows after each change.
use Rattle.std.proofs.Common.{◌≡◌, ◌≢◌, ℕ, zero, suc, ◌<◌, ◌≤◌, true, false, cond, List, [], ◌∷◌, Option, Some, None, IsSome, is_some, count_by, length, inl, inr, refl, sym, ap, subst, ◌∙◌, arith, ◌⊎◌}
use Rattle.std.proofs.lemmas.Bool.{cases_eq, cases_Bool, eq-eqb, ne_eqb, eqb-true, cond-true, cond-false, false≢true}
use Rattle.std.proofs.lemmas.List.{get_or-set_other}
use Rattle.std.specs.FinMap.{FinMap, get, remove, len, entries, len-entries, get-entries, get-empty, empty}
use Rattle.std.specs.FinMap as finite
use Rattle.std.specs.Option.{option_map, option_and_then}
use Rattle.std.specs.Ordering.{nat_cmp}
use Rattle.std.specs.Prelude.{IfSome, slice_set}
use Rattle.moka_structures.proofs.Linked.{linked-same}
use Rattle.moka_links.proofs.FinMaps.{option-cases}
use Rattle.moka_links.proofs.EntryMaps.{same-map}
use Rattle.moka_table.proofs.TableMaps.{read-of, made-of, get-map, map-found, alters-set, map-anew}
use Rattle.moka_table.specs.RecordTable.{Row, row_at, number_at, membership_at, map_of, IsNumbered, ChangesAt}
use Rattle.moka_wheel.specs.TimerWheel.{Timer}
use Rattle.moka_records.proofs.Maps.{itself_ordered}
use Rattle.moka_store.proofs.Gets.{len-removed, after_remove}
use Rattle.moka_store.proofs.Nodes.{count-cleared, LeadsTo}
use Rattle.moka_store.proofs.Slots.{number-of}
use Rattle.moka_store.specs.Store.{with_timer}
use Rattle.moka_store.specs.Rows.{timer_at, moment_in, timers_of}
use Rattle.moka_store.specs.StoreTies.{IsTimed}
use Rattle.moka_store.specs.Timers.{is_slot, timer_for, timer_after}
use Rattle.moka_records.specs.declared.records.Record.{Record}

-- ---- timers in slots

-- without timers there is nothing to change
pub none-after : (before : Option ℕ) (place : ℕ) (at : Option ℕ) (other : ℕ) → get (empty {X = Timer} {R = nat_cmp}) other ≡ timer_after empty before None place at other
none-after before place at other = elim (is_slot before other) as (λ b. get (empty {X = Timer} {R = nat_cmp}) other ≡ cond b None (get (empty {X = Timer} {R = nat_cmp}) other)) [ true ↦ get-empty nat_cmp other | false ↦ refl ]

-- nor has a number one
pub none-timed : {K V : Type 0} (rows : List (Option (Row (Record K V)))) (timers : FinMap nat_cmp Timer) → timers ≡ empty → (n : ℕ) → get (timers_of timers rows) n ≡ None
unfolding timers_of
none-timed {K} {V} rows timers none n = elim (option-cases (get (timers_of timers rows) n)) as (λ _. get (timers_of timers rows) n ≡ None) [
  | inl e ↦ e
  | inr at ↦
      let v = map-found (λ _ row. moment_in timers row) rows n at.0 at.1 in
      let slot = read-of (λ slot. option_map (λ (t : Timer). t.at) (get timers slot)) v.row.timer at.0 v.value_is in
      let gone = ap (option_map (λ (t : Timer). t.at)) (ap (λ m. get m slot.0) none ∙ get-empty nat_cmp slot.0) in
      cc
]

-- ---- rows change, and no timer does

-- a moment stays under its number, where the timers stay at their places, and the rows that have one keep their numbers
moments-kept : {K V : Type 0} (rows new : List (Option (Row (Record K V)))) (timers : FinMap nat_cmp Timer) → IsNumbered (row_at new) → ((p : ℕ) → timer_at new p ≡ timer_at rows p) → ((p : ℕ) → IsSome (timer_at rows p) → number_at new p ≡ number_at rows p)
    → (n at : ℕ) → get (timers_of timers rows) n ≡ Some at → get (timers_of timers new) n ≡ Some at
unfolding timers_of
moments-kept {K} {V} rows new timers d same keeps n at h =
    let v = map-found (λ _ row. moment_in timers row) rows n at h in
    let slot = read-of (λ slot. option_map (λ (t : Timer). t.at) (get timers slot)) v.row.timer at v.value_is in
    let there : timer_at rows v.place ≡ Some slot.0 = ap (option_and_then (λ (row : Row (Record K V)). row.timer)) v.at_is ∙ slot.1 in
    let w = read-of (λ (row : Row (Record K V)). row.timer) (row_at new v.place) slot.0 (same v.place ∙ there) in
    let number : w.0.number ≡ n = sym (number-of new v.place w.0 w.1) ∙ keeps v.place (ap is_some there) ∙ number-of rows v.place v.row v.at_is ∙ v.number_is in
    ap (get (map_of (λ _ row. moment_in timers row) new)) (sym number) ∙ get-map (λ _ row. moment_in timers row) new d v.place w.0 w.1
    ∙ ap (option_and_then (λ slot. option_map (λ (t : Timer). t.at) (get timers slot))) (w.2 ∙ sym slot.1) ∙ v.value_is

module _ {K V : Type 0} (rows new : List (Option (Row (Record K V)))) (timers : FinMap nat_cmp Timer) (t : IsTimed rows timers) (same : (p : ℕ) → timer_at new p ≡ timer_at rows p) where
  -- each row with a timer is still a member
  pub timed-kept : ((p : ℕ) → IsSome (timer_at rows p) → IsSome (membership_at rows p) → IsSome (membership_at new p)) → IsTimed new timers
  timed-kept stay = record {
    linked = linked-same (timer_at rows) (timer_at new) (λ slot. option_map (λ (t : Timer). t.number) (get timers slot)) (λ slot. option_map (λ (t : Timer). t.number) (get timers slot)) t.linked same (λ s. refl);
    members = λ p some. (let old : IsSome (timer_at rows p) = ap is_some (sym (same p)) ∙ some in stay p old (t.members p old));
  }

  -- and has its number
  pub timers-kept : IsNumbered (row_at rows) → IsNumbered (row_at new) → ((p : ℕ) → IsSome (timer_at rows p) → number_at new p ≡ number_at rows p) → timers_of timers new ≡ timers_of timers rows
  timers-kept d e keeps = same-map (timers_of timers new) (timers_of timers rows)
      (moments-kept new rows timers d (λ p. sym (same p)) (λ p some. sym (keeps p (ap is_some (sym (same p)) ∙ some))))
      (moments-kept rows new timers e same keeps)

-- ---- there are fewer timers than rows, where one has none

some-entry : {X : Type 0} (m : FinMap nat_cmp X) (n : ℕ) → len m ≡ suc n → (k : ℕ) × (x : X) × (get m k ≡ Some x)
some-entry {X} m n h = let w = go (entries m) (sym (len-entries m) ∙ h) in (w.0, w.1, get-entries m w.0 ∙ w.2)
  where
    go : (es : List (ℕ × X)) → length es ≡ suc n → (k : ℕ) × (x : X) × (finite.find nat_cmp k es ≡ Some x)
    go [] h = absurd (omega arith)
    go (e ∷ es) h = (e.0, e.1, ap (λ b. cond b (Some e.1) (finite.find nat_cmp e.0 es)) (itself_ordered e.0))

len-timers : {X : Type 0} (f : X → Option ℕ) (n : ℕ) (m : FinMap nat_cmp Timer) (rows : List (Option X)) → len m ≡ n → ((slot : ℕ) (t : Timer) → get m slot ≡ Some t → LeadsTo f rows (slot, t.number)) → n ≤ count_by is_some rows
len-timers f zero m rows h leads = omega arith
len-timers f (suc n) m rows h leads =
    let e = some-entry m n h in
    let w = leads e.0 e.1 e.2 in
    let c = count-cleared rows e.1.number w.0 w.1 in
    let fewer = len-removed m e.0 e.1 e.2 in
    let rest : n ≤ count_by is_some (slice_set rows e.1.number None) = len-timers f n (remove m e.0) (slice_set rows e.1.number None) (omega arith) (λ slot t there.
    let a = after_remove m e.0 slot t there in
    let v = leads slot t a.1 in
    let apart : t.number ≢ e.1.number = (λ s. a.0 (cc)) in
    (v.0, get_or-set_other rows e.1.number t.number None None apart ∙ v.1, v.2)) in
    omega (arith, c, rest)

module _ {K V : Type 0} (rows : List (Option (Row (Record K V)))) (timers : FinMap nat_cmp Timer) (t : IsTimed rows timers) (place : ℕ) (was : Row (Record K V)) (at_is : row_at rows place ≡ Some was) where
  pub timed-below : was.timer ≡ None → len timers < count_by is_some rows
  timed-below none =
      let c = count-cleared rows place was at_is in
      let rest : len timers ≤ count_by is_some (slice_set rows place None) = len-timers (λ (row : Row (Record K V)). row.timer) (len timers) timers (slice_set rows place None) refl (λ slot x there.
      let v = read-of (λ (row : Row (Record K V)). row.timer) (row_at rows x.number) slot (t.linked.to_slot slot x.number (ap (option_map (λ (t : Timer). t.number)) there)) in
      let apart : x.number ≢ place = (λ s. cc) in
      (v.0, get_or-set_other rows place x.number None None apart ∙ v.1, v.2)) in
      omega (arith, c, rest)

  -- the timer in a row's slot is the row's
  pub timer-held : IfSome was.timer (λ slot. option_map (λ (t : Timer). t.number) (get timers slot) ≡ Some place)
  timer-held = elim was.timer as (λ o. was.timer ≡ o → IfSome o (λ slot. option_map (λ (t : Timer). t.number) (get timers slot) ≡ Some place)) [
    | None ↦ λ _. tt
    | Some slot ↦ λ is. t.linked.to_place slot place (ap (option_and_then (λ (row : Row (Record K V)). row.timer)) at_is ∙ is)
  ] refl

  -- a row's moment is under its number
  pub moment-row : IsNumbered (row_at rows) → get (timers_of timers rows) was.number ≡ moment_in timers was
  unfolding timers_of
  moment-row d = get-map (λ _ row. moment_in timers row) rows d place was at_is

  -- a number without a moment is of a row without a timer
  pub timer-free : IsNumbered (row_at rows) → get (timers_of timers rows) was.number ≡ None → was.timer ≡ None
  timer-free d free = elim (option-cases was.timer) as (λ _. was.timer ≡ None) [
    | inl none ↦ none
    | inr s ↦
        let held = t.linked.to_place s.0 place (ap (option_and_then (λ (row : Row (Record K V)). row.timer)) at_is ∙ s.1) in
        let there = made-of (λ (t : Timer). t.number) (get timers s.0) place held in
        let moment = moment-row d ∙ ap (option_and_then (λ slot. option_map (λ (t : Timer). t.at) (get timers slot))) s.1 ∙ ap (option_map (λ (t : Timer). t.at)) there.1 in
        cc
  ]

  -- only a member's row has one
  pub untimed : was.membership ≡ None → was.timer ≡ None
  untimed alone = elim (option-cases was.timer) as (λ _. was.timer ≡ None) [
    | inl none ↦ none
    | inr s ↦
        let some = t.members place (ap is_some (ap (option_and_then (λ (row : Row (Record K V)). row.timer)) at_is ∙ s.1)) in
        let none = ap is_some (ap (option_and_then (λ (row : Row (Record K V)). row.membership)) at_is ∙ alone) in
        cc
  ]

-- ---- one row's timer changes

slot-true : (o : Option ℕ) (s : ℕ) → is_slot o s ≡ true → o ≡ Some s
slot-true None s e = absurd (false≢true e)
slot-true (Some slot) s e = ap Some (sym (eqb-true s slot e))

slot-here : (o : Option ℕ) (s : ℕ) → o ≡ Some s → is_slot o s ≡ true
slot-here o s e = ap (λ o. is_slot o s) e ∙ eq-eqb s s refl

slot-false : (o : Option ℕ) (s : ℕ) → (o ≡ Some s → ⊥) → is_slot o s ≡ false
slot-false None s h = refl
slot-false (Some slot) s h = ne_eqb s slot (λ e. h (ap Some (sym e)))

module _ {K V : Type 0} (rows new : List (Option (Row (Record K V)))) (timers after : FinMap nat_cmp Timer) (t : IsTimed rows timers) (place : ℕ) (was : Row (Record K V)) (at_is : row_at rows place ≡ Some was) (slot at : Option ℕ)
    (c : ChangesAt (row_at rows) (row_at new) place (Some (record was { timer = slot })))
    (fresh : IfSome slot (λ s. (was.timer ≡ Some s) ⊎ (get timers s ≡ None)))
    (lookups : (other : ℕ) → get after other ≡ timer_after timers was.timer slot place at other) (some : IsSome slot → IsSome at) where
  timer-was : timer_at rows place ≡ was.timer
  timer-was = ap (option_and_then (λ (row : Row (Record K V)). row.timer)) at_is

  timer-now : timer_at new place ≡ slot
  timer-now = ap (option_and_then (λ (row : Row (Record K V)). row.timer)) c.changed

  -- what stands in the row's slot now
  own-timer : (s : ℕ) → slot ≡ Some s → get after s ≡ timer_for place at
  own-timer s is = lookups s ∙ cond-true (is_slot slot s) (timer_for place at) (cond (is_slot was.timer s) None (get timers s)) (slot-here slot s is)

  -- no other row had this slot
  not-was : (p s : ℕ) → p ≢ place → timer_at rows p ≡ Some s → was.timer ≡ Some s → ⊥
  not-was p s ne there is =
      let one = t.linked.to_place s p there in
      let other = t.linked.to_place s place (timer-was ∙ is) in
      ne (cc)

  not-now : (p s : ℕ) → p ≢ place → timer_at rows p ≡ Some s → slot ≡ Some s → ⊥
  not-now p s ne there is = elim (subst (λ o. IfSome o (λ s. (was.timer ≡ Some s) ⊎ (get timers s ≡ None))) is fresh) [
    | inl own ↦ not-was p s ne there own
    | inr free ↦ (let one = t.linked.to_place s p there in let none = ap (option_map (λ (t : Timer). t.number)) free in cc)
  ]

  -- other rows' timers stay
  other-timer : (p s : ℕ) → p ≢ place → timer_at rows p ≡ Some s → get after s ≡ get timers s
  other-timer p s ne there =
      lookups s ∙ cond-false (is_slot slot s) (timer_for place at) (cond (is_slot was.timer s) None (get timers s)) (slot-false slot s (not-now p s ne there))
      ∙ cond-false (is_slot was.timer s) None (get timers s) (slot-false was.timer s (not-was p s ne there))

  for-place : (o : Option ℕ) → IsSome o → option_map (λ (t : Timer). t.number) (timer_for place o) ≡ Some place
  for-place None h = absurd (false≢true h)
  for-place (Some x) h = refl

  its-place : (o : Option ℕ) (p : ℕ) → option_map (λ (t : Timer). t.number) (timer_for place o) ≡ Some p → p ≡ place
  its-place None p h = cc
  its-place (Some x) p h = cc

  read-other : (p : ℕ) → p ≢ place → timer_at new p ≡ timer_at rows p
  read-other p ne = ap (option_and_then (λ (row : Row (Record K V)). row.timer)) (c.others p ne)

  to-slot : (s p : ℕ) → option_map (λ (t : Timer). t.number) (get after s) ≡ Some p → timer_at new p ≡ Some s
  to-slot s p h = elim (cases_Bool (is_slot slot s)) as (λ _. timer_at new p ≡ Some s) [
    | inl y ↦
        let is = slot-true slot s y in
        let here = its-place at p (ap (option_map (λ (t : Timer). t.number)) (sym (own-timer s is)) ∙ h) in
        ap (timer_at new) here ∙ timer-now ∙ is
    | inr n ↦
        let past = lookups s ∙ cond-false (is_slot slot s) (timer_for place at) (cond (is_slot was.timer s) None (get timers s)) n in
        elim (cases_Bool (is_slot was.timer s)) as (λ _. timer_at new p ≡ Some s) [
          | inl y ↦ (let none = ap (option_map (λ (t : Timer). t.number)) (past ∙ cond-true (is_slot was.timer s) None (get timers s) y) in cc)
          | inr k ↦
              let there = t.linked.to_slot s p (sym (ap (option_map (λ (t : Timer). t.number)) (past ∙ cond-false (is_slot was.timer s) None (get timers s) k)) ∙ h) in
              read-other p (λ e. false≢true (sym k ∙ slot-here was.timer s (sym timer-was ∙ ap (timer_at rows) (sym e) ∙ there))) ∙ there
        ]
  ]

  to-place : (s p : ℕ) → timer_at new p ≡ Some s → option_map (λ (t : Timer). t.number) (get after s) ≡ Some p
  to-place s p h = elim (cases_eq p place) as (λ _. option_map (λ (t : Timer). t.number) (get after s) ≡ Some p) [
    | inl e ↦
        let is : slot ≡ Some s = sym timer-now ∙ ap (timer_at new) (sym e) ∙ h in
        ap (option_map (λ (t : Timer). t.number)) (own-timer s is) ∙ for-place at (some (ap is_some is)) ∙ ap Some (sym e)
    | inr ne ↦
        let there = sym (read-other p ne) ∙ h in
        ap (option_map (λ (t : Timer). t.number)) (other-timer p s ne there) ∙ t.linked.to_place s p there
  ]

  -- only a member gets a timer
  pub timed-set : (IsSome slot → IsSome was.membership) → IsTimed new after
  timed-set member = record {
    linked = record { to_slot = to-slot; to_place = to-place };
    members = λ p h. elim (cases_eq p place) as (λ _. IsSome (membership_at new p)) [
      | inl e ↦
          let has : IsSome slot = ap is_some (sym timer-now ∙ ap (timer_at new) (sym e)) ∙ h in
          ap is_some (ap (membership_at new) e ∙ ap (option_and_then (λ (row : Row (Record K V)). row.membership)) c.changed) ∙ member has
      | inr ne ↦
          ap is_some (ap (option_and_then (λ (row : Row (Record K V)). row.membership)) (c.others p ne)) ∙ t.members p (ap is_some (sym (read-other p ne)) ∙ h)
    ];
  }

  moment-now : (o : Option ℕ) → slot ≡ o → option_and_then (λ s. option_map (λ (t : Timer). t.at) (get after s)) slot ≡ cond (is_some o) at None
  moment-now None is = ap (option_and_then (λ s. option_map (λ (t : Timer). t.at) (get after s))) is
  moment-now (Some s) is = ap (option_and_then (λ s. option_map (λ (t : Timer). t.at) (get after s))) is ∙ ap (option_map (λ (t : Timer). t.at)) (own-timer s is) ∙ same at
    where
      same : (o : Option ℕ) → option_map (λ (t : Timer). t.at) (timer_for place o) ≡ o
      same None = refl
      same (Some x) = refl

  pub timers-set : IsNumbered (row_at rows) → timers_of after new ≡ with_timer (timers_of timers rows) was.number (cond (is_some slot) at None)
  unfolding timers_of
  timers-set d =
      map-anew (alters-set d was (record was { timer = slot }) at_is refl c) (λ _ row. moment_in timers row) (λ _ row. moment_in after row)
      (λ p other ne there. elim (option-cases other.timer) as (λ _. moment_in after other ≡ moment_in timers other) [
        | inl none ↦ rw none refl
        | inr s ↦ rw s.1 (ap (option_map (λ (t : Timer). t.at)) (other-timer p s.0 ne (ap (option_and_then (λ (row : Row (Record K V)). row.timer)) there ∙ s.1)))
      ])
      ∙ ap (with_timer (map_of (λ _ row. moment_in timers row) rows) was.number) (moment-now slot refl)

  -- a timer taken out
  pub timers-gone : IsNumbered (row_at rows) → slot ≡ None → timers_of after new ≡ remove (timers_of timers rows) was.number
  timers-gone d none = timers-set d ∙ ap (λ o. with_timer (timers_of timers rows) was.number (cond (is_some o) at None)) none

module _ {K V : Type 0} (rows : List (Option (Row (Record K V)))) (timers : FinMap nat_cmp Timer) (t : IsTimed rows timers) (d : IsNumbered (row_at rows)) where
  -- the row of a timer in a slot
  pub record TimerRow (slot place at : ℕ) : Type 0 where
    pub row : Row (Record K V)
    pub at_is : row_at rows place ≡ Some row
    pub timer_is : row.timer ≡ Some slot
    pub moment_is : get (timers_of timers rows) row.number ≡ Some at
    pub member : IsSome row.membership

  pub timer-row : (slot place at : ℕ) → get timers slot ≡ Some (record { number = place; at = at }) → TimerRow slot place at
  timer-row slot place at h =
      let there : timer_at rows place ≡ Some slot = t.linked.to_slot slot place (ap (option_map (λ (t : Timer). t.number)) h) in
      let w = read-of (λ (row : Row (Record K V)). row.timer) (row_at rows place) slot there in
      record {
        row = w.0;
        at_is = w.1;
        timer_is = w.2;
        moment_is = moment-row rows timers t place w.0 w.1 d ∙ ap (option_and_then (λ slot. option_map (λ (t : Timer). t.at) (get timers slot))) w.2 ∙ ap (option_map (λ (t : Timer). t.at)) h;
        member = ap is_some (sym (ap (option_and_then (λ (row : Row (Record K V)). row.membership)) w.1)) ∙ t.members place (ap is_some there);
      }

  -- where each timer lies ahead, each number's moment does
  pub all-ahead : (now : ℕ) → ((slot : ℕ) (timer : Timer) → get timers slot ≡ Some timer → now < timer.at) → (n at : ℕ) → get (timers_of timers rows) n ≡ Some at → now < at
  unfolding timers_of
  all-ahead now ahead n at h =
      let w = map-found (λ _ row. moment_in timers row) rows n at h in
      let slot = read-of (λ slot. option_map (λ (t : Timer). t.at) (get timers slot)) w.row.timer at w.value_is in
      let timer = made-of (λ (t : Timer). t.at) (get timers slot.0) at slot.2 in
      subst (λ x. now < x) timer.2 (ahead slot.0 timer.0 timer.1)
